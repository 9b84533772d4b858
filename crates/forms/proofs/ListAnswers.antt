-- What the check of a list gives, at each place where it ends.
-- Assumes nothing.
use Prim.Native.Nat.{ℕ}
use Rattle.kinds.specs.declared.Kind.{Kind}
use mathlib.Core.Path.{◌≡◌, sym, ap, ap₂, ◌∙◌}
use mathlib.Core.Bool.{true, false}
use mathlib.Core.List.{List}
use lib.Dec.{eqb}
use lib.ListN.{get_or}
use borrow.Author.Tests.{eq-eqb, ne_eqb}
use Rattle.std.specs.Prelude.{Err}
use Rattle.history.specs.Verdict.{checked, unnamed}
use Rattle.history.specs.Changes.{list_version, read_entries, read_list}
use Rattle.history.specs.Form.{is_whole}
use Rattle.heads.specs.Heads.{is_under, entry_count_in, entries_in}
use Rattle.heads.proofs.Chains.{list_with, list_chain}
use Rattle.tables.specs.Plans.{plan_with}
use Rattle.tables.proofs.AnswerLaws.{checked_then}

module _ (x y : ℕ) (ks : List Kind) (b : List ℕ) where
  pub not_whole : is_whole 13 b ≡ false → Err (unnamed 1 0) ≡ checked (read_list (plan_with x y ks) b)
  not_whole e = rw (list_chain (plan_with x y ks) b, e)

  module _ (whole : is_whole 13 b ≡ true) where
    pub other_version : (get_or b 4 0 ≡ 1 → ⊥) → Err (unnamed 2 0) ≡ checked (read_list (plan_with x y ks) b)
    unfolding list_version
    other_version h = rw (list_chain (plan_with x y ks) b, whole, ne_eqb 1 (get_or b 4 0) (λ e. h (sym e)))

    module _ (version : get_or b 4 0 ≡ 1) where
      good : eqb list_version (get_or b 4 0) ≡ true
      unfolding list_version
      good = eq-eqb 1 (get_or b 4 0) (sym version)

      pub not_under : is_under x y b ≡ false → Err (unnamed 9 0) ≡ checked (read_list (plan_with x y ks) b)
      not_under e = rw (list_chain (plan_with x y ks) b, whole, good, e)

      module _ (under : is_under x y b ≡ true) where
        pub by_entries : (count : ℕ) (entries : List ℕ) → count ≡ entry_count_in b → entries ≡ entries_in b
            → checked (read_entries ks 0 count entries) ≡ checked (read_list (plan_with x y ks) b)
        by_entries count entries e f =
            ap₂ (λ (n : ℕ) (c : List ℕ). checked (read_entries ks 0 n c)) e f
            ∙ sym (ap checked (list_chain (plan_with x y ks) b ∙ rw (whole, good, under))
            ∙ checked_then (read_entries ks 0 (entry_count_in b) (entries_in b)) (list_with b))
