-- What the check of an image gives, at each place where it ends.
-- Assumes nothing.
use Prim.Native.Nat.{ℕ, ◌+◌}
use Rattle.kinds.specs.declared.Kind.{Kind}
use native.Mathlib.Omega.{arith}
use mathlib.Core.Path.{◌≡◌, sym, ap, ◌∙◌}
use mathlib.Core.Bool.{true, false}
use mathlib.Core.List.{List}
use lib.ListN.{length, get_or}
use borrow.Author.Tests.{eq-eqb, ne_eqb}
use Rattle.std.specs.Prelude.{Err}
use Rattle.history.specs.Verdict.{checked, unnamed}
use Rattle.history.specs.Image.{image_version_good, widths, read_words, read_image}
use Rattle.history.specs.Form.{is_whole}
use Rattle.heads.specs.Heads.{is_under, elements_place, image_head, elements_in}
use Rattle.heads.proofs.Places.{head_is}
use Rattle.heads.proofs.Chains.{image_with, image_chain}
use Rattle.tables.specs.Plans.{plan_with}
use Rattle.tables.proofs.AnswerLaws.{checked_then}

module _ (x y : ℕ) (ks : List Kind) (b : List ℕ) where
  pub not_whole : is_whole 7 b ≡ false → Err (unnamed 1 0) ≡ checked (read_image (plan_with x y ks) b)
  not_whole e = rw (image_chain (plan_with x y ks) b, e)

  module _ (whole : is_whole 7 b ≡ true) where
    pub other_version : image_version_good (get_or b 4 0) ≡ false
        → Err (unnamed 2 0) ≡ checked (read_image (plan_with x y ks) b)
    other_version e = rw (image_chain (plan_with x y ks) b, whole, e)

    module _ (version : image_version_good (get_or b 4 0) ≡ true) where
      pub not_under : is_under x y b ≡ false → Err (unnamed 9 0) ≡ checked (read_image (plan_with x y ks) b)
      not_under e = rw (image_chain (plan_with x y ks) b, whole, version, e)

      module _ (under : is_under x y b ≡ true) (place : ℕ) (place_is : place ≡ elements_place (get_or b 4 0)) (w : ℕ)
          (w-is : w ≡ widths ks) where
        pub other_size : (length b ≡ place + w → ⊥) → Err (unnamed 8 0) ≡ checked (read_image (plan_with x y ks) b)
        other_size h =
            let n : (length b ≡ image_head b + widths ks → ⊥) =
            λ e. h (omega (arith, head_is b place place_is)) in
            rw (
              image_chain (plan_with x y ks) b,
              whole,
              version,
              under,
              ne_eqb (length b) (image_head b + widths ks) n,
            )

        pub by_words : length b ≡ place + w → (words : List ℕ) → words ≡ elements_in b
            → checked (read_words 0 ks words) ≡ checked (read_image (plan_with x y ks) b)
        by_words h words e =
            let size : length b ≡ image_head b + widths ks = omega (arith, head_is b place place_is) in
            ap (λ (c : List ℕ). checked (read_words 0 ks c)) e
            ∙ sym (ap checked
            (image_chain (plan_with x y ks) b
            ∙ rw (whole, version, under, eq-eqb (length b) (image_head b + widths ks) size))
            ∙ checked_then (read_words 0 ks (elements_in b)) (image_with b))
