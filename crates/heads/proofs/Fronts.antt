-- The first of several forms that lie end to end.
-- Assumes nothing.
use Prim.Native.Nat.{ℕ, ◌+◌, ◌≤◌, ◌<◌}
use native.Mathlib.Omega.{arith}
use mathlib.Core.Path.{◌≡◌, refl, sym, ap, ◌∙◌}
use mathlib.Core.Bool.{true, false}
use mathlib.Core.List.{List, ◌++◌}
use lib.ListN.{length, take}
use lib.Seq.{take_all, take_at, take-append-le}
use Rattle.octets.specs.Octets.{number}
use Rattle.history.specs.Form.{is_whole}
use Rattle.history.proofs.FormLaws.{whole}
use Rattle.history.proofs.VerdictLaws.{refuted}
use Rattle.heads.specs.Heads.{front_form}

-- bytes that hold no more than one form stay as they are
pub front_all : (b : List ℕ) → length b ≤ 4 + number (take 4 b) → b ≡ front_form b
unfolding front_form
front_all b h = sym (take_all (4 + number (take 4 b)) b h)

pub front_is : (b : List ℕ) (n : ℕ) → n ≡ number (take 4 b) → take (4 + n) b ≡ front_form b
unfolding front_form
front_is b n e = ap (λ (m : ℕ). take (4 + m) b) e

-- a whole form is given alone, whatever follows it
pub front_alone : (least : ℕ) (L rest : List ℕ) → is_whole least L ≡ true → front_form (L ++ rest) ≡ L
unfolding front_form
front_alone least L rest h =
    let w = whole least L h in
    rw (take-append-le 4 L rest (omega (arith, w.length_is)), ← w.length_is) (take_at L rest (length L) refl)

-- if the first is cut off, what is given is no whole form
pub front_cut : (least : ℕ) (b : List ℕ) → length b < 4 + number (take 4 b) → is_whole least (front_form b) ≡ false
front_cut least b h =
    ap (is_whole least) (sym (front_all b (omega arith)))
    ∙ refuted (is_whole least b) (λ e. omega (arith, (whole least b e).length_is))
