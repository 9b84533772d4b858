-- Forms that lie end to end: the first, what follows it, and all of them.
-- Assumes nothing.
use Prim.Native.Nat.{ℕ, zero, suc, ◌+◌, ◌≤◌, ◌<◌}
use native.Mathlib.Omega.{arith}
use mathlib.Core.Path.{◌≡◌, refl, sym, ap, ap₂, ◌∙◌}
use mathlib.Core.Bool.{true, false}
use mathlib.Core.List.{List, [], ◌∷◌, ◌++◌, append_assoc}
use lib.ListN.{length, take, drop, length-append, length-take, length-drop, take-append-drop}
use lib.Seq.{take_all, take_at, take-append-le, drop_at, drop-length}
use Rattle.octets.specs.Octets.{number, Bytes}
use Rattle.octets.proofs.NumberLaws.{take_is}
use Rattle.history.specs.Form.{is_whole, front_form, after_front, first_forms, forms_in}
use Rattle.history.proofs.FormLaws.{whole}
use Rattle.history.proofs.VerdictLaws.{refuted}

-- ---- the first

-- bytes that hold no more than one form stay as they are
pub front_all : (b : List ℕ) → length b ≤ 4 + number (take 4 b) → b ≡ front_form b
unfolding front_form
front_all b h = sym (take_all (4 + number (take 4 b)) b h)

pub front_is : (b : List ℕ) (n : ℕ) → n ≡ number (take 4 b) → take (4 + n) b ≡ front_form b
unfolding front_form
front_is b n e = ap (λ (m : ℕ). take (4 + m) b) e

-- what follows it begins where it ends
pub after_is : (b : List ℕ) → after_front b ≡ drop (length (front_form b)) b
unfolding front_form after_front
after_is b = go b (4 + number (take 4 b))
  where
    go : (b : List ℕ) (n : ℕ) → drop n b ≡ drop (length (take n b)) b
    go b zero = refl
    go [] (suc n) = refl
    go (c ∷ b) (suc n) = go b n

-- the two are all bytes
pub front_after : (b : List ℕ) → front_form b ++ after_front b ≡ b
unfolding front_form after_front
front_after b = take-append-drop (4 + number (take 4 b)) b

-- it has a byte, if there is one
pub front_some : (b : List ℕ) → 0 < length b → 0 < length (front_form b)
unfolding front_form
front_some [] h = elim h [ ]
front_some (c ∷ b) h = go (4 + number (take 4 (c ∷ b))) (omega arith)
  where
    go : (n : ℕ) → 0 < n → 0 < length (take n (c ∷ b))
    go zero h = h
    go (suc n) h = omega arith

-- it has no byte more
pub front_short : (b : List ℕ) → length (front_form b) ≤ length b
unfolding front_form
front_short b = rw (length-take (4 + number (take 4 b)) b) (omega arith)

pub front_bytes : (b : List ℕ) → Bytes b → Bytes (front_form b)
unfolding front_form
front_bytes b h = take_is (4 + number (take 4 b)) b h

module _ (least : ℕ) (L rest : List ℕ) (h : is_whole least L ≡ true) where
  long : 4 + number (take 4 (L ++ rest)) ≡ length L
  long =
      let w = whole least L h in
      rw (take-append-le 4 L rest (omega (arith, w.length_is)), ← w.length_is)

  -- a whole form is given alone, whatever follows it ..
  pub front_alone : front_form (L ++ rest) ≡ L
  unfolding front_form
  front_alone = take_at L rest _ (sym long)

  -- .. and that is left
  pub after_alone : after_front (L ++ rest) ≡ rest
  unfolding after_front
  after_alone = drop_at L rest _ (sym long)

-- if the first is cut off, what is given is no whole form
pub front_cut : (least : ℕ) (b : List ℕ) → length b < 4 + number (take 4 b) → is_whole least (front_form b) ≡ false
front_cut least b h =
    ap (is_whole least) (sym (front_all b (omega arith)))
    ∙ refuted (is_whole least b) (λ e. omega (arith, (whole least b e).length_is))

-- ---- all of them

-- what follows the first is shorter
after_less : (c : ℕ) (b : List ℕ) → length (after_front (c ∷ b)) ≤ length b
unfolding after_front
after_less c b = rw (length-drop (4 + number (take 4 (c ∷ b))) (c ∷ b)) (omega arith)

-- turns beyond the bytes find nothing more
enough : (n m : ℕ) (b : List ℕ) → length b ≤ n → length b ≤ m → first_forms n b ≡ first_forms m b
enough zero zero b g h = refl
enough zero (suc m) [] g h = refl
enough (suc n) zero [] g h = refl
enough (suc n) (suc m) [] g h = refl
enough zero (suc m) (c ∷ b) g h = absurd (omega arith)
enough (suc n) zero (c ∷ b) g h = absurd (omega arith)
enough (suc n) (suc m) (c ∷ b) g h =
    let l = after_less c b in
    ap (λ (r : List (List ℕ)). front_form (c ∷ b) ∷ r) (enough n m (after_front (c ∷ b)) (omega arith) (omega arith))

-- no bytes hold none; else there is the first, and those in what follows it
pub forms_none : forms_in [] ≡ []
unfolding forms_in
forms_none = refl

pub forms_more : (b : List ℕ) → 0 < length b → forms_in b ≡ front_form b ∷ forms_in (after_front b)
unfolding forms_in
forms_more [] h = elim h [ ]
forms_more (c ∷ b) h =
    ap (λ (r : List (List ℕ)). front_form (c ∷ b) ∷ r)
    (enough (length b) (length (after_front (c ∷ b))) (after_front (c ∷ b)) (after_less c b) (omega arith))

-- bytes that hold no more than one form are the only one
pub forms_cut : (b : List ℕ) → 0 < length b → length b ≤ 4 + number (take 4 b) → forms_in b ≡ b ∷ []
forms_cut b h g =
    let same = sym (front_all b g) in
    let none : after_front b ≡ [] = after_is b ∙ ap (λ (f : List ℕ). drop (length f) b) same ∙ drop-length b in
    forms_more b h ∙ ap₂ ◌∷◌ same (ap forms_in none ∙ forms_none)

-- forms end to end
abbrev pub end_to_end : List (List ℕ) → List ℕ
end_to_end [] = []
end_to_end (L ∷ Ls) = L ++ end_to_end Ls

-- each fills its bytes exactly
abbrev pub AllWhole : List (List ℕ) → Type 0
AllWhole [] = Unit {0}
AllWhole (L ∷ Ls) = (is_whole 0 L ≡ true) × AllWhole Ls

-- whole forms end to end are found one by one, and then those in what follows them
pub forms_apart : (Ls : List (List ℕ)) (b : List ℕ) → AllWhole Ls → forms_in (end_to_end Ls ++ b) ≡ Ls ++ forms_in b
forms_apart [] b h = refl
forms_apart (L ∷ Ls) b h =
    let rest : List ℕ = end_to_end Ls ++ b in
    ap forms_in (append_assoc L (end_to_end Ls) b)
    ∙ forms_more (L ++ rest) (rw (length-append L rest) (omega (arith, (whole 0 L h.0).long)))
    ∙ ap₂ ◌∷◌ (front_alone 0 L rest h.0) (ap forms_in (after_alone 0 L rest h.0) ∙ forms_apart Ls b h.1)

-- nothing is lost
pub forms_all : (b : List ℕ) → end_to_end (forms_in b) ≡ b
unfolding forms_in
forms_all b = go (length b) b (omega arith)
  where
    go : (n : ℕ) (b : List ℕ) → length b ≤ n → end_to_end (first_forms n b) ≡ b
    go zero [] h = refl
    go (suc n) [] h = refl
    go zero (c ∷ b) h = absurd (omega arith)
    go (suc n) (c ∷ b) h =
        let l = after_less c b in
        ap (λ (r : List ℕ). front_form (c ∷ b) ++ r) (go n (after_front (c ∷ b)) (omega arith)) ∙ front_after (c ∷ b)
