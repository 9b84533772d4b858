-- What the crate `elements` shows of elements and states, in the words of `history`.
-- Assumes nothing.
use Prim.Native.Nat.{ℕ, zero, suc, ◌+◌, ◌*◌, ◌^◌, ◌≤◌, ◌<◌}
use native.Mathlib.Omega.{arith}
use native.Mathlib.Nat.{pow-suc}
use mathlib.Core.Path.{◌≡◌, refl, sym, ap, ◌∙◌}
use mathlib.Core.Bool.{true}
use lib.Dec.{ltb}
use lib.Pow.{pow-add, pow_pos}
use borrow.Author.Tests.{eq-eqb, lt-ltb, ltb-true, eqb-true}
use Rattle.rows.specs.Values.{Finding, code_at}
use Rattle.std.proofs.Common.{Ok, Err, is_ok}
use Rattle.rows.specs.declared.Refusal.{Refusal}
use Rattle.kinds.specs.Kinds.{layout_no, width_of, kind_in}
use Rattle.elements.specs.Elements.{same_kind, element_check, state_of, word_of, state_read}
use Rattle.kinds.specs.declared.Kind.{Kind}
use Rattle.kinds.specs.declared.Element.{Element}
use Rattle.elements.proofs.Covering.{cover, kind_same}
use Rattle.elements.proofs.Laws.{word_fits, state_word_state, word_state_word, accepted_state}
use Rattle.elements.proofs.DatLaws.{Stale, state_accepted, state_stale}
use Rattle.elements.proofs.Findings.{Refuses, element_refuses, zero_found}
use Rattle.history.specs.Verdict.{Verdict, done}
use Rattle.history.specs.Image.{element, ◌of◌⨾◌, admits}
use Rattle.history.proofs.VerdictLaws.{all, left, right}

-- ---- one element

pub was_accepted : {A : Type 0} (v : Finding) (i : ℕ) (r : Verdict A) {a : A} → (v of i ⨾ r) ≡ done a
    → (is_ok v ≡ true) × (r ≡ done a)
was_accepted (Ok tt) i r e = (refl, e)
was_accepted (Err x) i r e = absurd (let z : ◌≡◌ {A = ℕ} 0 1 = cc in omega arith)

pub is_accepted_lem : {A : Type 0} (v : Finding) (i : ℕ) (r : Verdict A) → is_ok v ≡ true → (v of i ⨾ r) ≡ r
is_accepted_lem (Ok tt) i r e = refl
is_accepted_lem (Err x) i r e = absurd (let z : ◌≡◌ {A = ℕ} 0 1 = cc in omega arith)

pub admits_fits : (k : Kind) (w : ℕ) → admits k w ≡ true → w < 256 ^ width_of k
admits_fits k w h = ltb-true w (256 ^ width_of k) (left (ltb w (256 ^ width_of k)) _ h)

pub admits_accepted : (k : Kind) (w : ℕ) → admits k w ≡ true → is_ok (element k w) ≡ true
admits_accepted k w h = right (ltb w (256 ^ width_of k)) _ h

pub width_few : (k : Kind) → width_of k ≤ 4
width_few k = omega (arith, (cover k).narrow)

-- ---- round trips

pow_256 : (n : ℕ) → 256 ^ n ≡ 2 ^ (8 * n)
pow_256 zero = refl
pow_256 (suc n) =
    let e : 8 * suc n ≡ 8 * n + 8 = omega arith in
    pow-suc 256 n ∙ ap (λ (m : ℕ). m * 256) (pow_256 n) ∙ sym (ap (λ (m : ℕ). 2 ^ m) e ∙ pow-add 2 (8 * n) 8)

accepted : (v : Finding) → is_ok v ≡ true → v ≡ Ok tt
accepted (Ok tt) e = refl
accepted (Err r) e = absurd (let z : ◌≡◌ {A = ℕ} 0 1 = cc in omega arith)

-- a number read as a state and turned back is the same number
pub word_again : (k : Kind) (w : ℕ) → admits k w ≡ true → word_of (state_of k w) ≡ w
unfolding element
word_again k w h =
    let fits : w < 2 ^ (8 * width_of k) = rw (pow_256 (width_of k)) at (admits_fits k w h) in
    word_state_word k w fits (accepted (element_check k w) (admits_accepted k w h))

-- reading an element's fields gives its state
pub admits_read : (k : Kind) (w : ℕ) → admits k w ≡ true → state_read k w ≡ state_of k w
unfolding element
admits_read k w h = accepted_state k w (accepted (element_check k w) (admits_accepted k w h))

-- a state turned into a number and read again is the same state
pub state_again : (k : Kind) (e : Element) → kind_in e ≡ k → state_of k (word_of e) ≡ e
state_again k e s = ap (λ (j : Kind). state_of j (word_of e)) (sym s) ∙ state_word_state e

pub state_admitted : (k : Kind) (e : Element) → kind_in e ≡ k → is_ok (element k (word_of e)) ≡ true
    → admits k (word_of e) ≡ true
state_admitted k e s h =
    let fits : word_of e < 256 ^ width_of k = rw (← s, pow_256 (width_of (kind_in e))) (word_fits e) in
    all (lt-ltb _ _ fits) h

-- 0, without data, is an element of every kind
pub zero_admitted : (k : Kind) → admits k 0 ≡ true
unfolding element
zero_admitted k =
    let small : 0 < 256 ^ width_of k = rw (pow_256 (width_of k)) (pow_pos (8 * width_of k)) in
    all (lt-ltb _ _ small) (ap is_ok (zero_found k))

-- `same_kind` holds exactly for equal kinds
pub same_kind_lem : (j k : Kind) → same_kind j k ≡ true → j ≡ k
same_kind_lem j k e = kind_same j k (eqb-true _ _ e)

pub is_same_kind : (j k : Kind) → j ≡ k → same_kind j k ≡ true
is_same_kind j k e = eq-eqb (layout_no j) (layout_no k) (ap layout_no e)

-- ---- codes

-- a state is accepted, unless bit 0, DAT, is 0 and another bit is 1; then the code is 12. No other code is possible
module _ (k : Kind) (e : Element) (s : kind_in e ≡ k) where
  pub state_current : (Stale (kind_in e) (word_of e) → ⊥) → element k (word_of e) ≡ Ok tt
  unfolding element
  state_current n = rw (← s) (state_accepted e n)

  pub state_twelve : Stale (kind_in e) (word_of e) → element k (word_of e) ≡ Err (code_at 12 0)
  unfolding element
  state_twelve h = rw (← s) (state_stale e h)

-- the code and bit of a refused element are ones that its kind can give
pub refuses_as : (k : Kind) (w : ℕ) {x : Refusal} → element k w ≡ Err x → Refuses k x.code x.bit
unfolding element
refuses_as k w e = element_refuses k w e
