-- The laws at one object: a change between two elements, then what is lawful.
-- Assumes nothing.
use Prim.Native.Nat.{ℕ}
use native.Mathlib.Decide.{ℕ_discrete}
use mathlib.Core.Path.{◌≡◌, refl, sym}
use mathlib.Core.Bool.{true}
use lib.Dec.{eqb}
use borrow.Author.Tests.{eq-eqb, ne_eqb, eqb-true, not-true, eqb-false}
use Rattle.kinds.specs.declared.Kind.{Kind}
use Rattle.history.specs.declared.Change.{Change}
use Rattle.history.specs.declared.Change.TheVariants.{Keep as keep, Swap as swap}
use Rattle.history.specs.Image.{admits}
use Rattle.history.specs.Changes.{lawful, differ, fits, after, meets, joined, back}
use Rattle.history.proofs.VerdictLaws.{all, left, right}

pub differ_same : (a : ℕ) → differ a a ≡ keep
differ_same a = simp (eq-eqb a a refl)

pub differ_other : (a b : ℕ) → (a ≡ b → ⊥) → differ a b ≡ swap a b
differ_other a b h = simp (ne_eqb a b h)

-- to show a fact of b: show it of a, and of b where they differ
by_cases : (P : ℕ → Type 0) (a b : ℕ) → P a → ((a ≡ b → ⊥) → P b) → P b
by_cases P a b p q = go (ℕ_discrete a b)
  where
    go : Dec (a ≡ b) → P b
    go (yes e) = rw e at p
    go (no h) = q h

pub fits_differ : (a b : ℕ) → fits (differ a b) a ≡ true
fits_differ a b =
    by_cases (λ b. fits (differ a b) a ≡ true) a b (rw differ_same) (λ h. rw (differ_other a b h) (eq-eqb a a refl))

pub after_differ : (a b : ℕ) → after (differ a b) a ≡ b
after_differ a b = by_cases (λ b. after (differ a b) a ≡ b) a b (rw differ_same) (λ h. rw (differ_other a b h))

pub meets_differ : (a b c : ℕ) → meets (differ a b) (differ b c) ≡ true
meets_differ a b c =
    by_cases (λ b. meets (differ a b) (differ b c) ≡ true) a b (rw differ_same)
    (λ h. by_cases (λ c. meets (differ a b) (differ b c) ≡ true) b c (rw (differ_same b, differ_other a b h))
    (λ k. rw (differ_other a b h, differ_other b c k) (eq-eqb b b refl)))

pub joined_differ : (a b c : ℕ) → joined (differ a b) (differ b c) ≡ differ a c
joined_differ a b c =
    by_cases (λ b. joined (differ a b) (differ b c) ≡ differ a c) a b (rw (differ_same a))
    (λ h. by_cases (λ c. joined (differ a b) (differ b c) ≡ differ a c) b c (rw (differ_same b, differ_other a b h))
    (λ k. rw (differ_other a b h, differ_other b c k)))

pub back_differ : (a b : ℕ) → back (differ a b) ≡ differ b a
back_differ a b =
    by_cases (λ b. back (differ a b) ≡ differ b a) a b (rw (differ_same a))
    (λ h. rw (differ_other a b h, differ_other b a (λ e. h (sym e))))

-- what a lawful swap tells
pub record Lawful (k : Kind) (a b : ℕ) : Type 0 where
  pub old : admits k a ≡ true
  pub new : admits k b ≡ true
  pub other : a ≡ b → ⊥

pub lawful_swap : (k : Kind) (old new : ℕ) → lawful k (swap old new) ≡ true → Lawful k old new
lawful_swap k old new h = record {
  old = left (admits k old) _ h;
  new = left (admits k new) _ (right (admits k old) _ h);
  other = eqb-false old new (not-true (eqb old new) (right (admits k new) _ (right (admits k old) _ h)));
}

pub lawful_differ : (k : Kind) (a b : ℕ) → admits k a ≡ true → admits k b ≡ true → lawful k (differ a b) ≡ true
lawful_differ k a b p q =
    by_cases (λ b. admits k b ≡ true → lawful k (differ a b) ≡ true) a b (λ q. rw differ_same)
    (λ h q. rw (differ_other a b h, p, q, ne_eqb a b h)) q

pub lawful_joined : (k : Kind) (c d : Change) → lawful k c ≡ true → lawful k d ≡ true → lawful k (joined c d) ≡ true
lawful_joined k keep d p q = q
lawful_joined k (swap old new) keep p q = p
lawful_joined k (swap old new) (swap old' new') p q =
    lawful_differ k old new' (lawful_swap k old new p).old (lawful_swap k old' new' q).new

pub lawful_back : (k : Kind) (c : Change) → lawful k c ≡ true → lawful k (back c) ≡ true
lawful_back k keep p = refl
lawful_back k (swap old new) p =
    let h = lawful_swap k old new p in
    all h.new (all h.old (rw (ne_eqb new old (λ e. h.other (sym e)))))

pub admits_after : (k : Kind) (c : Change) (a : ℕ) → lawful k c ≡ true → admits k a ≡ true → admits k (after c a) ≡ true
admits_after k keep a p q = q
admits_after k (swap old new) a p q = (lawful_swap k old new p).new

pub only_differ : (k : Kind) (c : Change) (a : ℕ) → lawful k c ≡ true → fits c a ≡ true → c ≡ differ a (after c a)
only_differ k keep a p f = sym (differ_same a)
only_differ k (swap old new) a p f =
    let e : old ≡ a = eqb-true old a f in
    rw (← e, differ_other old new (lawful_swap k old new p).other)
