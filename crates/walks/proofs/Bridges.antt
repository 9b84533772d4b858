-- The walks find the meaning: over the bytes of admitted words and lawful changes, each walk gives what its operation
-- gives, and `unfit` and `renewal` give what application does.
-- Assumes nothing.
use Prim.Native.Nat.{ℕ, suc, ◌+◌, ◌^◌, ◌≤◌, ◌<◌}
use native.Mathlib.Omega.{arith}
use mathlib.Core.Path.{◌≡◌, refl, sym, ap, ◌∙◌}
use mathlib.Core.Bool.{Bool, true, false, cond}
use mathlib.Core.List.{List, [], ◌∷◌, ◌++◌, map, append_assoc, zip_with}
use lib.Dec.{leb}
use lib.ListN.{length, drop, length-append}
use lib.Seq.{drop-drop, drop_at}
use borrow.Author.Tests.{eq-eqb, le-leb, lt-leb}
use Rattle.octets.specs.Octets.{bytes}
use Rattle.kinds.specs.Kinds.{width_of}
use Rattle.kinds.specs.declared.Kind.{Kind}
use Rattle.history.specs.declared.Change.{Change}
use Rattle.history.specs.declared.Change.TheVariants.{Keep as keep, Swap as swap}
use Rattle.history.specs.Changes.{entries_bytes, entries, lawful, differ, fits, meets, joined, back, after, lowest}
use Rattle.history.specs.Image.{words_bytes, Every, nil, and, admits}
use Rattle.history.specs.Verdict.{Verdict, done, refusal_at, ◌unless◌⨾◌}
use Rattle.octets.proofs.NumberLaws.{length_bytes, take_bytes, drop_bytes, read_bytes}
use Rattle.history.proofs.ChangeLaws.{lawful_swap}
use Rattle.history.proofs.ElementLaws.{admits_fits}
use Rattle.history.proofs.ListLaws.{length_entries, entries_few}
use Rattle.steps.specs.declared.Walk.{Walk}
use Rattle.steps.specs.Steps.{span, entry_bytes, names, change_at, step_of, renewed}
use Rattle.steps.proofs.StepLaws.{says_nothing, says_cut}
use Rattle.walks.specs.Walks.{walked, Measured, misfit, unfit, renewal}

-- ---- one object's entry

-- the first object's entry, then the others'
pub entries_cons : (i : ℕ) (k : Kind) (ks : List Kind) (c : Change) (cs : List Change)
    → entries_bytes i (k ∷ ks) (c ∷ cs) ≡ entry_bytes i (width_of k) c ++ entries_bytes (suc i) ks cs
entries_cons i k ks keep cs = refl
entries_cons i k ks (swap old new) cs = simp append_assoc

pub length_entry : (i w : ℕ) (c : Change) → length (entry_bytes i w c) ≡ span w c
length_entry i w keep = refl
length_entry i w (swap old new) = simp (length-append, length_bytes)

-- later objects' entries say nothing of object i
none_here : {ks : List Kind} {cs : List Change} (i w j : ℕ) → i < j → j + length ks ≤ 65536 → Every lawful ks cs
    → change_at i w (entries_bytes j ks cs) ≡ keep
none_here i w j h s nil = says_cut [] i w (omega arith)
none_here i w j h s (and {b = keep} p ps) = none_here i w (suc j) (omega arith) (omega arith) ps
none_here i w j h s (and {a = k} {b = swap old new} {xs = ks} {ys = cs} p ps) =
    says_nothing (entries_bytes j (k ∷ ks) (swap old new ∷ cs)) i w (sym (read_bytes 2 j _ (omega arith)))
    (λ e. omega arith)

-- an object's own entry, and the bytes after it
pub record Found (i : ℕ) (k : Kind) (c : Change) (b r : List ℕ) : Type 0 where
  pub change : change_at i (width_of k) b ≡ c
  pub rest : drop (span (width_of k) c) b ≡ r

after_entry : (i : ℕ) (k : Kind) (ks : List Kind) (c : Change) (cs : List Change)
    → drop (span (width_of k) c) (entries_bytes i (k ∷ ks) (c ∷ cs)) ≡ entries_bytes (suc i) ks cs
after_entry i k ks c cs =
    rw (entries_cons i k ks c cs)
    (drop_at (entry_bytes i (width_of k) c) (entries_bytes (suc i) ks cs) _ (length_entry i (width_of k) c))

swap_here : (i w old new : ℕ) (r : List ℕ) → i < 65536 → old < 256 ^ w → new < 256 ^ w
    → change_at i w (bytes 2 i ++ (bytes w old ++ (bytes w new ++ r))) ≡ swap old new
unfolding change_at names
swap_here i w old new r h ho hn =
    let c : List ℕ = bytes w new ++ r in
    let b : List ℕ = bytes w old ++ c in
    let long : 2 + (w + w) ≤ length (bytes 2 i ++ b) = simp (length-append, length_bytes) (omega arith) in
    let new-at : drop (2 + w) (bytes 2 i ++ b) ≡ c =
    sym (drop-drop w 2 (bytes 2 i ++ b)) ∙ rw (drop_bytes 2 i b) (drop_bytes w old c) in
    rw (
      le-leb (2 + (w + w)) _ long,
      read_bytes 2 i b h,
      eq-eqb i i refl,
      new-at,
      drop_bytes 2 i b,
      read_bytes w old c ho,
      read_bytes w new r hn,
    )

found : {ks : List Kind} {cs : List Change} (i : ℕ) (k : Kind) (c : Change) → i + suc (length ks) ≤ 65536
    → lawful k c ≡ true → Every lawful ks cs
    → Found i k c (entries_bytes i (k ∷ ks) (c ∷ cs)) (entries_bytes (suc i) ks cs)
found i k keep s p ps = record { change = none_here i (width_of k) (suc i) (omega arith) (omega arith) ps; rest = refl }
found {ks} {cs} i k (swap old new) s p ps =
    let h = lawful_swap k old new p in
    record {
      change =
          swap_here i (width_of k) old new (entries_bytes (suc i) ks cs) (omega arith) (admits_fits k old h.old)
          (admits_fits k new h.new);
      rest = after_entry i k ks (swap old new) cs;
    }

-- ---- the changes that the walks find

pub difference_walk : {ks : List Kind} {a b : List ℕ} (i : ℕ) → Every admits ks a → Every admits ks b
    → walked Walk.Difference i ks (words_bytes ks a) (words_bytes ks b) ≡ zip_with differ a b
unfolding walked step_of zip_with
difference_walk i nil nil = refl
difference_walk i (and {a = k} {b = a} {xs = ks} {ys = as'} p ps) (and {b = b} {ys = bs} q qs) =
    let w : ℕ = width_of k in
    let f : List ℕ = words_bytes ks as' in
    let g : List ℕ = words_bytes ks bs in
    rw (
      read_bytes w a f (admits_fits k a p),
      read_bytes w b g (admits_fits k b q),
      drop_bytes w a f,
      drop_bytes w b g,
      difference_walk (suc i) ps qs,
    )

pub join_walk : {ks : List Kind} {c d : List Change} (i : ℕ) → i + length ks ≤ 65536 → Every lawful ks c
    → Every lawful ks d
    → walked Walk.Join i ks (entries_bytes i ks c) (entries_bytes i ks d) ≡ zip_with joined c d
unfolding walked step_of zip_with
join_walk i s nil nil = refl
join_walk i s (and {a = k} {b = c} p ps) (and {b = d} q qs) =
    let x = found i k c s p ps in
    let y = found i k d s q qs in
    rw (x.change, y.change, x.rest, y.rest, join_walk (suc i) (omega arith) ps qs)

pub turn_walk : {ks : List Kind} {c : List Change} (i : ℕ) (b : List ℕ) → i + length ks ≤ 65536 → Every lawful ks c
    → walked Walk.Turn i ks (entries_bytes i ks c) b ≡ map back c
unfolding walked step_of
turn_walk i b s nil = refl
turn_walk i b s (and {a = k} {b = c} p ps) =
    let x = found i k c s p ps in
    rw (x.change, x.rest, turn_walk (suc i) b (omega arith) ps)

-- ---- a list turned back is as long as the list

entries_back : (cs : List Change) → entries (map back cs) ≡ entries cs
entries_back [] = refl
entries_back (keep ∷ cs) = entries_back cs
entries_back (swap old new ∷ cs) = ap suc (entries_back cs)

length_back : (i : ℕ) (ks : List Kind) (cs : List Change)
    → length (entries_bytes i ks (map back cs)) ≡ length (entries_bytes i ks cs)
length_back i [] cs = refl
length_back i (k ∷ ks) [] = refl
length_back i (k ∷ ks) (keep ∷ cs) = length_back (suc i) ks cs
length_back i (k ∷ ks) (swap old new ∷ cs) = simp (length-append, length_bytes, length_back (suc i) ks cs)

pub turn_measured : {ks : List Kind} {cs : List Change} (b : List ℕ) → length ks ≤ 1024 → Every lawful ks cs
    → Measured Walk.Turn ks (entries_bytes 0 ks cs) b (entries cs) (length (entries_bytes 0 ks cs))
turn_measured {ks} {cs} b h ps = record {
  entries = rw (turn_walk 0 b (omega arith) ps) (sym (entries_back cs));
  bytes = rw (turn_walk 0 b (omega arith) ps) (sym (length_back 0 ks cs));
  few = omega (arith, entries_few ps);
  short = omega (arith, length_entries 0 ps);
}

-- ---- the lowest object on which the forms do not agree: of a join, of an application

module _ {C : Type 0} (code : ℕ) (value : C) where
  -- an object m below n is refused; else the value
  abbrev pub found_at : ℕ → ℕ → Verdict C
  found_at n m = refusal_at code m unless leb n m ⨾ done value

  found_step : (t : Bool) (i n m : ℕ) (v : Verdict C) → i < n → v ≡ found_at n m
      → (refusal_at code i unless t ⨾ v) ≡ found_at n (cond t m i)
  found_step true i n m v h e = e
  found_step false i n m v h e = rw (lt-leb n i h)

  pub join_misfit : {ks : List Kind} {c d : List Change} (i n : ℕ) → i + length ks ≡ n → n ≤ 65536 → Every lawful ks c
      → Every lawful ks d
      → lowest code meets i c d value ≡ found_at n (misfit Walk.Join i ks (entries_bytes i ks c) (entries_bytes i ks d))
  unfolding misfit step_of
  join_misfit i n e s nil nil = rw (le-leb n i (omega arith))
  join_misfit i n e s (and {a = k} {b = c} {xs = ks} p ps) (and {b = d} q qs) =
      let x = found i k c (omega arith) p ps in
      let y = found i k d (omega arith) q qs in
      rw (x.change, y.change, x.rest, y.rest)
      (found_step (meets c d) i n _ _ (omega arith) (join_misfit (suc i) n (omega arith) s ps qs))

  pub apply_unfit : {ks : List Kind} {c : List Change} {a : List ℕ} (i n : ℕ) → i + length ks ≡ n → n ≤ 65536
      → Every lawful ks c → Every admits ks a
      → lowest code fits i c a value ≡ found_at n (unfit i ks (entries_bytes i ks c) (words_bytes ks a))
  unfolding unfit
  apply_unfit i n e s nil nil = rw (le-leb n i (omega arith))
  apply_unfit i n e s (and {a = k} {b = c} {xs = ks} p ps) (and {b = a} {ys = as'} q qs) =
      let x = found i k c (omega arith) p ps in
      let w : ℕ = width_of k in
      let g : List ℕ = words_bytes ks as' in
      rw (x.change, x.rest, read_bytes w a g (admits_fits k a q), drop_bytes w a g)
      (found_step (fits c a) i n _ _ (omega arith) (apply_unfit (suc i) n (omega arith) s ps qs))

-- ---- the elements after the entries

renewed_is : (w a : ℕ) (c : Change) → renewed c (bytes w a) ≡ bytes w (after c a)
renewed_is w a keep = refl
renewed_is w a (swap old new) = rw (length_bytes w a)

pub renewal_is : {ks : List Kind} {c : List Change} {a : List ℕ} (i : ℕ) → i + length ks ≤ 65536 → Every lawful ks c
    → Every admits ks a
    → renewal i ks (entries_bytes i ks c) (words_bytes ks a) ≡ words_bytes ks (zip_with after c a)
unfolding renewal zip_with
renewal_is i s nil nil = refl
renewal_is i s (and {a = k} {b = c} {xs = ks} p ps) (and {b = a} {ys = as'} q qs) =
    let x = found i k c s p ps in
    let w : ℕ = width_of k in
    let g : List ℕ = words_bytes ks as' in
    rw (
      x.change,
      x.rest,
      take_bytes w a g,
      drop_bytes w a g,
      renewed_is w a c,
      renewal_is (suc i) (omega arith) ps qs,
    )
