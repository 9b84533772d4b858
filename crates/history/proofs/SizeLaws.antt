-- A list is never longer than four times an image under its table, and a join never longer than the two lists together.
-- So three lists that an image takes in turn join to one list in the room of all three, whichever pair is joined first.
-- Assumes nothing.
use Prim.Native.Nat.{ℕ, zero, suc, ◌+◌, ◌*◌, ◌≤◌, ◌<◌}
use native.Mathlib.Omega.{arith}
use native.Mathlib.Nat.{zero-add}
use mathlib.Core.Path.{◌≡◌, refl, sym, ap, ◌∙◌}
use mathlib.Core.Bool.{Bool, true, false, cond}
use mathlib.Core.List.{List, ◌∷◌, zip_with}
use lib.Dec.{eqb}
use lib.ListN.{length, length-append}
use borrow.Author.Tests.{eqb-false, not-true}
use Rattle.kinds.specs.Kinds.{width_of}
use Rattle.kinds.specs.declared.Kind.{Kind}
use Rattle.history.specs.Verdict.{done}
use Rattle.history.specs.Form.{form_bytes}
use Rattle.history.specs.Table.{Plan}
use Rattle.history.specs.Image.{widths, Every, nil, and, admits, AcceptedImage}
use Rattle.history.specs.declared.Change.{Change}
use Rattle.history.specs.declared.Change.TheVariants.{Keep as keep, Swap as swap}
use Rattle.history.specs.Changes.{Changes, entries_bytes, list_bytes, lawful, AcceptedList, differ, joined}
use Rattle.history.specs.Calls.{read_plan, difference_call, apply_call, join_call}
use Rattle.octets.proofs.NumberLaws.{length_bytes}
use Rattle.history.proofs.VerdictLaws.{left, right}
use Rattle.history.proofs.ElementLaws.{admits_fits}
use Rattle.history.proofs.ImageLaws.{image_long}
use Rattle.history.proofs.OperationLaws.{joins}
use Rattle.history.proofs.CallLaws.{difference_is, only_difference_applies, differences_join, applied_image}
use Rattle.history.proofs.CallLaws.{joined_list}

size : Kind → Change → ℕ
size k keep = 0
size k (swap x y) = 2 + (width_of k + width_of k)

size_step : (i : ℕ) (k : Kind) (t : List Kind) (c : Change) (cs : List Change)
    → length (entries_bytes i (k ∷ t) (c ∷ cs)) ≡ size k c + length (entries_bytes (suc i) t cs)
unfolding size
size_step i k t keep cs = sym (zero-add _)
size_step i k t (swap x y) cs = simp (length-append, length_bytes) (omega arith)

size_differ : (k : Kind) (a b : ℕ) → size k (differ a b) ≤ 2 + (width_of k + width_of k)
unfolding size
size_differ k a b = go (eqb a b)
  where
    go : (u : Bool) → size k (cond u keep (swap a b)) ≤ 2 + (width_of k + width_of k)
    go true = omega arith
    go false = omega arith

size_joined : (k : Kind) (c d : Change) → size k (joined c d) ≤ size k c + size k d
unfolding size
size_joined k keep d = omega arith
size_joined k (swap x y) keep = omega arith
size_joined k (swap x y) (swap x' y') = omega (arith, size_differ k x y')

entries_short : {t : List Kind} {cs ds : List Change} (i : ℕ) → Every lawful t cs → Every lawful t ds
    → length (entries_bytes i t (zip_with joined cs ds)) ≤ length (entries_bytes i t cs) + length (entries_bytes i t ds)
unfolding zip_with
entries_short i nil nil = omega arith
entries_short i (and {a = k} {b = c} {xs = t} {ys = cs} p ps) (and {b = d} {ys = ds} q qs) =
    rw (size_step i k t (joined c d) (zip_with joined cs ds), size_step i k t c cs, size_step i k t d ds)
    (omega (arith, size_joined k c d, entries_short (suc i) ps qs))

length_list : (p : Plan) (l : Changes) → length (list_bytes p l) ≡ 17 + length (entries_bytes 0 p.kinds l.each)
unfolding list_bytes form_bytes
length_list p l = simp (length-append, length_bytes) (omega arith)

-- an entry's elements differ, so they have at least one byte: an entry takes at most four times its object's width
size_lawful : (k : Kind) (c : Change) → lawful k c ≡ true → size k c ≤ 4 * width_of k
unfolding size
size_lawful k keep h = omega arith
size_lawful k (swap x y) h = go (width_of k) refl
  where
    go : (w : ℕ) → width_of k ≡ w → 2 + (w + w) ≤ 4 * w
    go zero e =
        let rest = right (admits k x) _ h in
        let x-none : x < 1 = rw e at (admits_fits k x (left (admits k x) _ h)) in
        let y-none : y < 1 = rw e at (admits_fits k y (left (admits k y) _ rest)) in
        absurd (eqb-false x y (not-true (eqb x y) (right (admits k y) _ rest)) (omega arith))
    go (suc w) e = omega arith

entries_few : {t : List Kind} {cs : List Change} (i : ℕ) → Every lawful t cs
    → length (entries_bytes i t cs) ≤ 4 * widths t
entries_few i nil = omega arith
entries_few i (and {a = k} {b = c} {xs = t} {ys = cs} p ps) =
    rw (size_step i k t c cs) (omega (arith, size_lawful k c p, entries_few (suc i) ps))

pub list_short : {p : Plan} {L A : List ℕ} → AcceptedList p L → AcceptedImage p A → length L ≤ 4 * length A
list_short {p} {L} {A} l a =
    omega (
      arith,
      entries_few 0 l.legal.each,
      ap length l.same ∙ length_list p l.list,
      ap length a.same ∙ image_long a.legal,
    )

pub join_short : (T : List ℕ) {p : Plan} (t : read_plan T ≡ done p) {L M K : List ℕ} → AcceptedList p L
    → AcceptedList p M → join_call T L M ≡ done K → length K ≤ length L + length M
join_short T {p} t {L} {M} {K} l m e =
    let q = joined_list T t l m e in
    let k = q.0 in
    let each : k.list.each ≡ zip_with joined l.list.each m.list.each =
    ap (λ (k : Changes). k.each) (joins l.legal m.legal q.1).result in
    omega (
      arith,
      entries_short 0 l.legal.each m.legal.each,
      ap (λ (cs : _). length (entries_bytes 0 p.kinds cs)) each,
      ap length k.same ∙ length_list p k.list,
      ap length l.same ∙ length_list p l.list,
      ap length m.same ∙ length_list p m.list,
    )

-- whichever two of three lists are joined first, joining the third gives the same list K;
-- and how long each join is at most
pub record OneJoin (T L M N K : List ℕ) : Type 0 where
  pub early : List ℕ
  pub late : List ℕ
  pub early_joined : join_call T L M ≡ done early
  pub early_first : join_call T early N ≡ done K
  pub late_joined : join_call T M N ≡ done late
  pub late_first : join_call T L late ≡ done K
  pub early_short : length early ≤ length L + length M
  pub late_short : length late ≤ length M + length N
  pub short : length K ≤ length L + (length M + length N)

module _ (T : List ℕ) {p : Plan} (t : read_plan T ≡ done p) {A B C D L M N : List ℕ} where
  -- three lists that an image takes in turn join so, to the list from it to the last image
  pub joins_associate : AcceptedImage p A → AcceptedList p L → AcceptedList p M → AcceptedList p N
      → apply_call T A L ≡ done B → apply_call T B M ≡ done C → apply_call T C N ≡ done D
      → (K : List ℕ) × (difference_call T A D ≡ done K) × OneJoin T L M N K
  joins_associate a l m n x y z =
      let b = (applied_image T t a l x).0 in
      let c = (applied_image T t b m y).0 in
      go b c (applied_image T t c n z).0 (only_difference_applies T t a l x) (only_difference_applies T t b m y)
      (only_difference_applies T t c n z)
    where
      go : AcceptedImage p B → AcceptedImage p C → AcceptedImage p D → difference_call T A B ≡ done L
          → difference_call T B C ≡ done M → difference_call T C D ≡ done N
          → (K : List ℕ) × (difference_call T A D ≡ done K) × OneJoin T L M N K
      go b c d AB BC CD =
          let Ac = difference_is T t a c in
          let BD = difference_is T t b d in
          let AD = difference_is T t a d in
          let e = differences_join T t a b c AB BC ∙ Ac in
          let f = differences_join T t b c d BC CD ∙ BD in
          let e-then = differences_join T t a c d Ac CD ∙ AD in
          let e-short = join_short T t l m e in
          let short = join_short T t (joined_list T t l m e).0 n e-then in (
            _,
            AD,
            record {
              early = _;
              late = _;
              early_joined = e;
              early_first = e-then;
              late_joined = f;
              late_first = differences_join T t a b d AB BD ∙ AD;
              early_short = e-short;
              late_short = join_short T t m n f;
              short = omega arith;
            },
          )
