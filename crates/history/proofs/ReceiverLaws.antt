-- A receiver that is sent any lists in turn: the image that it holds is the first with the applied lists applied in
-- turn, which is also what their join gives; its tallies count the calls and the lists applied.
-- Assumes nothing.
use Prim.Native.Nat.{ℕ, ◌+◌}
use native.Mathlib.Omega.{arith}
use mathlib.Core.Path.{◌≡◌, refl, sym, ap, ◌∙◌}
use mathlib.Core.Bool.{Bool, true, false, cond}
use mathlib.Core.List.{List, [], ◌∷◌, map}
use lib.Dec.{eqb}
use lib.ListN.{length, take}
use borrow.Author.Tests.{eqb-true}
use Rattle.history.specs.declared.Answer.{Answer}
use Rattle.history.specs.declared.Standing.{Standing}
use Rattle.octets.specs.Octets.{Bytes}
use Rattle.history.specs.Verdict.{Verdict, done, then, settled}
use Rattle.history.specs.Table.{Plan}
use Rattle.history.specs.Calls.{read_plan, difference_call, apply_call, join_call}
use Rattle.history.specs.Standing.{Received, receive_call, counted, NoneFull, total}
use Rattle.history.specs.Image.{AcceptedImage}
use Rattle.history.specs.Changes.{difference, list_bytes, AcceptedList}
use Rattle.history.proofs.VerdictLaws.{used}
use Rattle.history.proofs.OperationLaws.{keeps_version}
use Rattle.history.proofs.CallLaws.{difference_is, difference_list, difference_applies, only_difference_applies}
use Rattle.history.proofs.CallLaws.{differences_join, applied_image}
use Rattle.history.proofs.OutputLaws.{succeeds, refusal_stays}
use Rattle.history.proofs.CodeLaws.{apply_call_coded, zero_succeeds}
use Rattle.history.proofs.AcceptedLaws.{apply_under_lem, taken, list_taken}
use Rattle.history.proofs.StandingLaws.{receive_counts, was_none_full, total_grows, adds}

-- ---- one call

module _ (T A L out : List ℕ) (s : Standing) where
  -- with code 0 the list is applied, and the output begins with the result
  pub receive_applies : (receive_call T A L out s).answer.code ≡ 0
      → apply_call T A L ≡ done (take (receive_call T A L out s).answer.length (receive_call T A L out s).output)
  unfolding receive_call
  receive_applies e =
      let z = zero_succeeds (apply_call T A L) out (apply_call_coded T A L) e in
      let b = z.0 in
      let ok = succeeds out z.1 z.2 in
      let long : (settled (apply_call T A L) out).answer.length ≡ length b =
      ap (λ (a : Answer). a.length) ok.answer in
      z.1 ∙ ap done (sym ok.front ∙ ap (λ (n : ℕ). take n (settled (apply_call T A L) out).output) (sym long))

  -- a refusal leaves the output as it was
  pub receive_stays : ((receive_call T A L out s).answer.code ≡ 0 → ⊥) → (receive_call T A L out s).output ≡ out
  unfolding receive_call
  receive_stays h = refusal_stays (apply_call T A L) out h

-- ---- calls in turn

-- the image that a receiver holds, and its standing
pub record Receiver : Type 0 where
  pub image : List ℕ
  pub standing : Standing

-- a list that arrives, and the output lent to its call
pub record Arrival : Type 0 where
  pub list : List ℕ
  pub output : List ℕ

module _ (T : List ℕ) where
  abbrev pub received : Receiver → Arrival → Received
  received r c = receive_call T r.image c.list c.output r.standing

  abbrev pub was_applied : Receiver → Arrival → Bool
  was_applied r c = eqb (received r c).answer.code 0

  -- if the list was applied, the receiver holds the image written; else it keeps its own
  abbrev pub next : Receiver → Arrival → Receiver
  next r c = record {
    image = cond (was_applied r c) (take (received r c).answer.length (received r c).output) r.image;
    standing = (received r c).standing;
  }

  abbrev pub run : Receiver → List Arrival → Receiver
  run r [] = r
  run r (c ∷ cs) = run (next r c) cs

  -- the lists that were applied
  abbrev pub applied_lists : Receiver → List Arrival → List (List ℕ)
  applied_lists r [] = []
  applied_lists r (c ∷ cs) = cond (was_applied r c) (c.list ∷ applied_lists (next r c) cs) (applied_lists (next r c) cs)

  abbrev pub apply_all : List ℕ → List (List ℕ) → Verdict (List ℕ)
  apply_all A [] = done A
  apply_all A (L ∷ Ls) = then (apply_call T A L) λ B. apply_all B Ls

  abbrev pub join_all : List ℕ → List (List ℕ) → Verdict (List ℕ)
  join_all L [] = done L
  join_all L (M ∷ Ms) = then (join_call T L M) λ K. join_all K Ms

  next_applied : (r : Receiver) (c : Arrival) → was_applied r c ≡ true
      → apply_call T r.image c.list ≡ done (next r c).image
  next_applied r c e =
      let written : List ℕ = take (received r c).answer.length (received r c).output in
      receive_applies T r.image c.list c.output r.standing (eqb-true _ _ e)
      ∙ ap done (sym (ap (λ (u : Bool). cond u written r.image) e))

  next_stays : (r : Receiver) (c : Arrival) → was_applied r c ≡ false → (next r c).image ≡ r.image
  next_stays r c e = ap (λ (u : Bool). cond u (take (received r c).answer.length (received r c).output) r.image) e

  -- the image held is the first image with the applied lists applied in turn
  pub held_is : (r : Receiver) (cs : List Arrival) → apply_all r.image (applied_lists r cs) ≡ done (run r cs).image
  held_is r [] = refl
  held_is r (c ∷ cs) = go (was_applied r c) refl (held_is (next r c) cs)
    where
      go : (u : Bool) → was_applied r c ≡ u
          → apply_all (next r c).image (applied_lists (next r c) cs) ≡ done (run (next r c) cs).image
          → apply_all r.image (cond u (c.list ∷ applied_lists (next r c) cs) (applied_lists (next r c) cs))
          ≡ done (run (next r c) cs).image
      go true e h =
          ap (λ (v : Verdict (List ℕ)). then v (λ B. apply_all B (applied_lists (next r c) cs)))
          (next_applied r c e) ∙ h
      go false e h = ap (λ (A : List ℕ). apply_all A (applied_lists (next r c) cs)) (sym (next_stays r c e)) ∙ h

  -- ---- the join of the applied lists

  abbrev pub AllBytes : List (List ℕ) → Type 0
  AllBytes [] = Unit {0}
  AllBytes (L ∷ Ls) = Bytes L × AllBytes Ls

  applied_bytes : (r : Receiver) (cs : List Arrival) → AllBytes (map (λ (c : Arrival). c.list) cs)
      → AllBytes (applied_lists r cs)
  applied_bytes r [] h = tt
  applied_bytes r (c ∷ cs) h = go (was_applied r c) (applied_bytes (next r c) cs h.1)
    where
      go : (u : Bool) → AllBytes (applied_lists (next r c) cs)
          → AllBytes (cond u (c.list ∷ applied_lists (next r c) cs) (applied_lists (next r c) cs))
      go true r = (h.0, r)
      go false r = r

  -- L and Ms join to the list from A to C, which turns A into C
  pub record JoinsTo (A L : List ℕ) (Ms : List (List ℕ)) (C : List ℕ) : Type 0 where
    pub list : List ℕ
    pub joined : join_all L Ms ≡ done list
    pub difference : difference_call T A C ≡ done list
    pub applies : apply_call T A list ≡ done C

  module _ {p : Plan} (t : read_plan T ≡ done p) where
    -- lists that an image takes in turn join to the list from it to the last image
    join_in_turn : (A L : List ℕ) (Ms : List (List ℕ)) {C : List ℕ} → AcceptedImage p A → AcceptedList p L → AllBytes Ms
        → apply_all A (L ∷ Ms) ≡ done C → JoinsTo A L Ms C
    join_in_turn A L [] {C} a l h e =
        let x = used (apply_call T A L) _ e in
        let taken : apply_call T A L ≡ done C = cc (x.1, x.2) in
        record { list = L; joined = refl; difference = only_difference_applies T t a l taken; applies = taken }
    join_in_turn A L (M ∷ Ms) {C} a l h e =
        let x = used (apply_call T A L) _ e in
        let q = applied_image T t a l x.1 in
        let b = q.0 in
        let y = used (apply_call T x.0 M) _ x.2 in
        let m = list_taken T t x.0 M b h.0 y.1 in
        let r = applied_image T t b m y.1 in
        let d = r.0 in
        let AD = difference_is T t a d in
        let v = keeps_version l.legal a.legal q.1 ∙ keeps_version m.legal b.legal r.1 in
        let pair =
        differences_join T t a b d (only_difference_applies T t a l x.1)
        (only_difference_applies T t b m y.1) ∙ AD in
        let rest =
        join_in_turn A (list_bytes p (difference a.image d.image)) Ms {C = C} a (difference_list T t a d AD) h.1
        (rw (difference_applies T t a d v AD) y.2) in
        record {
          list = rest.list;
          joined = rw pair rest.joined;
          difference = rest.difference;
          applies = rest.applies;
        }

  -- if at least one list was applied, the applied lists join, and their join turns the first image into the one held
  pub held_by_join : (r : Receiver) (cs : List Arrival) {L : List ℕ} {Ms : List (List ℕ)} → Bytes r.image
      → AllBytes (map (λ (c : Arrival). c.list) cs)
      → applied_lists r cs ≡ L ∷ Ms → JoinsTo r.image L Ms (run r cs).image
  held_by_join r cs {L} {Ms} ha hc e =
      let A : List ℕ = r.image in
      let h : Bytes L × AllBytes Ms = rw e at (applied_bytes r cs hc) in
      let all : apply_all A (L ∷ Ms) ≡ done (run r cs).image = rw e at (held_is r cs) in
      let x = used (apply_call T A L) _ all in
      let t = (apply_under_lem T A L x.1).reads in
      let f = taken T t A L ha h.0 x.1 in
      join_in_turn t A L Ms f.0 f.1 h.1 all

  -- ---- the tallies

  next_counts : (r : Receiver) (c : Arrival) → (next r c).standing ≡ counted (received r c).answer.code r.standing
  next_counts r c = receive_counts T r.image c.list c.output r.standing

  none_was_full : (r : Receiver) (cs : List Arrival) → NoneFull (run r cs).standing → NoneFull r.standing
  none_was_full r [] h = h
  none_was_full r (c ∷ cs) h =
      was_none_full (received r c).answer.code r.standing (rw (next_counts r c) at (none_was_full (next r c) cs h))

  -- while none is full, the sum of the four grows by the calls, and applied by the lists applied
  pub run_counts : (r : Receiver) (cs : List Arrival) → NoneFull (run r cs).standing
      → (total (run r cs).standing ≡ total r.standing + length cs)
      × ((run r cs).standing.applied ≡ r.standing.applied + length (applied_lists r cs))
  run_counts r [] h = (omega arith, omega arith)
  run_counts r (c ∷ cs) h =
      let code : ℕ = (received r c).answer.code in
      let n : NoneFull r.standing = none_was_full r (c ∷ cs) h in
      let g = run_counts (next r c) cs h in
      let e = next_counts r c in (
        omega (arith, g.0, ap total e, total_grows code r.standing n),
        go (eqb code 0) g.1 (ap (λ (s : Standing). s.applied) e ∙ (adds code r.standing n).applied),
      )
    where
      go : (u : Bool)
          → (run (next r c) cs).standing.applied ≡ (next r c).standing.applied + length (applied_lists (next r c) cs)
          → (next r c).standing.applied ≡ cond u (r.standing.applied + 1) r.standing.applied
          → (run (next r c) cs).standing.applied
          ≡ r.standing.applied
          + length (cond u (c.list ∷ applied_lists (next r c) cs) (applied_lists (next r c) cs))
      go true g e = omega arith
      go false g e = omega arith
