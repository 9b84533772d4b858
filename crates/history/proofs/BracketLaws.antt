-- The lists that a receiver applied, joined in any brackets: each way gives the list from its first image to the last.
-- Assumes nothing.
use Prim.Native.Nat.{ℕ}
use mathlib.Core.Path.{◌≡◌, refl, sym, ap, ◌∙◌}
use mathlib.Core.Bool.{Bool, true, false, cond}
use mathlib.Core.List.{List, [], ◌∷◌, ◌++◌, map}
use Rattle.octets.specs.Octets.{Bytes}
use Rattle.history.specs.Verdict.{Verdict, refused, done, then}
use Rattle.history.specs.Table.{Plan}
use Rattle.history.specs.Calls.{read_plan, difference_call, apply_call, join_call}
use Rattle.history.specs.Image.{AcceptedImage}
use Rattle.history.proofs.VerdictLaws.{used}
use Rattle.history.proofs.OperationLaws.{keeps_version}
use Rattle.history.proofs.CallLaws.{difference_is, difference_applies, only_difference_applies}
use Rattle.history.proofs.CallLaws.{differences_join, applied_image}
use Rattle.history.proofs.AcceptedLaws.{apply_under_lem, taken, list_taken}
use Rattle.history.proofs.ReceiverLaws.{Receiver, Arrival, was_applied, next, run, applied_lists, apply_all, held_is}

-- lists in brackets, which say what is joined first
pub data Brackets : Type 0 where
  one : List ℕ → Brackets
  two : Brackets → Brackets → Brackets

abbrev pub lists_of : Brackets → List (List ℕ)
lists_of (one L) = L ∷ []
lists_of (two l m) = lists_of l ++ lists_of m

some_list : (ls : Brackets) → (L : List ℕ) × (Ls : List (List ℕ)) × (lists_of ls ≡ L ∷ Ls)
some_list (one L) = (L, [], refl)
some_list (two l m) =
    let f = some_list l in
    (f.0, f.1 ++ lists_of m, ap (λ (Ls : List (List ℕ)). Ls ++ lists_of m) f.2)

abbrev pub AllBytes : List (List ℕ) → Type 0
AllBytes [] = Unit {0}
AllBytes (L ∷ Ls) = Bytes L × AllBytes Ls

left_bytes_lem : (Ls Ms : List (List ℕ)) → AllBytes (Ls ++ Ms) → AllBytes Ls × AllBytes Ms
left_bytes_lem [] Ms h = (tt, h)
left_bytes_lem (L ∷ Ls) Ms h = let r = left_bytes_lem Ls Ms h.1 in ((h.0, r.0), r.1)

module _ (T : List ℕ) where
  -- lists joined as they are bracketed
  abbrev pub join_of : Brackets → Verdict (List ℕ)
  join_of (one L) = done L
  join_of (two l m) = then (join_of l) λ L. then (join_of m) λ M. join_call T L M

  applied_bytes : (r : Receiver) (cs : List Arrival) → AllBytes (map (λ (c : Arrival). c.list) cs)
      → AllBytes (applied_lists T r cs)
  applied_bytes r [] h = tt
  applied_bytes r (c ∷ cs) h = go (was_applied T r c) (applied_bytes (next T r c) cs h.1)
    where
      go : (u : Bool) → AllBytes (applied_lists T (next T r c) cs)
          → AllBytes (cond u (c.list ∷ applied_lists T (next T r c) cs) (applied_lists T (next T r c) cs))
      go true r = (h.0, r)
      go false r = r

  -- the lists join, as they are bracketed, to the list from A to C, which turns A into C
  pub record JoinsTo (A : List ℕ) (ls : Brackets) (C : List ℕ) : Type 0 where
    pub list : List ℕ
    pub joined : join_of ls ≡ done list
    pub difference : difference_call T A C ≡ done list
    pub applies : apply_call T A list ≡ done C

  join_two : (l m : Brackets) {L M : List ℕ} {v : Verdict (List ℕ)} → join_of l ≡ done L → join_of m ≡ done M
      → join_call T L M ≡ v → join_of (two l m) ≡ v
  join_two l m e f g = rw (e, f) g

  -- lists in turn are some, and then the others
  pub apply_apart : (A : List ℕ) (Ls Ms : List (List ℕ))
      → apply_all T A (Ls ++ Ms) ≡ then (apply_all T A Ls) (λ B. apply_all T B Ms)
  apply_apart A [] Ms = refl
  apply_apart A (L ∷ Ls) Ms = go (apply_call T A L) λ B. apply_apart B Ls Ms
    where
      go : (v : Verdict (List ℕ))
          → ((B : List ℕ) → apply_all T B (Ls ++ Ms) ≡ then (apply_all T B Ls) (λ C. apply_all T C Ms))
          → then v (λ B. apply_all T B (Ls ++ Ms)) ≡ then (then v (λ B. apply_all T B Ls)) (λ C. apply_all T C Ms)
      go (refused r) h = refl
      go (done B) h = h B

  module _ {p : Plan} (t : read_plan T ≡ done p) where
    -- the image after the lists is accepted, and has the first's version
    record Reaches {A : List ℕ} (a : AcceptedImage p A) (ls : Brackets) (C : List ℕ) : Type 0 where
      last : AcceptedImage p C
      version : a.image.version ≡ last.image.version
      joins : JoinsTo A ls C

    -- lists that an image takes in turn join, in any brackets, to the list from it to the last image
    reaches : {A : List ℕ} (a : AcceptedImage p A) (ls : Brackets) {C : List ℕ} → AllBytes (lists_of ls)
        → apply_all T A (lists_of ls) ≡ done C → Reaches a ls C
    reaches {A} a (one L) {C} h e =
        let x = used (apply_call T A L) _ e in
        let taken : apply_call T A L ≡ done C = cc (x.1, x.2) in
        let l = list_taken T t A L a h.0 taken in
        let q = applied_image T t a l taken in
        record {
          last = q.0;
          version = keeps_version l.legal a.legal q.1;
          joins =
              record { list = L; joined = refl; difference = only_difference_applies T t a l taken; applies = taken };
        }
    reaches {A} a (two l m) {C} h e =
        let g = left_bytes_lem (lists_of l) (lists_of m) h in
        let x = used (apply_all T A (lists_of l)) _ (sym (apply_apart A (lists_of l) (lists_of m)) ∙ e) in
        let u = reaches a l g.0 x.1 in
        let w = reaches {A = x.0} u.last m g.1 x.2 in
        let d = difference_is T t a w.last in
        let v = u.version ∙ w.version in
        let both = differences_join T t a u.last w.last u.joins.difference w.joins.difference ∙ d in
        record {
          last = w.last;
          version = v;
          joins =
              record {
                list = _;
                joined = join_two l m u.joins.joined w.joins.joined both;
                difference = d;
                applies = difference_applies T t a w.last v d;
              };
        }

    pub join_in_turn : (A : List ℕ) (ls : Brackets) {C : List ℕ} → AcceptedImage p A → AllBytes (lists_of ls)
        → apply_all T A (lists_of ls) ≡ done C → JoinsTo A ls C
    join_in_turn A ls a h e = (reaches a ls h e).joins

  -- the applied lists, if any, join in any brackets, and their join turns the first image into the one held
  pub held_by_join : (r : Receiver) (cs : List Arrival) (ls : Brackets) → Bytes r.image
      → AllBytes (map (λ (c : Arrival). c.list) cs)
      → lists_of ls ≡ applied_lists T r cs → JoinsTo r.image ls (run T r cs).image
  held_by_join r cs ls ha hc e =
      let A : List ℕ = r.image in
      let h : AllBytes (lists_of ls) = rw e (applied_bytes r cs hc) in
      let all : apply_all T A (lists_of ls) ≡ done (run T r cs).image = rw e (held_is T r cs) in
      let f = some_list ls in
      let x = used (apply_call T A f.0) _ (rw f.2 at all) in
      let t = (apply_under_lem T A f.0 x.1).reads in
      let a = (taken T t A f.0 ha (rw f.2 at h).0 x.1).0 in
      join_in_turn t A ls a h all
