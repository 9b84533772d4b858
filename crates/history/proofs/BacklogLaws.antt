-- A backlog taken in one call: its outcome is that of receiving its lists in turn up to the first that is refused. What
-- was taken and what ended it; what the tallies count; a backlog cut in two; the join of its lists; what comes first.
-- Assumes nothing.
use Prim.Native.Nat.{ℕ, zero, suc, ◌+◌, ◌≤◌, ◌<◌}
use native.Mathlib.Omega.{arith}
use mathlib.Core.Path.{◌≡◌, refl, sym, ap, ap₂, ◌∙◌}
use mathlib.Core.Bool.{Bool, true, false, cond, false≢true}
use mathlib.Core.List.{List, [], ◌∷◌, ◌++◌, map, append-nil, append_assoc}
use mathlib.Core.Logic.{◌⊎◌, inl, inr, ◌↔◌}
use lib.Dec.{eqb, leb}
use lib.ListN.{length, take, drop, get_or, length-append, length-drop, take-append-drop}
use lib.Seq.{take-append_seam, take_at, drop_at, get_or-drop}
use borrow.Author.Tests.{ne_eqb, le-leb, lt-leb, leb-true, leb-false}
use Rattle.octets.specs.Octets.{Bytes, number}
use Rattle.octets.proofs.NumberLaws.{drop_is}
use Rattle.history.specs.declared.Answer.{Answer}
use Rattle.history.specs.declared.Standing.{Standing}
use Rattle.history.specs.Verdict.{Refused, naming, Verdict, refused, done, then, decide, numbers, unnamed}
use Rattle.history.specs.Verdict.{of_length, settled}
use Rattle.history.specs.Form.{is_whole, read_form, after_front, first_forms, forms_in}
use Rattle.history.specs.Table.{Plan}
use Rattle.history.specs.Image.{Image, read_image, AcceptedImage}
use Rattle.history.specs.Changes.{read_list}
use Rattle.history.specs.Calls.{read_plan, image_call, apply_under, apply_call}
use Rattle.history.specs.Standing.{counted, Received, receive_call, NoneFull, total}
use Rattle.history.specs.Backlog.{Backlog, outcome, ended, take_lists, in_front, nothing_taken}
use Rattle.history.specs.Backlog.{backlog_under, backlog_call}
use Rattle.history.proofs.VerdictLaws.{one_refusal}
use Rattle.history.proofs.FrontLaws.{front_all, front_bytes, front_cut, forms_none, forms_cut, end_to_end}
use Rattle.history.proofs.FrontLaws.{AllWhole, forms_apart}
use Rattle.history.proofs.ImageLaws.{Fair}
use Rattle.history.proofs.TableLaws.{plan_fair}
use Rattle.history.proofs.CallLaws.{accepted_image, image_accepted}
use Rattle.history.proofs.CodeLaws.{codes, IsCode, not_zero, apply_coded, image_call_coded, apply_call_coded}
use Rattle.history.proofs.NameLaws.{one_of, NoNumber, Occurs, NamesIn, image_call_named, apply_call_named}
use Rattle.history.proofs.AcceptedLaws.{after_list, image_under}
use Rattle.history.proofs.StandingLaws.{Delivery, standing_after, was_none_full, total_grows, adds}
use Rattle.history.proofs.ReceiverLaws.{Receiver, Arrival, received, was_applied, next, apply_all}
use Rattle.history.proofs.BracketLaws.{Brackets, lists_of, AllBytes, JoinsTo, join_in_turn}

-- ---- receiving in turn

-- each output has room for n bytes
abbrev pub Roomy : ℕ → List Arrival → Type 0
Roomy n [] = Unit {0}
Roomy n (c ∷ cs) = (n ≤ length c.output) × Roomy n cs

-- lists received in turn by receive calls, up to the first that is refused; n were taken before
abbrev pub in_turn : List ℕ → Receiver → List Arrival → ℕ → Backlog
in_turn T r [] n = outcome (unnamed 0 (length r.image)) n r.image r.standing
in_turn T r (c ∷ cs) n =
    cond (was_applied T r c) (in_turn T (next T r c) cs (suc n))
    (outcome (of_length (length r.image) (received T r c).answer) n r.image (received T r c).standing)

-- ---- what each receive call gives

module _ (T A L out : List ℕ) (s : Standing) where
  receive_refused : {r : Refused} → apply_call T A L ≡ refused r
      → receive_call T A L out s ≡ record { answer = numbers r 0; output = out; standing = counted r.code s }
  unfolding receive_call settled
  receive_refused e = rw e

  receive_done : {B : List ℕ} → apply_call T A L ≡ done B → length B ≤ length out
      → receive_call T A L out s
      ≡ record { answer = unnamed 0 (length B); output = B ++ drop (length B) out; standing = counted 0 s }
  unfolding receive_call settled
  receive_done {B} e h = rw (e, le-leb (length B) (length out) h)

-- ---- how it ends: all lists are taken, or the next is refused

pub data Ended (T A : List ℕ) : List (List ℕ) → Answer → Type 0 where
  all_taken : Ended T A [] (unnamed 0 (length A))
  next_refused : {L : List ℕ} {Ls : List (List ℕ)} {r : Refused} → apply_call T A L ≡ refused r
      → Ended T A (L ∷ Ls) (numbers r (length A))

-- those taken are applied in turn to A, which gives B, as long as A; and what ended it
pub record Took (T A : List ℕ) (Ls : List (List ℕ)) (taken : ℕ) (B : List ℕ) (answer : Answer) : Type 0 where
  pub few : taken ≤ length Ls
  pub applied : apply_all T A (take taken Ls) ≡ done B
  pub long : length B ≡ length A
  pub rest : Ended T B (drop taken Ls) answer

-- one more was taken
abbrev one_taken : Backlog → Backlog
one_taken g = outcome g.answer (suc g.taken) g.output g.standing

-- where lists are looked at, how many: those taken, and the one that is refused
abbrev pub looked_at : Backlog → ℕ
looked_at g = cond (eqb g.answer.code 0) g.taken (suc g.taken)

looked_more : (g : Backlog) → looked_at (one_taken g) ≡ suc (looked_at g)
looked_more g = go (eqb g.answer.code 0)
  where
    go : (u : Bool) → cond u (suc g.taken) (suc (suc g.taken)) ≡ suc (cond u g.taken (suc g.taken))
    go true = refl
    go false = refl

-- ---- lists taken under an accepted table

module _ (T : List ℕ) {p : Plan} (t : read_plan T ≡ done p) where
  under_is : (A L : List ℕ) → apply_call T A L ≡ apply_under p A L
  unfolding apply_call
  under_is A L = rw t

  refused_code : (A L : List ℕ) {r : Refused} → apply_under p A L ≡ refused r → IsCode r.code
  refused_code A L e = rw e at (apply_coded p A L)

  in_turn_lem : (cs : List Arrival) {A : List ℕ} (s : Standing) (n : ℕ) → AcceptedImage p A
      → AllBytes (map (λ (c : Arrival). c.list) cs) → Roomy (length A) cs
      → take_lists p A (map (λ (c : Arrival). c.list) cs) s n
      ≡ in_turn T (record { image = A; standing = s }) cs n
  in_turn_lem [] s n a h g = refl
  in_turn_lem (c ∷ cs) {A} s n a h g =
      go (apply_under p A c.list) refl λ B b e.
      in_turn_lem cs (counted 0 s) (suc n) b h.1 (rw e g.1)
    where
      go : (v : Verdict (List ℕ)) → apply_under p A c.list ≡ v
          → ((B : List ℕ) → AcceptedImage p B → length B ≡ length A
          → take_lists p B (map (λ (c : Arrival). c.list) cs) (counted 0 s) (suc n)
          ≡ in_turn T (record { image = B; standing = counted 0 s }) cs (suc n))
          → decide v (ended A s n) (λ B. take_lists p B (map (λ (c : Arrival). c.list) cs) (counted 0 s) (suc n))
          ≡ in_turn T (record { image = A; standing = s }) (c ∷ cs) n
      go (refused r) e k =
          let code = ne_eqb r.code 0 (λ z. not_zero (refused_code A c.list e) z) in
          rw (receive_refused T A c.list c.output s (under_is A c.list ∙ e), code)
      go (done B) e k =
          let q = after_list (plan_fair T t) c.list a h.0 e in
          rw (
            receive_done T A c.list c.output s (under_is A c.list ∙ e) (rw q.1 g.0),
            take-append_seam B (drop (length B) c.output),
          )
          (k B q.0 q.1)

  take_more : (Ls : List (List ℕ)) (A : List ℕ) (s : Standing) (n : ℕ)
      → take_lists p A Ls s (suc n) ≡ one_taken (take_lists p A Ls s n)
  take_more [] A s n = refl
  take_more (L ∷ Ls) A s n = go (apply_under p A L) λ B. take_more Ls B (counted 0 s) (suc n)
    where
      go : (v : Verdict (List ℕ))
          → ((B : List ℕ)
          → take_lists p B Ls (counted 0 s) (suc (suc n)) ≡ one_taken (take_lists p B Ls (counted 0 s) (suc n)))
          → decide v (ended A s (suc n)) (λ B. take_lists p B Ls (counted 0 s) (suc (suc n)))
          ≡ one_taken (decide v (ended A s n) (λ B. take_lists p B Ls (counted 0 s) (suc n)))
      go (refused r) h = refl
      go (done B) h = h B

  -- those taken before only add to the number
  take_from : (Ls : List (List ℕ)) (A : List ℕ) (s : Standing) (n : ℕ)
      → take_lists p A Ls s n
      ≡ outcome (take_lists p A Ls s 0).answer (n + (take_lists p A Ls s 0).taken) (take_lists p A Ls s 0).output
      (take_lists p A Ls s 0).standing
  take_from Ls A s zero =
      ap (λ (n : ℕ). outcome (take_lists p A Ls s 0).answer n (take_lists p A Ls s 0).output
      (take_lists p A Ls s 0).standing)
      (omega arith)
  take_from Ls A s (suc n) =
      take_more Ls A s n ∙ ap one_taken (take_from Ls A s n)
      ∙ ap (λ (n : ℕ). outcome (take_lists p A Ls s 0).answer n (take_lists p A Ls s 0).output
      (take_lists p A Ls s 0).standing)
      (omega arith)

  -- those taken are applied, and the next is refused; the image is still accepted
  takes : (Ls : List (List ℕ)) {A : List ℕ} (s : Standing) → AcceptedImage p A → AllBytes Ls
      → Took T A Ls (take_lists p A Ls s 0).taken (take_lists p A Ls s 0).output (take_lists p A Ls s 0).answer
      × AcceptedImage p (take_lists p A Ls s 0).output
  takes [] s a h = (record { few = omega arith; applied = refl; long = refl; rest = all_taken }, a)
  takes (L ∷ Ls) {A} s a h = go (apply_under p A L) refl λ B b. takes Ls {A = B} (counted 0 s) b h.1
    where
      Taking : List ℕ → List (List ℕ) → Backlog → Type 0
      Taking A Ls g = Took T A Ls g.taken g.output g.answer × AcceptedImage p g.output

      go : (v : Verdict (List ℕ)) → apply_under p A L ≡ v
          → ((B : List ℕ) → AcceptedImage p B → Taking B Ls (take_lists p B Ls (counted 0 s) 0))
          → Taking A (L ∷ Ls) (decide v (ended A s 0) (λ B. take_lists p B Ls (counted 0 s) 1))
      go (refused r) e k =
          (record { few = omega arith; applied = refl; long = refl; rest = next_refused (under_is A L ∙ e) }, a)
      go (done B) e k =
          let q = after_list (plan_fair T t) L a h.0 e in
          let g = k B q.0 in
          rw (take_more Ls B (counted 0 s) 0) (
            record {
              few = omega (arith, g.0.few);
              applied = rw (under_is A L ∙ e) g.0.applied;
              long = g.0.long ∙ q.1;
              rest = g.0.rest;
            },
            g.1,
          )

  -- while none is full, the sum of the four grows by the lists looked at, and applied by those taken
  counts : (Ls : List (List ℕ)) (A : List ℕ) (s : Standing) → NoneFull (take_lists p A Ls s 0).standing
      → (total (take_lists p A Ls s 0).standing ≡ total s + looked_at (take_lists p A Ls s 0))
      × ((take_lists p A Ls s 0).standing.applied ≡ s.applied + (take_lists p A Ls s 0).taken)
      × NoneFull s
  counts [] A s = λ h. (omega arith, omega arith, h)
  counts (L ∷ Ls) A s = go (apply_under p A L) refl λ B. counts Ls B (counted 0 s)
    where
      Counting : Standing → Backlog → Type 0
      Counting s g =
          NoneFull g.standing
          → (total g.standing ≡ total s + looked_at g) × (g.standing.applied ≡ s.applied + g.taken) × NoneFull s

      go : (v : Verdict (List ℕ)) → apply_under p A L ≡ v
          → ((B : List ℕ) → Counting (counted 0 s) (take_lists p B Ls (counted 0 s) 0))
          → Counting s (decide v (ended A s 0) (λ B. take_lists p B Ls (counted 0 s) 1))
      go (refused r) e k h =
          let n = was_none_full r.code s h in
          let code = ne_eqb r.code 0 (λ z. not_zero (refused_code A L e) z) in
          let moved : (counted r.code s).applied ≡ s.applied = rw code at (adds r.code s n).applied in
          (rw code (total_grows r.code s n), omega arith, n)
      go (done B) e k h =
          let g : Backlog = take_lists p B Ls (counted 0 s) 0 in
          let more = take_more Ls B (counted 0 s) 0 in
          let f : NoneFull g.standing = rw more at h in
          let c = k B f in
          let n = was_none_full 0 s c.2 in
          rw more (
            omega (arith, c.0, total_grows 0 s n, looked_more g),
            omega (arith, c.1, (adds 0 s n).applied),
            n,
          )

  -- each list looked at is a receive call: after the calls ds since fresh, the standing is that after es too
  delivers : (Ls : List (List ℕ)) {A : List ℕ} (s : Standing) (ds : List Delivery) → standing_after ds ≡ s
      → AcceptedImage p A → AllBytes Ls
      → (es : List Delivery) × (standing_after (es ++ ds) ≡ (take_lists p A Ls s 0).standing)
      × (length es ≡ looked_at (take_lists p A Ls s 0))
  delivers [] s ds q a h = ([], q, refl)
  delivers (L ∷ Ls) {A} s ds q a h =
      go (apply_under p A L) refl λ B b c. delivers Ls {A = B} (counted 0 s) (call ∷ ds) c b h.1
    where
      -- its output has room
      call : Delivery
      call = record { table = T; image = A; list = L; output = A }

      Delivering : List Delivery → Backlog → Type 0
      Delivering ds g =
          (es : List Delivery) × (standing_after (es ++ ds) ≡ g.standing) × (length es ≡ looked_at g)

      go : (v : Verdict (List ℕ)) → apply_under p A L ≡ v
          → ((B : List ℕ) → AcceptedImage p B → standing_after (call ∷ ds) ≡ counted 0 s
          → Delivering (call ∷ ds) (take_lists p B Ls (counted 0 s) 0))
          → Delivering ds (decide v (ended A s 0) (λ B. take_lists p B Ls (counted 0 s) 1))
      go (refused r) e k =
          let code = ne_eqb r.code 0 (λ z. not_zero (refused_code A L e) z) in (
            call ∷ [],
            ap (λ (r : Received). r.standing) (receive_refused T A L A (standing_after ds) (under_is A L ∙ e))
                ∙ ap (counted r.code) q,
            rw code,
          )
      go (done B) e k =
          let f = after_list (plan_fair T t) L a h.0 e in
          let counts =
          ap (λ (r : Received). r.standing)
          (receive_done T A L A (standing_after ds) (under_is A L ∙ e) (omega (arith, f.1)))
          ∙ ap (counted 0) q in
          let g = k B f.0 counts in
          let more = take_more Ls B (counted 0 s) 0 in
          rw more (
            g.0 ++ (call ∷ []),
            ap standing_after (append_assoc g.0 (call ∷ []) ds) ∙ g.1,
            length-append g.0 (call ∷ []) ∙ omega (arith, g.2, looked_more (take_lists p B Ls (counted 0 s) 0)),
          )

  -- a backlog in two parts: if the first is taken whole, the second goes on from there; else it is not looked at
  take_apart : (Ls Ms : List (List ℕ)) (A : List ℕ) (s : Standing) (n : ℕ)
      → ((take_lists p A Ls s n).answer.code ≡ 0
      → take_lists p A (Ls ++ Ms) s n
      ≡ take_lists p (take_lists p A Ls s n).output Ms (take_lists p A Ls s n).standing (take_lists p A Ls s n).taken)
      × (((take_lists p A Ls s n).answer.code ≡ 0 → ⊥) → take_lists p A (Ls ++ Ms) s n ≡ take_lists p A Ls s n)
  take_apart [] Ms A s n = (λ e. refl, λ h. absurd (h refl))
  take_apart (L ∷ Ls) Ms A s n = go (apply_under p A L) refl λ B. take_apart Ls Ms B (counted 0 s) (suc n)
    where
      Apart : Backlog → Backlog → Type 0
      Apart whole g =
          (g.answer.code ≡ 0 → whole ≡ take_lists p g.output Ms g.standing g.taken)
          × ((g.answer.code ≡ 0 → ⊥) → whole ≡ g)

      go : (v : Verdict (List ℕ)) → apply_under p A L ≡ v
          → ((B : List ℕ)
          → Apart (take_lists p B (Ls ++ Ms) (counted 0 s) (suc n)) (take_lists p B Ls (counted 0 s) (suc n)))
          → Apart (decide v (ended A s n) (λ B. take_lists p B (Ls ++ Ms) (counted 0 s) (suc n)))
          (decide v (ended A s n) (λ B. take_lists p B Ls (counted 0 s) (suc n)))
      go (refused r) e k = (λ z. not_zero (refused_code A L e) z, λ h. refl)
      go (done B) e k = k B

  -- the code of a list is the paper's, never 21
  list_coded : (Ls : List (List ℕ)) (A : List ℕ) (s : Standing) (n : ℕ)
      → ((take_lists p A Ls s n).answer.code ≡ 0) ⊎ IsCode (take_lists p A Ls s n).answer.code
  list_coded [] A s n = inl refl
  list_coded (L ∷ Ls) A s n = go (apply_under p A L) refl λ B. list_coded Ls B (counted 0 s) (suc n)
    where
      Told : Backlog → Type 0
      Told g = (g.answer.code ≡ 0) ⊎ IsCode g.answer.code

      go : (v : Verdict (List ℕ)) → apply_under p A L ≡ v
          → ((B : List ℕ) → Told (take_lists p B Ls (counted 0 s) (suc n)))
          → Told (decide v (ended A s n) (λ B. take_lists p B Ls (counted 0 s) (suc n)))
      go (refused r) e k = inr (refused_code A L e)
      go (done B) e k = k B

-- ---- what the code uses

-- the image stays as long
pub take_keeps : {p : Plan} → Fair p → (Ls : List (List ℕ)) {A : List ℕ} (s : Standing) (n : ℕ) → AcceptedImage p A
    → AllBytes Ls → length (take_lists p A Ls s n).output ≡ length A
take_keeps fair [] s n a h = refl
take_keeps {p} fair (L ∷ Ls) {A} s n a h =
    go (apply_under p A L) refl λ B b. take_keeps fair Ls {A = B} (counted 0 s) (suc n) b h.1
  where
    go : (v : Verdict (List ℕ)) → apply_under p A L ≡ v
        → ((B : List ℕ) → AcceptedImage p B → length (take_lists p B Ls (counted 0 s) (suc n)).output ≡ length B)
        → length (decide v (ended A s n) (λ B. take_lists p B Ls (counted 0 s) (suc n))).output ≡ length A
    go (refused r) e k = refl
    go (done B) e k = let q = after_list fair L a h.0 e in k B q.0 ∙ q.1

-- ---- the call

pub forms_bytes : (b : List ℕ) → Bytes b → AllBytes (forms_in b)
unfolding forms_in after_front
forms_bytes b = go (length b) b
  where
    go : (n : ℕ) (b : List ℕ) → Bytes b → AllBytes (first_forms n b)
    go zero b h = tt
    go (suc n) [] h = tt
    go (suc n) (c ∷ b) h =
        let m : ℕ = 4 + number (take 4 (c ∷ b)) in
        (front_bytes (c ∷ b) h, go n (drop m (c ∷ b)) (drop_is m (c ∷ b) h))

image_read : (T A : List ℕ) {p : Plan} {a : Image} → read_plan T ≡ done p → image_call T A ≡ done a
    → read_image p A ≡ done a
unfolding image_call
image_read T A t e = rw t at e

module _ (T A b out : List ℕ) (s : Standing) where
  -- "table, image and then room for the image (21) come first, write nothing, take 0 and change no tally"
  pub backlog_refused : {r : Refused} → image_call T A ≡ refused r
      → backlog_call T A b out s ≡ outcome (numbers r 0) 0 out s
  unfolding backlog_call backlog_under image_call
  backlog_refused {r} e = go (read_plan T) e
    where
      go : (v : Verdict Plan) → then v (λ p. read_image p A) ≡ refused r
          → decide v (λ r. nothing_taken out s (numbers r 0)) (λ p. backlog_under p A b out s)
          ≡ outcome (numbers r 0) 0 out s
      go (refused x) e = ap (λ (r : Refused). outcome (numbers r 0) 0 out s) (one_refusal e)
      go (done p) e = rw e

  pub backlog_short : {a : Image} → image_call T A ≡ done a → length out < length A
      → backlog_call T A b out s ≡ outcome (unnamed 21 (length A)) 0 out s
  unfolding backlog_call backlog_under
  backlog_short e h =
      let t = (image_under T A e).reads in
      rw (t, image_read T A t e, lt-leb (length A) (length out) h)

  backlog_is : {p : Plan} {a : Image} → read_plan T ≡ done p → image_call T A ≡ done a → length A ≤ length out
      → backlog_call T A b out s ≡ in_front out (take_lists p A (forms_in b) s 0)
  unfolding backlog_call backlog_under
  backlog_is t e h = rw (t, image_read T A t e, le-leb (length A) (length out) h)

  module _ {a : Image} (ha : Bytes A) (hb : Bytes b) (e : image_call T A ≡ done a) (h : length A ≤ length out) where
    -- receiving its lists in turn, by calls whose outputs have room, gives the same
    pub backlog_in_turn : (cs : List Arrival) → map (λ (c : Arrival). c.list) cs ≡ forms_in b → Roomy (length A) cs
        → backlog_call T A b out s ≡ in_front out (in_turn T (record { image = A; standing = s }) cs 0)
    backlog_in_turn cs same room =
        let u = image_under T A e in
        let turns =
        in_turn_lem T u.reads cs s 0 (accepted_image T u.reads A ha e) (rw same (forms_bytes b hb)) room in
        backlog_is u.reads e h ∙ ap (in_front out) (rw same at turns)

    -- the output begins with the image after those taken, and its rest stays
    pub backlog_takes : Took T A (forms_in b) (backlog_call T A b out s).taken
        (take (length A) (backlog_call T A b out s).output) (backlog_call T A b out s).answer
        × (drop (length A) (backlog_call T A b out s).output ≡ drop (length A) out)
    backlog_takes =
        let u = image_under T A e in
        let g = (takes T u.reads (forms_in b) s (accepted_image T u.reads A ha e) (forms_bytes b hb)).0 in
        rw (backlog_is u.reads e h) (front _ g.long g)
      where
        front : (B : List ℕ) {n : ℕ} {r : Answer} → length B ≡ length A → Took T A (forms_in b) n B r
            → Took T A (forms_in b) n (take (length A) (B ++ drop (length B) out)) r
            × (drop (length A) (B ++ drop (length B) out) ≡ drop (length A) out)
        front B long g =
            rw (take_at B (drop (length B) out) (length A) long)
            (g, drop_at B (drop (length B) out) (length A) long ∙ ap (λ (n : ℕ). drop n out) long)

  -- while none is full, the sum of the four grows by the lists looked at, and applied by those taken
  pub backlog_sum : {a : Image} → image_call T A ≡ done a → length A ≤ length out
      → NoneFull (backlog_call T A b out s).standing
      → (total (backlog_call T A b out s).standing ≡ total s + looked_at (backlog_call T A b out s))
      × ((backlog_call T A b out s).standing.applied ≡ s.applied + (backlog_call T A b out s).taken)
  backlog_sum e h =
      let u = image_under T A e in
      rw (backlog_is u.reads e h)
      λ n. let c = counts T u.reads (forms_in b) A s n in (c.0, c.1)

-- "Each list looked at counts as one receive call in the sum rule": after the calls ds since fresh, a backlog leaves
-- the standing of as many receive calls more
pub backlog_since_fresh : (T A b out : List ℕ) (ds : List Delivery) {a : Image} → Bytes A → Bytes b
    → image_call T A ≡ done a → length A ≤ length out
    → (es : List Delivery) × (standing_after (es ++ ds) ≡ (backlog_call T A b out (standing_after ds)).standing)
    × (length es ≡ looked_at (backlog_call T A b out (standing_after ds)))
backlog_since_fresh T A b out ds ha hb e h =
    let u = image_under T A e in
    rw (backlog_is T A b out (standing_after ds) u.reads e h)
    (delivers T u.reads (forms_in b) (standing_after ds) ds refl (accepted_image T u.reads A ha e)
    (forms_bytes b hb))

-- bytes that hold no list in full are refused with 1
apply_cut : (p : Plan) (A b : List ℕ) {a : Image} → read_image p A ≡ done a → length b < 4 + number (take 4 b)
    → apply_under p A b ≡ refused (naming 1 65535 255)
unfolding apply_under read_list read_form
apply_cut p A b e h =
    let cut : is_whole 13 b ≡ false = ap (is_whole 13) (front_all b (omega arith)) ∙ front_cut 13 b h in
    rw (e, cut)

-- ---- a backlog cut in two

-- one call, or two: the same answer, image of n bytes and standing; the lists taken add up
pub record SameEnd (n : ℕ) (whole first second : Backlog) : Type 0 where
  pub answer : whole.answer ≡ second.answer
  pub taken : whole.taken ≡ first.taken + second.taken
  pub image : take n whole.output ≡ take n second.output
  pub standing : whole.standing ≡ second.standing

-- W, after what G took
abbrev onward : Backlog → Backlog → Backlog
onward G W = outcome W.answer (G.taken + W.taken) W.output W.standing

same_end : (n : ℕ) (out out' : List ℕ) (G W : Backlog) {whole first second : Backlog}
    → whole ≡ in_front out (onward G W) → first ≡ in_front out G → second ≡ in_front out' W → length W.output ≡ n
    → SameEnd n whole first second
same_end n out out' G W e f g l =
    rw (e, f, g)
    (record {
      answer = refl;
      taken = refl;
      image = take_at W.output _ n l ∙ sym (take_at W.output _ n l);
      standing = refl;
    })

module _ (T A out : List ℕ) (s : Standing) {a : Image} (e : image_call T A ≡ done a) (h : length A ≤ length out) where
  -- the lists of the call, under the table's plan
  by_lists : (b : List ℕ) {Ls : List (List ℕ)} → forms_in b ≡ Ls
      → backlog_call T A b out s ≡ in_front out (take_lists (image_under T A e).plan A Ls s 0)
  by_lists b f =
      let u = image_under T A e in
      backlog_is T A b out s u.reads e h
      ∙ ap (λ (Ls : List (List ℕ)). in_front out (take_lists u.plan A Ls s 0)) f

  -- "an empty slice succeeds with 0 taken"
  pub backlog_empty : backlog_call T A [] out s ≡ outcome (unnamed 0 (length A)) 0 (A ++ drop (length A) out) s
  backlog_empty = by_lists [] forms_none

  -- a backlog of whole lists, and any bytes after them
  module _ (ha : Bytes A) (Ls : List (List ℕ)) (all : AllWhole Ls) where
    alone : forms_in (end_to_end Ls) ≡ Ls
    alone =
        ap forms_in (sym (append-nil (end_to_end Ls))) ∙ forms_apart Ls [] all
        ∙ ap (λ (Ms : List (List ℕ)). Ls ++ Ms) forms_none ∙ append-nil Ls

    -- if one of the lists is refused, what follows them is not looked at
    pub backlog_stops : (b : List ℕ) → ((backlog_call T A (end_to_end Ls) out s).answer.code ≡ 0 → ⊥)
        → backlog_call T A (end_to_end Ls ++ b) out s ≡ backlog_call T A (end_to_end Ls) out s
    backlog_stops b stops =
        let u = image_under T A e in
        let first = by_lists (end_to_end Ls) alone in
        by_lists (end_to_end Ls ++ b) (forms_apart Ls b all)
        ∙ ap (in_front out) ((take_apart T u.reads Ls (forms_in b) A s 0).1 (rw first at stops))
        ∙ sym first

    -- "remaining bytes that don't hold one full list are 1 for that list": those before it stay taken
    pub backlog_cut_off : (b : List ℕ) → AllBytes Ls → 0 < length b → length b < 4 + number (take 4 b)
        → (backlog_call T A (end_to_end Ls) out s).answer.code ≡ 0
        → backlog_call T A (end_to_end Ls ++ b) out s
        ≡ outcome (unnamed 1 (length A)) (backlog_call T A (end_to_end Ls) out s).taken
        (backlog_call T A (end_to_end Ls) out s).output (counted 1 (backlog_call T A (end_to_end Ls) out s).standing)
    backlog_cut_off b hl some cut code =
        let u = image_under T A e in
        let first = by_lists (end_to_end Ls) alone in
        let G : Backlog = take_lists u.plan A Ls s 0 in
        let k = takes T u.reads Ls s (accepted_image T u.reads A ha e) hl in
        let rest = apply_cut u.plan G.output b k.1.reads cut in
        by_lists (end_to_end Ls ++ b)
        (forms_apart Ls b all ∙ ap (λ (Ms : List (List ℕ)). Ls ++ Ms) (forms_cut b some (omega arith)))
        ∙ ap (in_front out)
        ((take_apart T u.reads Ls (b ∷ []) A s 0).0 (ap (λ (g : Backlog). g.answer.code) (sym first) ∙ code)
        ∙ ap (λ (v : Verdict (List ℕ)). decide v (ended G.output G.standing G.taken)
        (λ B. take_lists u.plan B [] (counted 0 G.standing) (suc G.taken))) rest)
        ∙ ap (λ (n : ℕ). outcome (unnamed 1 n) G.taken (in_front out G).output (counted 1 G.standing))
        k.0.long
        ∙ ap (λ (g : Backlog). outcome (unnamed 1 (length A)) g.taken g.output (counted 1 g.standing))
        (sym first)

    -- if all are taken, what follows them goes on from there: a second call ends as the one call does
    pub backlog_goes_on : (b out' : List ℕ) → AllBytes Ls → Bytes b → length A ≤ length out'
        → (backlog_call T A (end_to_end Ls) out s).answer.code ≡ 0
        → SameEnd (length A) (backlog_call T A (end_to_end Ls ++ b) out s) (backlog_call T A (end_to_end Ls) out s)
        (backlog_call T (take (length A) (backlog_call T A (end_to_end Ls) out s).output) b out'
        (backlog_call T A (end_to_end Ls) out s).standing)
    backlog_goes_on b out' hl hb room code =
        let t = (image_under T A e).reads in
        let first = by_lists (end_to_end Ls) alone in
        let G : Backlog = take_lists (image_under T A e).plan A Ls s 0 in
        let k = takes T t Ls s (accepted_image T t A ha e) hl in
        let w = takes T t (forms_in b) G.standing k.1 (forms_bytes b hb) in
        let W : Backlog = take_lists (image_under T A e).plan G.output (forms_in b) G.standing 0 in
        let whole : backlog_call T A (end_to_end Ls ++ b) out s ≡ in_front out (onward G W) =
        by_lists (end_to_end Ls ++ b) (forms_apart Ls b all)
        ∙ ap (in_front out)
        ((take_apart T t Ls (forms_in b) A s 0).0 (ap (λ (g : Backlog). g.answer.code) (sym first) ∙ code)
        ∙ take_from T t (forms_in b) G.output G.standing G.taken) in
        let held : take (length A) (backlog_call T A (end_to_end Ls) out s).output ≡ G.output =
        ap (λ (g : Backlog). take (length A) g.output) first
        ∙ take_at G.output (drop (length G.output) out) (length A) k.0.long in
        let second =
        ap₂ (λ (I : List ℕ) (S : Standing). backlog_call T I b out' S) held (ap (λ (g : Backlog). g.standing) first)
        ∙ backlog_is T G.output b out' G.standing t (image_accepted T t k.1) (rw k.0.long room) in
        same_end (length A) out out' G W whole first second (w.0.long ∙ k.0.long)

-- ---- the join of the lists taken

ended_all : (T A : List ℕ) {Ls : List (List ℕ)} {r : Answer} → Ended T A Ls r → r.code ≡ 0 → Ls ≡ []
ended_all T A all_taken z = refl
ended_all T A (next_refused {L} e) z = not_zero (rw e at (apply_call_coded T A L)) z

-- with code 0 every list was taken, and applying them in turn gives the image
pub took_all : {T A B : List ℕ} {Ls : List (List ℕ)} {n : ℕ} {r : Answer} → Took T A Ls n B r → r.code ≡ 0
    → (n ≡ length Ls) × (apply_all T A Ls ≡ done B)
took_all {T} {A} {B} {Ls} {n} g z =
    let none : drop n Ls ≡ [] = ended_all T B g.rest z in
    let every : take n Ls ≡ Ls =
    sym (append-nil (take n Ls)) ∙ ap (λ (Ms : List (List ℕ)). take n Ls ++ Ms) (sym none) ∙ take-append-drop n Ls in
    (omega (arith, g.few, simp length-drop at (ap length none)), rw every at g.applied)

-- the controller's view: the result is that of the join of the lists taken, whichever neighbours are joined first
pub backlog_by_join : (T A b out : List ℕ) (s : Standing) {a : Image} (ls : Brackets) → Bytes A → Bytes b
    → image_call T A ≡ done a → length A ≤ length out
    → lists_of ls ≡ take (backlog_call T A b out s).taken (forms_in b)
    → JoinsTo T A ls (take (length A) (backlog_call T A b out s).output)
backlog_by_join T A b out s ls ha hb e h same =
    let u = image_under T A e in
    join_in_turn T u.reads A ls (accepted_image T u.reads A ha e)
    (rw same (first_bytes (backlog_call T A b out s).taken (forms_in b) (forms_bytes b hb)))
    (rw same (backlog_takes T A b out s ha hb e h).0.applied)
  where
    first_bytes : (n : ℕ) (Ls : List (List ℕ)) → AllBytes Ls → AllBytes (take n Ls)
    first_bytes zero Ls h = tt
    first_bytes (suc n) [] h = tt
    first_bytes (suc n) (L ∷ Ls) h = (h.0, first_bytes n Ls h.1)

-- ---- its codes, and what they name

-- what is refused first, or that there is no room, or that the lists are looked at
data Way (T A out : List ℕ) : Type 0 where
  form : {r : Refused} → image_call T A ≡ refused r → Way T A out
  short : {a : Image} → image_call T A ≡ done a → length out < length A → Way T A out
  lists : {a : Image} → image_call T A ≡ done a → length A ≤ length out → Way T A out

way : (T A out : List ℕ) → Way T A out
way T A out = go (image_call T A) refl (leb (length A) (length out)) refl
  where
    go : (v : Verdict Image) → image_call T A ≡ v → (u : Bool) → leb (length A) (length out) ≡ u → Way T A out
    go (refused r) e u f = form e
    go (done a) e true f = lists e (leb-true _ _ f)
    go (done a) e false f = short e (leb-false _ _ f)

-- success, 21 or another of the paper's codes
abbrev pub GivenCode : ℕ → Type 0
GivenCode code = (code ≡ 0) ⊎ ((code ≡ 21) ⊎ IsCode code)

widen : (code : ℕ) → (code ≡ 0) ⊎ IsCode code → GivenCode code
widen code (inl z) = inl z
widen code (inr c) = inr (inr c)

not_short : {code : ℕ} → (code ≡ 0) ⊎ IsCode code → code ≡ 21 → ⊥
not_short (inl z) e = omega (arith, z, e)
not_short (inr c) e = false≢true (ap (one_of codes) (sym e) ∙ c)

-- a refusal by the table or the image has length 0; one by a list has the image's, n, and that list is the next after
-- those taken of Ls
pub data Tells (T : List ℕ) (Ls : List (List ℕ)) (n taken : ℕ) : Answer → Type 0 where
  success : Tells T Ls n taken (unnamed 0 n)
  short : Tells T Ls n taken (unnamed 21 n)
  by_form : {r : Refused} → NamesIn T NoNumber r → Tells T Ls n taken (numbers r 0)
  by_list : {r : Refused} → taken < length Ls → NamesIn T (Occurs (get_or Ls taken [])) r
      → Tells T Ls n taken (numbers r n)

took_tells : {T A B : List ℕ} {Ls : List (List ℕ)} {n : ℕ} {r : Answer} → Took T A Ls n B r → Tells T Ls (length A) n r
took_tells {T} {A} {B} {Ls} {n} g = go g.rest refl
  where
    go : {Ms : List (List ℕ)} {r : Answer} → Ended T B Ms r → drop n Ls ≡ Ms → Tells T Ls (length A) n r
    go all_taken f = rw g.long success
    go (next_refused {L} {r = r} e) f =
        let here : get_or Ls n [] ≡ L =
        ap (λ (i : ℕ). get_or Ls i []) (omega arith) ∙ sym (get_or-drop n Ls 0 [])
        ∙ ap (λ (Ns : List (List ℕ)). get_or Ns 0 []) f in
        rw g.long
        (by_list {r = r} (omega (arith, g.few, simp length-drop at (ap length f)))
        (rw here ((apply_call_named T B L).names e)))

module _ (T A b out : List ℕ) (s : Standing) where
  pub backlog_coded : GivenCode (backlog_call T A b out s).answer.code
  backlog_coded = go (way T A out)
    where
      go : Way T A out → GivenCode (backlog_call T A b out s).answer.code
      go (form e) = rw (backlog_refused T A b out s e) (inr (inr (rw e at (image_call_coded T A))))
      go (short e h) = rw (backlog_short T A b out s e h) (inr (inl refl))
      go (lists e h) =
          let u = image_under T A e in
          rw (backlog_is T A b out s u.reads e h) (widen _ (list_coded T u.reads (forms_in b) A s 0))

  -- 21 exactly where the image is accepted and has no room: a list never gives it
  pub backlog_short_exactly : ((backlog_call T A b out s).answer.code ≡ 21)
      ↔ ((a : Image) × (image_call T A ≡ done a) × (length out < length A))
  backlog_short_exactly =
      (go (way T A out), λ h. ap (λ (g : Backlog). g.answer.code) (backlog_short T A b out s h.1 h.2))
    where
      go : Way T A out → (backlog_call T A b out s).answer.code ≡ 21
          → (a : Image) × (image_call T A ≡ done a) × (length out < length A)
      go (form {r = r} e) z =
          let c : r.code ≡ 21 = ap (λ (g : Backlog). g.answer.code) (sym (backlog_refused T A b out s e)) ∙ z in
          absurd (not_short (inr (rw e at (image_call_coded T A))) c)
      go (short {a = a} e h) z = (a, e, h)
      go (lists e h) z =
          let u = image_under T A e in
          absurd
          (not_short (list_coded T u.reads (forms_in b) A s 0)
          (ap (λ (g : Backlog). g.answer.code) (sym (backlog_is T A b out s u.reads e h)) ∙ z))

  pub backlog_names : Bytes A → Bytes b
      → Tells T (forms_in b) (length A) (backlog_call T A b out s).taken (backlog_call T A b out s).answer
  backlog_names ha hb = go (way T A out)
    where
      go : Way T A out
          → Tells T (forms_in b) (length A) (backlog_call T A b out s).taken (backlog_call T A b out s).answer
      go (form e) = rw (backlog_refused T A b out s e) (by_form ((image_call_named T A).names e))
      go (short e h) = rw (backlog_short T A b out s e h) short
      go (lists e h) = took_tells (backlog_takes T A b out s ha hb e h).0
