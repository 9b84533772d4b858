-- The turns of a backlog's loop: what the whole backlog comes to, and what is left of it comes to the same.
-- Assumes nothing.
use Prim.Native.Nat.{ℕ, suc, ◌+◌, ◌-◌, ◌^◌, ◌≤◌, ◌<◌}
use native.Mathlib.Omega.{arith}
use native.Mathlib.Numerals.{add-one}
use mathlib.Core.Path.{◌≡◌, refl, sym, ap, ◌∙◌}
use mathlib.Core.List.{List, [], ◌∷◌}
use lib.ListN.{length, take, drop, get_or, length-take, length-drop}
use lib.Seq.{take_all}
use borrow.Author.Tests.{false-eqb, true-eqb}
use mir.Syntax.{w8}
use mir.Val.{Fits}
use Rattle.std.proofs.Common.{Ok, Err, ◌==◌, true, false}
use Rattle.std.proofs.lemmas.List.{nil_from_length}
use Rattle.octets.specs.Octets.{Bytes}
use Rattle.octets.proofs.NumberLaws.{drop_is}
use Rattle.history.specs.declared.Answer.{Answer}
use Rattle.history.specs.declared.Standing.{Standing}
use Rattle.history.specs.Verdict.{Verdict, refused, done, decide, value_or, numbers, unnamed, of_length, checked}
use Rattle.heads.specs.Heads as Heads
use Rattle.history.specs.Form.{front_form, forms_in}
use Rattle.history.specs.Table.{Plan}
use Rattle.history.specs.Image.{AcceptedImage}
use Rattle.history.specs.Calls.{apply_under}
use Rattle.history.specs.Standing.{counted}
use Rattle.history.specs.Backlog.{ended, take_lists}
use Rattle.history.proofs.FrontLaws.{after_is, front_some, front_short, front_bytes, forms_none, forms_more}
use Rattle.history.proofs.ImageLaws.{widths_few, image_long}
use Rattle.history.proofs.AcceptedLaws.{after_list}
use Rattle.history.proofs.OutputLaws.{given_done}
use Rattle.receiver.specs.Backlogs.{Advances}

-- the length of an accepted image fits in 32 bits
pub image_small : {p : Plan} {A : List ℕ} → AcceptedImage p A → length p.kinds ≤ 1024 → length A < 2 ^ 32
image_small {p} a few = omega (arith, ap length a.same ∙ image_long a.legal, widths_few p.kinds)

-- the first form as `heads` says it is the one of the meaning
front_same : (b : List ℕ) → Heads.front_form b ≡ front_form b
unfolding Heads.front_form front_form
front_same b = refl

-- what the loop's test says
some_left : (b : List ℕ) → false ≡ (length b == 0) → 0 < length b
some_left b h = let n = false-eqb _ _ h in omega arith

none_left : (b : List ℕ) → true ≡ (length b == 0) → b ≡ []
none_left b h = nil_from_length b (true-eqb _ _ h)

-- n lists of b₀ are taken, which led to the image A and the standing s; b is left
pub record Taking (p : Plan) (b₀ A₀ : List ℕ) (s₀ : Standing) (b A : List ℕ) (s : Standing) (n : ℕ) : Type 0 where
  pub same : take_lists p A₀ (forms_in b₀) s₀ 0 ≡ take_lists p A (forms_in b) s n
  pub accepted : AcceptedImage p A
  pub bytes : Bytes b
  pub few : n + length b ≤ length b₀
  pub long : length A ≡ length A₀

pub none_yet : {p : Plan} {A : List ℕ} (b : List ℕ) (s : Standing) → AcceptedImage p A
    → ((i : ℕ) → Fits w8 (get_or b i 0))
    → Taking p b A s b A s 0
none_yet b s a h = record { same = refl; accepted = a; bytes = λ i. (h i).fits; few = omega arith; long = refl }

module _ {p : Plan} {b₀ A₀ : List ℕ} {s₀ : Standing} {b A : List ℕ} {s : Standing} {n : ℕ}
    (z : Taking p b₀ A₀ s₀ b A s n) where
  -- no byte is left
  pub all_taken : true ≡ (length b == 0) → {q : Answer} {size : ℕ} → size ≡ length A₀ → q ≡ unnamed 0 size
      → Advances (take_lists p A₀ (forms_in b₀) s₀ 0)
      (record { progress = record { answer = q; taken = n }; standing = s }) A
  all_taken h {q} {size} es eq =
      let whole =
      z.same ∙ ap (λ (c : List ℕ). take_lists p A (forms_in c) s n) (none_left b h)
      ∙ ap (λ (Ls : List (List ℕ)). take_lists p A Ls s n) forms_none in
      rw (whole, eq, es ∙ sym z.long) (refl, refl)

  -- the next list is taken or refused
  module _ (h : false ≡ (length b == 0)) {L : List ℕ} (front : L ≡ Heads.front_form b) where
    some : 0 < length b
    some = some_left b h

    first : L ≡ front_form b
    first = front ∙ front_same b

    turn_on : 0 < length L
    turn_on = rw first (front_some b some)

    pub turn_inside : length L ≤ length b
    turn_inside = rw first (front_short b)

    pub turn_shrinks : length (take (length b - length L) (drop (length L) b)) < length b
    turn_shrinks =
        omega (
          arith,
          turn_on,
          turn_inside,
          length-take (length b - length L) (drop (length L) b),
          length-drop (length L) b,
        )

    whole : take_lists p A₀ (forms_in b₀) s₀ 0
        ≡ decide (apply_under p A L) (ended A s n)
        (λ B. take_lists p B (forms_in (drop (length L) b)) (counted 0 s) (suc n))
    whole =
        let rest = after_is b ∙ ap (λ (l : List ℕ). drop (length l) b) (sym first) in
        z.same
        ∙ ap (λ (Ls : List (List ℕ)). take_lists p A Ls s n)
        (forms_more b some
        ∙ ap (λ (c : List ℕ). front_form b ∷ forms_in c) rest
        ∙ ap (λ (l : List ℕ). l ∷ forms_in (drop (length L) b)) (sym first))

    module _ {m : List ℕ} (image : m ≡ value_or A (apply_under p A L)) where
      pub turn_refused : {a : Answer} → Err a ≡ checked (apply_under p A L) → {k : Standing} → k ≡ counted a.code s
          → {q : Answer} {size : ℕ} → size ≡ length A₀ → q ≡ of_length size a
          → Advances (take_lists p A₀ (forms_in b₀) s₀ 0)
          (record { progress = record { answer = q; taken = n }; standing = k }) m
      turn_refused {a} e {k} c {q} {size} es eq = go (apply_under p A L) whole e image
        where
          go : (v : Verdict (List ℕ))
              → take_lists p A₀ (forms_in b₀) s₀ 0
              ≡ decide v (ended A s n)
              (λ B. take_lists p B (forms_in (drop (length L) b)) (counted 0 s) (suc n))
              → Err a ≡ checked v → m ≡ value_or A v
              → Advances (take_lists p A₀ (forms_in b₀) s₀ 0)
              (record { progress = record { answer = q; taken = n }; standing = k }) m
          go (refused f) w e i =
              let told : a ≡ numbers f 0 = cc in
              rw (w, i, c, eq, es ∙ sym z.long, told) (refl, refl)
          go (done B) w e i = absurd (let z : ◌≡◌ {A = ℕ} 0 1 = cc in omega arith)

      -- the image after the list, whether it is taken or refused, is as long
      module _ (few : length p.kinds ≤ 1024) where
        after : AcceptedImage p m × (length m ≡ length A)
        after = rw image (go (apply_under p A L) refl)
          where
            go : (v : Verdict (List ℕ)) → apply_under p A L ≡ v
                → AcceptedImage p (value_or A v) × (length (value_or A v) ≡ length A)
            go (refused f) e = (z.accepted, refl)
            go (done B) e =
                after_list (record { count = few }) (front_form b) z.accepted
                (front_bytes b z.bytes) (ap (apply_under p A) (sym first) ∙ e)

        -- what is left is lent as the part of b from L's end to b's
        pub turn_taken : Ok tt ≡ checked (apply_under p A L) → {k : Standing} → k ≡ counted 0 s
            → Taking p b₀ A₀ s₀ (take (length b - length L) (drop (length L) b)) m k (n + 1)
        turn_taken e {k} c =
            let f = given_done (apply_under p A L) _ e in
            let m-is : m ≡ f.0 = image ∙ ap (value_or A) f.1 in
            let left =
            take_all (length b - length L) (drop (length L) b) (rw (length-drop (length L) b) (omega arith)) in
            record {
              same = rw (left, m-is, c) (rw (f.1, ← (add-one n)) at whole);
              accepted = after.0;
              bytes = rw left (drop_is (length L) b z.bytes);
              few = rw left (omega (arith, z.few, turn_on, turn_inside, length-drop (length L) b));
              long = after.1 ∙ z.long;
            }
