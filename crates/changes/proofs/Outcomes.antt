-- What the calls under a plan give, test by test, where the forms are accepted.
-- Assumes nothing.
use Prim.Native.Nat.{ℕ, ◌+◌, ◌≤◌, ◌<◌}
use Rattle.kinds.specs.declared.Kind.{Kind}
use native.Mathlib.Omega.{arith}
use mathlib.Core.Path.{◌≡◌, refl, sym, ap, ◌∙◌}
use mathlib.Core.Bool.{true, false}
use mathlib.Core.List.{List, zip_with}
use lib.Dec.{eqb, leb}
use lib.ListN.{length}
use borrow.Author.Tests.{eq-eqb, ne_eqb, le-leb, lt-leb}
use Rattle.std.specs.Prelude.{Ok, Err}
use Rattle.history.specs.declared.Answer.{Answer}
use Rattle.history.specs.Verdict.{Refused, Verdict, refused, done, then, value_or, refusal, refusal_at, given, checked}
use Rattle.history.specs.Verdict.{numbers}
use Rattle.history.specs.Image.{Image, widths, words_bytes, image_bytes, AcceptedImage}
use Rattle.history.specs.Changes.{list_bytes, AcceptedList, after, result_of, joint_of, difference, applied, join}
use Rattle.history.specs.Changes.{turned}
use Rattle.history.specs.Calls.{difference_under, apply_under, join_under, turn_under}
use Rattle.history.proofs.ImageLaws.{length_words}
use Rattle.history.proofs.OperationLaws.{takes}
use Rattle.steps.specs.declared.Walk.{Walk}
use Rattle.tables.specs.Plans.{plan_with}
use Rattle.walks.specs.Walks.{Measured, misfit, unfit, renewal}
use Rattle.walks.proofs.Bridges.{difference_walk, join_walk, turn_walk, turn_measured, join_misfit, apply_unfit}
use Rattle.walks.proofs.Bridges.{found_at, renewal_is}
use Rattle.walks.proofs.Application.{length_renewal}
use Rattle.heads.specs.Heads.{image_head, position_in, elements_in, from_in, to_in, entry_count_in, entries_in}
use Rattle.heads.proofs.Parts.{position_in_lem, elements_in_lem, image_length, elements_length, from_in_lem, to_in_lem}
use Rattle.heads.proofs.Parts.{count_in_lem, entries_in_lem}
use Rattle.heads.proofs.WrittenLaws.{image_again}
use Rattle.outputs.specs.Outputs.{walk_list, image_after}

-- a check that refuses
pub refuses : {A : Type 0} (v : Verdict A) {x : Refused} {a : Answer} → v ≡ refused x → a ≡ numbers x 0
    → Err a ≡ checked v
refuses v e q = rw (e, q) refl

-- `Ok` means that there was a value
used : {A B : Type 0} (v : Verdict A) (f : A → B) → Ok tt ≡ checked (then v (λ a. done (f a))) → (a : A) × (v ≡ done a)
used (refused r) f e = absurd (let z : ◌≡◌ {A = ℕ} 0 1 = cc in omega arith)
used (done a) f e = (a, refl)

-- where a check refuses, what there was before stays
pub stays : {A B : Type 0} (v : Verdict A) (before : A) (g : A → B) {a : Answer} → Err a ≡ given g v
    → before ≡ value_or before v
stays (refused x) before g e = refl
stays (done b) before g e = absurd (let z : ◌≡◌ {A = ℕ} 0 1 = cc in omega arith)

-- how long an accepted image is, from the kinds that the code has
module _ {x y : ℕ} (ns : List Kind) {A : List ℕ} (a : AcceptedImage (plan_with x y ns) A) where
  pub image_sized : length A ≡ image_head A + widths ns
  image_sized = image_length a

  pub elements_sized : {s : List ℕ} → s ≡ elements_in A → length s ≡ widths ns
  elements_sized e = elements_length a e

module _ (x y : ℕ) (ns : List Kind) (few : length ns ≤ 1024) where
  bound : 0 + length ns ≤ 65536
  bound = omega arith

  -- ---- difference

  pub difference_is : {A B : List ℕ} → AcceptedImage (plan_with x y ns) A → AcceptedImage (plan_with x y ns) B
      → {from to : ℕ} {f s : List ℕ}
      → from ≡ position_in A → to ≡ position_in B → f ≡ elements_in A → s ≡ elements_in B
      → done (walk_list Walk.Difference x y ns from to f s) ≡ difference_under (plan_with x y ns) A B
  unfolding difference_under walk_list difference
  difference_is a b ef et e₁ e₂ =
      rw (
        ef,
        et,
        e₁,
        e₂,
        elements_in_lem a,
        elements_in_lem b,
        position_in_lem a,
        position_in_lem b,
        difference_walk 0 a.legal.words b.legal.words,
        a.reads,
        b.reads,
      )

  -- ---- turning back

  pub turn_is : {L : List ℕ} → AcceptedList (plan_with x y ns) L → {from to : ℕ} {f : List ℕ} (s : List ℕ)
      → from ≡ to_in L → to ≡ from_in L → f ≡ entries_in L
      → done (walk_list Walk.Turn x y ns from to f s) ≡ turn_under (plan_with x y ns) L
  unfolding turn_under walk_list turned
  turn_is l s ef et e =
      rw (ef, et, e, entries_in_lem l, to_in_lem l, from_in_lem l, turn_walk 0 s bound l.legal.each, l.reads)

  -- the list turned back has the list's size
  pub turn_size : {L : List ℕ} → AcceptedList (plan_with x y ns) L → {f : List ℕ} (s : List ℕ) {count size : ℕ}
      → f ≡ entries_in L → count ≡ entry_count_in L → size ≡ length f
      → Measured Walk.Turn ns f s count size
  turn_size {L} l s e ec es =
      let m = turn_measured s (omega arith) l.legal.each in
      rw (es, e, ec, count_in_lem l m.few, entries_in_lem l) m

  -- ---- joining

  module _ {L M : List ℕ} (l : AcceptedList (plan_with x y ns) L) (m : AcceptedList (plan_with x y ns) M) where
    join_reads : join_under (plan_with x y ns) L M
        ≡ then (join l.list m.list) (λ k. done (list_bytes (plan_with x y ns) k))
    unfolding join_under
    join_reads = rw (l.reads, m.reads)

    module _ {end start : ℕ} (ee : end ≡ to_in L) (es : start ≡ from_in M) where
      pub join_apart : (end ≡ start → ⊥) → join_under (plan_with x y ns) L M ≡ refusal 19
      unfolding join
      join_apart h =
          let t : eqb l.list.to m.list.from ≡ false =
          ne_eqb _ _ (λ e. h (ee ∙ to_in_lem l ∙ e ∙ sym (es ∙ from_in_lem m))) in
          join_reads ∙ rw t

      module _ (h : end ≡ start) {f s : List ℕ} (e₁ : f ≡ entries_in L) (e₂ : s ≡ entries_in M) {n : ℕ}
          (en : n ≡ misfit Walk.Join 0 ns f s) where
        join_found : join_under (plan_with x y ns) L M
            ≡ then (found_at 20 (joint_of l.list m.list) (length ns) n) (λ k. done (list_bytes (plan_with x y ns) k))
        unfolding join
        join_found =
            let t : eqb l.list.to m.list.from ≡ true =
            eq-eqb _ _ (sym (to_in_lem l) ∙ sym ee ∙ h ∙ es ∙ from_in_lem m) in
            join_reads
            ∙ rw (
              t,
              en,
              e₁,
              e₂,
              entries_in_lem l,
              entries_in_lem m,
              join_misfit 20 (joint_of l.list m.list) 0 (length ns) (omega arith)
                  (omega arith) l.legal.each m.legal.each,
            )

        pub join_misfits : n < length ns → join_under (plan_with x y ns) L M ≡ refusal_at 20 n
        join_misfits k = join_found ∙ rw (lt-leb (length ns) n k)

        -- what is written where nothing is refused
        pub join_is : length ns ≤ n → {from to : ℕ} → from ≡ from_in L → to ≡ to_in M
            → done (walk_list Walk.Join x y ns from to f s) ≡ join_under (plan_with x y ns) L M
        unfolding walk_list
        join_is k ef et =
            rw (
              ef,
              et,
              e₁,
              e₂,
              from_in_lem l,
              to_in_lem m,
              entries_in_lem l,
              entries_in_lem m,
              join_walk 0 bound l.legal.each m.legal.each,
            )
            (sym (join_found ∙ rw (le-leb (length ns) n k)))

  -- ---- application

  module _ {A L : List ℕ} (a : AcceptedImage (plan_with x y ns) A) (l : AcceptedList (plan_with x y ns) L) where
    apply_reads : apply_under (plan_with x y ns) A L
        ≡ then (applied l.list a.image) (λ b. done (image_bytes (plan_with x y ns) b))
    unfolding apply_under
    apply_reads = rw (a.reads, l.reads)

    -- the image after the list, byte for byte
    after_is : {e : List ℕ} {to : ℕ} → e ≡ entries_in L → to ≡ to_in L
        → image_after ns to e A ≡ image_bytes (plan_with x y ns) (result_of l.list a.image)
    unfolding image_after
    after_is {e} {to} ee et =
        let renewed_is : renewal 0 ns e (elements_in A)
        ≡ words_bytes ns (zip_with after l.list.each a.image.words) =
        rw (ee, entries_in_lem l, elements_in_lem a) (renewal_is 0 bound l.legal.each a.legal.words) in
        let long : length (words_bytes ns (zip_with after l.list.each a.image.words))
        ≡ widths ns =
        ap length (sym renewed_is)
        ∙ length_renewal ns 0 e (elements_in A)
        (ap length (elements_in_lem a) ∙ length_words a.legal.words) in
        rw (renewed_is, et, to_in_lem l)
        (image_again a l.list.to (zip_with after l.list.each a.image.words) long)

    module _ {position from : ℕ} (ep : position ≡ position_in A) (ef : from ≡ from_in L) where
      pub apply_late : from < position → apply_under (plan_with x y ns) A L ≡ refusal 16
      unfolding applied
      apply_late h =
          apply_reads ∙ rw (lt-leb a.image.position l.list.from (omega (arith, position_in_lem a, from_in_lem l)))

      pub apply_gap : position < from → apply_under (plan_with x y ns) A L ≡ refusal 17
      unfolding applied
      apply_gap h =
          apply_reads
          ∙ rw (
            le-leb a.image.position l.list.from (omega (arith, position_in_lem a, from_in_lem l)),
            lt-leb l.list.from a.image.position (omega (arith, position_in_lem a, from_in_lem l)),
          )

      module _ (h : position ≤ from) (k : from ≤ position) {f s : List ℕ} (e₁ : f ≡ entries_in L)
          (e₂ : s ≡ elements_in A)
          {n : ℕ} (en : n ≡ unfit 0 ns f s) where
        apply_found : apply_under (plan_with x y ns) A L
            ≡ then (found_at 18 (result_of l.list a.image) (length ns) n) (λ b. done (image_bytes (plan_with x y ns) b))
        unfolding applied
        apply_found =
            let t : leb a.image.position l.list.from ≡ true =
            le-leb a.image.position l.list.from (omega (arith, position_in_lem a, from_in_lem l)) in
            let u : leb l.list.from a.image.position ≡ true =
            le-leb l.list.from a.image.position (omega (arith, position_in_lem a, from_in_lem l)) in
            apply_reads
            ∙ rw (
              t,
              u,
              en,
              e₁,
              e₂,
              entries_in_lem l,
              elements_in_lem a,
              apply_unfit 18 (result_of l.list a.image) 0 (length ns) (omega arith)
                  (omega arith) l.legal.each a.legal.words,
            )

        pub apply_misfits : n < length ns → apply_under (plan_with x y ns) A L ≡ refusal_at 18 n
        apply_misfits q = apply_found ∙ rw (lt-leb (length ns) n q)

        pub apply_fits : length ns ≤ n → Ok tt ≡ checked (apply_under (plan_with x y ns) A L)
        apply_fits q =
            let found : apply_under (plan_with x y ns) A L
            ≡ done (image_bytes (plan_with x y ns) (result_of l.list a.image)) =
            apply_found ∙ rw (le-leb (length ns) n q) in
            ap checked (sym found)

    -- what is written where nothing is refused
    pub apply_is : Ok tt ≡ checked (apply_under (plan_with x y ns) A L) → {f : List ℕ} {to : ℕ}
        → f ≡ entries_in L → to ≡ to_in L
        → done (image_after ns to f A) ≡ apply_under (plan_with x y ns) A L
    apply_is e ee et =
        let d = used (applied l.list a.image) _ (e ∙ ap checked apply_reads) in
        ap done (after_is ee et)
        ∙ sym (apply_reads
        ∙ rw d.1 (ap (λ (b : Image). done (image_bytes (plan_with x y ns) b))
        (takes l.legal a.legal d.1).result))

    pub apply_takes : Ok tt ≡ checked (apply_under (plan_with x y ns) A L) → {f : List ℕ} {to : ℕ}
        → f ≡ entries_in L → to ≡ to_in L → {m : List ℕ} → m ≡ image_after ns to f A
        → m ≡ value_or A (apply_under (plan_with x y ns) A L)
    apply_takes e ee et q = q ∙ ap (value_or A) (apply_is e ee et)
