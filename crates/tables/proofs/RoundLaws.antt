-- The loop over the entries, and in it the search among the earlier ones, turn by turn:
-- the verdict for the whole is that for what is left.
-- Assumes nothing.
use Prim.Native.Nat.{ℕ, zero, suc, ◌+◌, ◌-◌, ◌*◌, ◌≤◌, ◌<◌}
use native.Mathlib.Omega.{arith}
use native.Mathlib.Nat.{sub-zero, eq-or-lt_of_le}
use native.Mathlib.Numerals.{add-one}
use mathlib.Core.Path.{◌≡◌, refl, sym, ap, ap₂, ◌∙◌}
use mathlib.Core.Bool.{Bool, true, false, not}
use mathlib.Core.List.{List}
use mathlib.Core.Logic.{⊎_elim}
use Rattle.std.specs.Prelude.{Result, Ok, Err}
use lib.Dec.{leb}
use lib.ListN.{length, get_or, set}
use borrow.Author.Tests.{eq-eqb, ne_eqb, leb-true, leb-false}
use Rattle.history.specs.declared.Answer.{Answer}
use Rattle.history.specs.Verdict.{naming, Verdict, done, then, refusal_at, ◌unless◌⨾◌, numbers, unnamed, given, checked}
use Rattle.history.proofs.OutputLaws.{first_given}
use Rattle.history.specs.Table.{Object}
use Rattle.heads.specs.Heads.{objects_place}
use Rattle.heads.proofs.Places.{objects_place_lem}
use Rattle.tables.specs.Places.{place_of, check_object_at, hash_at, objects_in}
use Rattle.tables.proofs.EntryLaws.{was_found, found_few, good_entry, limit_48}
use Rattle.tables.proofs.PlaceLaws.{repeats_below, entries_check, entries_read, place_next, place_before}
use Rattle.tables.proofs.RepeatLaws.{same, repeats_none, repeats_yes, Agree, Both, Common, same_yes, same_no}
use Rattle.tables.proofs.ChainLaws.{hash, other_hash, Last, Chained, link_low, start_low, chain_next}

pub entries_are : (b : List ℕ) (count : ℕ) → objects_place ≤ length b → objects_in b count ≡ entries_check b count 0
unfolding objects_in place_of
entries_are b count h = entries_read b count 0 h

-- k entries are passed, and the cursor is right after them
pub record Walking (b : List ℕ) (count k at : ℕ) : Type 0 where
  pub bound : k ≤ count
  pub place : at ≡ place_of b k
  pub inside : at ≤ length b
  pub near : at ≤ 50 * (k + 1)
  pub left : objects_in b count ≡ entries_check b (count - k) k

pub walk_begins : (b : List ℕ) (count at : ℕ) → objects_place ≤ length b → at ≡ objects_place → Walking b count 0 at
unfolding place_of
walk_begins b count at h e =
    record {
      bound = omega arith;
      place = e;
      inside = omega arith;
      near = omega (arith, objects_place_lem);
      left = entries_are b count h ∙ ap (λ (n : ℕ). entries_check b n 0) (sym (sub-zero count));
    }

-- the entry at the cursor passed its check, and repeats are searched for. The j-th entry, if j is not 0, has its hash,
-- and all from there to the cursor differ from it
pub record Searching (b : List ℕ) (count k at size own : ℕ) (lasts links starts : List ℕ) (j : ℕ) : Type 0 where
  pub walking : Walking b count k at
  pub chained : Chained b k lasts links starts
  pub more : k < count
  pub next : ℕ
  pub good : check_object_at b at k ≡ done next
  pub size_is : size ≡ 2 + get_or b (at + 1) 0
  pub fits : at + size ≤ length b
  pub own_is : own ≡ hash b k
  pub few : own < 1024
  pub passed : j ≤ k
  pub before : get_or links (j - 1) 0 ≤ j - 1
  pub inside : get_or starts (j - 1) 0 + 2 ≤ at
  pub linked : (i : ℕ) → j ≡ suc i → hash b i ≡ hash b k
  pub unlike : (i : ℕ) → j ≤ i → i < k → same b i k ≡ false

-- what is left after entry k's own check
abbrev after : List ℕ → ℕ → ℕ → Verdict (List Object)
after b count k = refusal_at 7 k unless not (repeats_below b k k) ⨾ entries_check b (count - (k + 1)) (k + 1)

module _ {b : List ℕ} {count k at : ℕ} (w : Walking b count k at) where
  module _ (more : k < count) where
    turn : objects_in b count ≡ then (check_object_at b at k) (λ next. after b count k)
    unfolding entries_check
    turn =
        let e : count - k ≡ suc (count - (k + 1)) = omega arith in
        w.left ∙ ap (λ (n : ℕ). entries_check b n k) e
        ∙ ap₂ (λ (p m : ℕ). then (check_object_at b p k)
        (λ next. refusal_at 7 k unless not (repeats_below b k k) ⨾ entries_check b (count - (k + 1)) m))
        (sym w.place) (sym (add-one k))

    module _ {r : Result ℕ Answer} (r-is : r ≡ given (λ (next : ℕ). hash_at b at) (check_object_at b at k)) where
      pub walk_stops : {a : Answer} → r ≡ Err a → Err a ≡ checked (objects_in b count)
      walk_stops e =
          first_given (check_object_at b at k) (λ (next : ℕ). hash_at b at) (λ (next : ℕ). after b count k)
          (λ (os : List Object). tt) (sym e ∙ r-is)
          ∙ ap checked (sym turn)

      module _ {own : ℕ} (e : r ≡ Ok own) where
        entered : (next : ℕ) × (check_object_at b at k ≡ done next) × (hash_at b at ≡ own)
        entered = was_found b at k r-is e

        pub search_begins : (size : ℕ) → size ≡ 2 + get_or b (at + 1) 0 → {lasts links starts : List ℕ}
            → Chained b k lasts links starts → Searching b count k at size own lasts links starts (get_or lasts own 0)
        search_begins size s {lasts} c =
            let o : own ≡ hash b k = sym entered.2 ∙ ap (hash_at b) w.place in
            let l = c.head own (found_few b at k r-is e) in
            record {
              walking = w;
              chained = c;
              more = more;
              next = entered.0;
              good = entered.1;
              size_is = s;
              fits = omega (arith, good_entry b at k entered.1);
              own_is = o;
              few = found_few b at k r-is e;
              passed = l.low;
              before = link_low c (get_or lasts own 0) l.low;
              inside = start_low c (get_or lasts own 0) l.low at w.place;
              linked = λ i f. l.is i f ∙ o;
              unlike = λ i lo hi. other_hash b i k (λ f. l.skip i lo hi (f ∙ sym o));
            }

  module _ (le : count ≤ k) where
    none : objects_in b count ≡ entries_check b zero k
    none = let e : count - k ≡ zero = omega arith in w.left ∙ ap (λ (n : ℕ). entries_check b n k) e

    pub end_over : (at ≡ length b → ⊥) → Err (unnamed 8 0) ≡ checked (objects_in b count)
    unfolding entries_check
    end_over n = rw (none, ← w.place, ne_eqb _ _ n)

    pub end_good : at ≡ length b → Ok tt ≡ checked (objects_in b count)
    unfolding entries_check
    end_good e = rw (none, ← w.place, eq-eqb _ _ e)

module _ {b : List ℕ} {count k at size own : ℕ} {lasts links starts : List ℕ} {j : ℕ}
    (s : Searching b count k at size own lasts links starts j) where
  is_after : objects_in b count ≡ after b count k
  is_after = turn s.walking s.more ∙ ap (λ (v : Verdict ℕ). then v (λ next. after b count k)) s.good

  -- no earlier entry is left
  pub walk_next : j ≤ 0 → Walking b count (k + 1) (at + size)
  walk_next h =
      let r = repeats_none b k k (λ i l. s.unlike i (omega arith) l) in
      record {
        bound = omega (arith, s.more);
        place = place_next b k at size s.walking.place s.size_is;
        inside = s.fits;
        near = omega (arith, s.walking.near, s.size_is, (good_entry b at k s.good).few, limit_48 (get_or b 4 0));
        left = is_after ∙ rw r;
      }

  pub chained_next : k < 1024
      → Chained b (k + 1) (set lasts own (k + 1)) (set links k (get_or lasts own 0)) (set starts k at)
  chained_next few = chain_next s.chained few own at s.own_is s.walking.place

  -- the j-th entry is compared with the one at the cursor
  module _ (h : 0 < j) where
    abbrev was : ℕ
    was = get_or starts (j - 1) 0

    before : was + (2 + get_or b (was + 1) 0) ≤ at
    before =
        place_before b (j - 1) k was at _ (omega (arith, s.passed))
        (s.chained.start (j - 1) (omega (arith, s.passed))) s.walking.place refl

    both : Both b (j - 1) k was at
    both = record {
      first = s.chained.start (j - 1) (omega (arith, s.passed));
      second = s.walking.place;
      first_fits = omega (arith, before, s.fits);
      second_fits = omega (arith, s.fits, s.size_is);
    }

    module _ (d : Common both → ⊥) where
      link : Last b (hash b (j - 1)) (j - 1) (get_or links (j - 1) 0)
      link = s.chained.link (j - 1) (omega (arith, s.passed))

      same_hash : hash b (j - 1) ≡ hash b k
      same_hash = s.linked (j - 1) (omega arith)

      low : get_or links (j - 1) 0 ≤ k
      low = omega (arith, s.before, s.passed)

      unlike_at : (i : ℕ) → get_or links (j - 1) 0 ≤ i → i < k → (t : Bool) → leb j i ≡ t → same b i k ≡ false
      unlike_at i lo hi true t = s.unlike i (leb-true j i t) hi
      unlike_at i lo hi false t =
          let l : i < j = leb-false j i t in
          let m : i ≤ j - 1 = omega arith in
          ⊎_elim (λ f. rw f (same_no both d)) (λ lt. other_hash b i k (λ f. link.skip i lo lt (f ∙ sym same_hash)))
          (eq-or-lt_of_le m)

      goes : Searching b count k at size own lasts links starts (get_or links (j - 1) 0)
      goes = record {
        walking = s.walking;
        chained = s.chained;
        more = s.more;
        next = s.next;
        good = s.good;
        size_is = s.size_is;
        fits = s.fits;
        own_is = s.own_is;
        few = s.few;
        passed = low;
        before = link_low s.chained (get_or links (j - 1) 0) low;
        inside = start_low s.chained (get_or links (j - 1) 0) low at s.walking.place;
        linked = λ i f. link.is i f ∙ same_hash;
        unlike = λ i lo hi. unlike_at i lo hi (leb j i) refl;
      }

    pub goes_by_type : (get_or b was 0 ≡ get_or b at 0 → ⊥)
        → Searching b count k at size own lasts links starts (get_or links (j - 1) 0)
    goes_by_type d = goes (λ x. d x.type)

    pub goes_by_byte : (i : ℕ) → 1 < i → i < size → (get_or b (was + i) 0 ≡ get_or b (at + i) 0 → ⊥)
        → Searching b count k at size own lasts links starts (get_or links (j - 1) 0)
    goes_by_byte i low l d = goes (λ x. d (x.byte i low (omega (arith, s.size_is))))

    module _ (n : ℕ) (e : n ≡ 2 + get_or b (was + 1) 0) where
      pub goes_by_size : (n ≡ size → ⊥) → Searching b count k at size own lasts links starts (get_or links (j - 1) 0)
      goes_by_size d = goes (λ x. d (omega (arith, x.size, s.size_is)))

      module _ (z : n ≡ size) where
        pub was_fits : was + size ≤ length b
        was_fits = omega (arith, before, s.fits)

        pub search_finds : get_or b was 0 ≡ get_or b at 0 → (i : ℕ) → i ≤ 1 → Agree b was at i size
            → Err (numbers (naming 7 k 255) 0) ≡ checked (objects_in b count)
        search_finds t i low a =
            let r =
            repeats_yes b k (j - 1) (omega (arith, s.passed))
            (same_yes both (omega (arith, s.size_is)) t i low (rw s.size_is at a)) in
            let v : objects_in b count ≡ refusal_at 7 k = is_after ∙ rw r in
            sym (ap checked v)
