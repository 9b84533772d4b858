-- The check of a list's entry, part by part, in each case that the code tells apart;
-- and the loop over the entries, one turn at a time.
-- Assumes nothing.
use Prim.Native.Nat.{ℕ, suc, ◌+◌, ◌-◌, ◌≤◌, ◌<◌}
use Rattle.std.specs.Prelude.{Ok, Err}
use native.Mathlib.Omega.{arith}
use mathlib.Core.Path.{◌≡◌, refl, sym, ap, ap₂, ◌∙◌}
use mathlib.Core.Bool.{not}
use mathlib.Core.List.{List, ◌∷◌, ◌++◌}
use lib.Dec.{eqb, leb, ltb}
use lib.ListN.{length, take, drop, replicate, length-drop}
use lib.Seq.{drop-drop}
use borrow.Author.Tests.{eq-eqb, ne_eqb, le-leb, lt-leb, lt-ltb, le-ltb}
use Rattle.rows.specs.Values.{Finding}
use Rattle.rows.specs.declared.Refusal.{Refusal}
use Rattle.kinds.specs.Kinds.{width_of}
use Rattle.elements.specs.Elements.{element_check}
use Rattle.kinds.specs.declared.Kind.{Kind}
use Rattle.octets.specs.Octets.{number}
use Rattle.history.specs.declared.Answer.{Answer}
use Rattle.history.specs.Verdict.{Verdict, refused, done, then, refusal, refusal_at, ◌unless◌⨾◌, given, checked}
use Rattle.history.specs.Verdict.{unnamed}
use Rattle.history.specs.Table.{kind_at}
use Rattle.history.specs.Image.{element, found_in, ◌of◌⨾◌}
use Rattle.history.specs.declared.Change.{Change}
use Rattle.history.specs.declared.Change.TheVariants.{Keep as keep, Swap as swap}
use Rattle.history.specs.Changes.{Entry, entry_of, read_number, read_elements, check_entry, read_entries}
use Rattle.history.proofs.ListLaws.{entry_at, was_numbered, was_checked}
use Rattle.history.proofs.OutputLaws.{first_given, given_done}
use Rattle.forms.specs.ListEntries.{passed}
use Rattle.forms.specs.declared.list.Passed.{Passed}
use Rattle.forms.proofs.Found.{is_bad, is_good, accepts}
use Rattle.tables.proofs.AnswerLaws.{checked_then}

-- ---- the number

module _ (ks : List Kind) (s : List ℕ) (at : ℕ) where
  pub number_cut : length s - at < 2 → read_number ks (drop at s) ≡ refusal 8
  unfolding read_number
  number_cut h = rw (length-drop at s, lt-leb 2 (length s - at) h)

  module _ {i : ℕ} (two : 2 ≤ length s - at) (i-is : i ≡ number (take 2 (drop at s))) where
    number_here : read_number ks (drop at s) ≡ (refusal_at 13 i unless ltb i (length ks) ⨾ done i)
    unfolding read_number
    number_here = rw (length-drop at s, le-leb 2 (length s - at) two, ← i-is)

    pub beyond : length ks ≤ i → read_number ks (drop at s) ≡ refusal_at 13 i
    beyond h = number_here ∙ rw (le-ltb i (length ks) h)

    pub of_object : i < length ks → Ok i ≡ given (λ i. i) (read_number ks (drop at s))
    of_object h = accepts _ (number_here ∙ rw (lt-ltb i (length ks) h))

-- ---- the elements

module _ (k : Kind) (i : ℕ) (s : List ℕ) (at : ℕ) {w : ℕ} (w-is : w ≡ width_of k) where
  pub elements_cut : length s - at < w + w → read_elements i k (drop at s) ≡ refusal 8
  unfolding read_elements
  elements_cut h = rw (length-drop at s, lt-leb (width_of k + width_of k) (length s - at) (omega arith))

  module _ (room : w + w ≤ length s - at) {old new : ℕ} (old-is : old ≡ number (take w (drop at s)))
      (New-is : new ≡ number (take w (drop (at + w) s))) where
    the_old : (entry_of i k (drop at s)).old ≡ old
    the_old = ap (λ (n : ℕ). number (take n (drop at s))) (sym w-is) ∙ sym old-is

    the_new : (entry_of i k (drop at s)).new ≡ new
    the_new =
        ap (λ (n : ℕ). number (take n (drop n (drop at s)))) (sym w-is)
        ∙ ap (λ (b : List ℕ). number (take w b)) (drop-drop w at s) ∙ sym New-is

    elements_here : read_elements i k (drop at s)
        ≡ (element_check k old of i ⨾ element_check k new of i ⨾ done (entry_of i k (drop at s)))
    unfolding read_elements element
    elements_here =
        rw (length-drop at s, le-leb (width_of k + width_of k) (length s - at) (omega arith))
        (ap₂ (λ (o n : ℕ). element_check k o of i ⨾ element_check k n of i ⨾ done (entry_of i k (drop at s)))
        the_old the_new)

    module _ {f : Finding} (f-is : f ≡ element_check k old) where
      pub old_bad : {r : Refusal} → f ≡ Err r → read_elements i k (drop at s) ≡ refused (found_in r i)
      old_bad {r} e = elements_here ∙ is_bad (element_check k old) i _ r (sym f-is ∙ e)

      module _ (old-good : f ≡ Ok tt) {g : Finding} (g-is : g ≡ element_check k new) where
        pub new_bad : {r : Refusal} → g ≡ Err r → read_elements i k (drop at s) ≡ refused (found_in r i)
        new_bad {r} e =
            elements_here ∙ is_good (element_check k old) i _ (sym f-is ∙ old-good)
            ∙ is_bad (element_check k new) i _ r (sym g-is ∙ e)

        pub both_good : g ≡ Ok tt
            → Ok (record { object = i; old = old; new = new; next = at + w + w })
            ≡ given (passed at) (read_elements i k (drop at s))
        both_good new-good =
            (λ j. Ok (record {
              object = i;
              old = sym the_old j;
              new = sym the_new j;
              next = at + w-is j + w-is j;
            }))
            ∙ accepts (passed at)
            (elements_here ∙ is_good (element_check k old) i _ (sym f-is ∙ old-good)
            ∙ is_good (element_check k new) i _ (sym g-is ∙ new-good))

-- ---- the entry

-- the rest of the check once the elements are read: 15
differing : ℕ → Entry → Verdict Entry
differing i e = refusal_at 15 i unless not (eqb e.old e.new) ⨾ done e

-- the rest once the number is read: 14, the elements, 15
later : ℕ → ℕ → Verdict Entry → Verdict Entry
later low i v = refusal_at 14 i unless leb low i ⨾ then v (differing i)

module _ (ks : List Kind) (low : ℕ) (s : List ℕ) (at : ℕ) where
  pub no_number : {a : Answer} → Err a ≡ given (λ (i : ℕ). i) (read_number ks (drop at s))
      → Err a ≡ given (passed (at + 2)) (check_entry ks low (drop at s))
  unfolding check_entry
  no_number e = first_given (read_number ks (drop at s)) (λ (i : ℕ). i) _ (passed (at + 2)) e

  module _ {i : ℕ} (e : Ok i ≡ given (λ (i : ℕ). i) (read_number ks (drop at s))) where
    number_read : read_number ks (drop at s) ≡ done i
    number_read =
        let q = given_done (read_number ks (drop at s)) (λ (i : ℕ). i) e in q.1 ∙ ap done q.2

    pub number_there : at + 2 ≤ length s
    number_there = omega (arith, (was_numbered ks (drop at s) number_read).two, length-drop at s)

    pub object_there : i < length ks
    object_there = (was_numbered ks (drop at s) number_read).inside

    by_number : {k : Kind} → k ≡ kind_at ks i
        → check_entry ks low (drop at s) ≡ later low i (read_elements i k (drop (at + 2) s))
    unfolding check_entry later differing
    by_number k-is = rw (number_read, drop-drop 2 at s, k-is)

    pub falling : i < low → check_entry ks low (drop at s) ≡ refusal_at 14 i
    unfolding later
    falling h = by_number refl ∙ rw (lt-leb low i h)

    module _ (up : low ≤ i) {k : Kind} (k-is : k ≡ kind_at ks i) where
      by_elements : check_entry ks low (drop at s) ≡ then (read_elements i k (drop (at + 2) s)) (differing i)
      unfolding later differing
      by_elements = by_number k-is ∙ rw (le-leb low i up)

      pub bad_elements : {a : Answer} → Err a ≡ given (passed (at + 2)) (read_elements i k (drop (at + 2) s))
          → Err a ≡ given (passed (at + 2)) (check_entry ks low (drop at s))
      bad_elements p =
          first_given (read_elements i k (drop (at + 2) s)) (passed (at + 2)) (differing i) (passed (at + 2)) p
          ∙ sym (ap (given (passed (at + 2))) by_elements)

      module _ {c : Passed} (p : Ok c ≡ given (passed (at + 2)) (read_elements i k (drop (at + 2) s))) where
        elements_read : (e : Entry) × (read_elements i k (drop (at + 2) s) ≡ done e) × (passed (at + 2) e ≡ c)
        elements_read = given_done (read_elements i k (drop (at + 2) s)) (passed (at + 2)) p

        pub unchanged : c.old ≡ c.new → check_entry ks low (drop at s) ≡ refusal_at 15 i
        unfolding differing
        unchanged h =
            let q = elements_read in
            let same : q.0.old ≡ q.0.new =
            ap (λ (c : Passed). c.old) q.2 ∙ h ∙ sym (ap (λ (c : Passed). c.new) q.2) in
            by_elements ∙ rw (q.1, eq-eqb q.0.old q.0.new same)

        pub changed : (c.old ≡ c.new → ⊥) → Ok c ≡ given (passed (at + 2)) (check_entry ks low (drop at s))
        unfolding differing
        changed h =
            let q = elements_read in
            let other : (q.0.old ≡ q.0.new → ⊥) =
            λ e. h (sym (ap (λ (c : Passed). c.old) q.2) ∙ e ∙ ap (λ (c : Passed). c.new) q.2) in
            let whole : check_entry ks low (drop at s) ≡ done q.0 =
            by_elements ∙ rw (q.1, ne_eqb q.0.old q.0.new other) in
            ap Ok (sym q.2) ∙ accepts (passed (at + 2)) whole

-- ---- the entries

-- of `count` entries n are checked; those from `at` on are left, of objects not below low
pub record Left (ks : List Kind) (count : ℕ) (b : List ℕ) (n low at : ℕ) : Type 0 where
  pub inside : at ≤ length b
  pub same : checked (read_entries ks 0 count b) ≡ checked (read_entries ks low (count - n) (drop at b))

pub begin : (ks : List Kind) (count : ℕ) (b : List ℕ) → Left ks count b 0 0 0
begin ks count b =
    let all : count ≡ count - 0 = omega arith in
    record { inside = omega arith; same = ap (λ (n : ℕ). checked (read_entries ks 0 n b)) all }

-- after an accepted entry: m others are read, and its change is put before theirs, which no check tells
after : List Kind → ℕ → ℕ → Entry → Verdict (List Change)
after t low m e =
    then (read_entries t (suc e.object) m e.rest)
    (λ cs. done (replicate (e.object - low) keep ++ (swap e.old e.new ∷ cs)))

one_entry : (t : List Kind) (low m : ℕ) (b : List ℕ) {n : ℕ} → n ≡ suc m
    → read_entries t low n b ≡ then (check_entry t low b) (after t low m)
unfolding after
one_entry t low m b e = rw e

-- no entry is left, and m bytes are
over : List Kind → ℕ → ℕ → Verdict (List Change)
over t low m = refusal 8 unless eqb m 0 ⨾ done (replicate (length t - low) keep)

module _ (ks : List Kind) (low : ℕ) (b : List ℕ) (at : ℕ) {c : Passed}
    (p : Ok c ≡ given (passed (at + 2)) (check_entry ks low (drop at b))) where
  passed_entry : (e : Entry) × (check_entry ks low (drop at b) ≡ done e) × (passed (at + 2) e ≡ c)
  passed_entry = given_done (check_entry ks low (drop at b)) (passed (at + 2)) p

  pub number_inside : c.object < length ks
  number_inside =
      let q = passed_entry in
      let k = was_checked ks low (drop at b) q.1 in
      omega (arith, k.1.inside, ap (λ (e : Entry). e.object) k.0, ap (λ (c : Passed). c.object) q.2)

module _ {ks : List Kind} {count : ℕ} {b : List ℕ} {n low at : ℕ} (l : Left ks count b n low at) where
  module _ (more : n < count) where
    first : checked (read_entries ks 0 count b)
        ≡ checked (then (check_entry ks low (drop at b)) (after ks low (count - (n + 1))))
    first = l.same ∙ ap checked (one_entry ks low (count - (n + 1)) (drop at b) (omega arith))

    pub stops : {a : Answer} → Err a ≡ given (passed (at + 2)) (check_entry ks low (drop at b))
        → Err a ≡ checked (read_entries ks 0 count b)
    stops p =
        first_given (check_entry ks low (drop at b)) (passed (at + 2)) (after ks low (count - (n + 1))) _ p ∙ sym first

    pub goes_on : {c : Passed} → Ok c ≡ given (passed (at + 2)) (check_entry ks low (drop at b))
        → Left ks count b (n + 1) (c.object + 1) c.next
    unfolding after
    goes_on {c} p =
        let E : Entry = entry_at ks (drop at b) in
        let q = passed_entry ks low b at p in
        let k = was_checked ks low (drop at b) q.1 in
        let w : ℕ = width_of E.kind in
        let s : passed (at + 2) E ≡ c = ap (passed (at + 2)) k.0 ∙ q.2 in
        let o : E.object ≡ c.object = ap (λ (c : Passed). c.object) s in
        let x : at + 2 + w + w ≡ c.next = ap (λ (c : Passed). c.next) s in
        let d : E.rest ≡ drop c.next b =
        ap (λ (c : List ℕ). drop w (drop w c)) (drop-drop 2 at b) ∙ ap (drop w) (drop-drop w (at + 2) b)
        ∙ drop-drop w (at + 2 + w) b ∙ ap (λ (m : ℕ). drop m b) x in
        let one : suc E.object ≡ c.object + 1 = omega arith in
        let m : ℕ = count - (n + 1) in
        record {
          inside = omega (arith, k.1.room, length-drop at b);
          same =
              first ∙ ap (λ (v : Verdict Entry). checked (then v (after ks low m))) (q.1 ∙ ap done (sym k.0))
              ∙ checked_then (read_entries ks (suc E.object) m E.rest)
              (λ cs. replicate (E.object - low) keep ++ (swap E.old E.new ∷ cs))
              ∙ ap₂ (λ (i : ℕ) (c : List ℕ). checked (read_entries ks i m c)) one d;
        }

  module _ (none : count ≤ n) where
    last : checked (read_entries ks 0 count b) ≡ checked (over ks low (length b - at))
    unfolding over
    last = let e : count - n ≡ 0 = omega arith in l.same ∙ rw (e, length-drop at b)

    pub bytes_over : (at ≡ length b → ⊥) → Err (unnamed 8 0) ≡ checked (read_entries ks 0 count b)
    unfolding over
    bytes_over h = rw (last, ne_eqb (length b - at) 0 (λ e. h (omega (arith, l.inside))))

    pub ended : at ≡ length b → Ok tt ≡ checked (read_entries ks 0 count b)
    unfolding over
    ended h = rw (last, eq-eqb (length b - at) 0 (omega arith))
