-- The output after a call: given room it begins with the result and the rest stays;
-- a refusal, 21 too, leaves it as it was.
-- Assumes nothing.
use Prim.Native.Nat.{ℕ, ◌-◌, ◌≤◌, ◌<◌}
use native.Mathlib.Omega.{arith}
use mathlib.Core.Path.{◌≡◌, refl, sym, ap, ap₂, ◌∙◌}
use mathlib.Core.Bool.{Bool, true, false}
use mathlib.Core.List.{List, ◌++◌}
use Rattle.std.specs.Prelude.{Result, Ok, Err}
use lib.Dec.{leb}
use lib.ListN.{length, take, drop, length-append, length-drop, take-append-drop}
use lib.Seq.{take-append_seam, drop-append_seam}
use borrow.Rule.Slice.PartMut.{put_mid}
use borrow.Author.Tests.{le-leb, lt-leb, leb-true, leb-false}
use Rattle.history.specs.declared.Answer.{Answer}
use Rattle.history.specs.Verdict.{Refused, Verdict, refused, done, then, Outcome, numbers, unnamed, told, settled}
use Rattle.history.specs.Verdict.{Leaves, given, checked, put, Puts, numbers_of, check_numbers}

-- the numbers of success, the result's bytes in front, the rest as it was
pub record Success (b out : List ℕ) (o : Outcome) : Type 0 where
  pub answer : o.answer ≡ unnamed 0 (length b)
  pub front : take (length b) o.output ≡ b
  pub rest : drop (length b) o.output ≡ drop (length b) out

pub succeeds : {v : Verdict (List ℕ)} {b : List ℕ} (out : List ℕ) → v ≡ done b → length b ≤ length out
    → Success b out (settled v out)
unfolding settled
succeeds {v} {b} out e h =
    rw (e, le-leb (length b) (length out) h)
    (record {
      answer = refl;
      front = take-append_seam b (drop (length b) out);
      rest = drop-append_seam b (drop (length b) out);
    })

-- 21 gives the length needed
pub too_short : {v : Verdict (List ℕ)} {b : List ℕ} (out : List ℕ) → v ≡ done b → length out < length b
    → ((settled v out).answer ≡ unnamed 21 (length b)) × ((settled v out).output ≡ out)
unfolding settled
too_short {v} {b} out e h = rw (e, lt-leb (length b) (length out) h) (refl, refl)

pub refusal_told : {v : Verdict (List ℕ)} (r : Refused) (out : List ℕ) → v ≡ refused r
    → ((settled v out).answer ≡ numbers r 0) × ((settled v out).output ≡ out)
unfolding settled
refusal_told r out e = rw e (refl, refl)

-- whatever is not success leaves the output as it was
pub refusal_stays : (v : Verdict (List ℕ)) (out : List ℕ) → ((settled v out).answer.code ≡ 0 → ⊥)
    → (settled v out).output ≡ out
refusal_stays (refused r) out h = (refusal_told r out refl).1
refusal_stays (done b) out h = go (leb (length b) (length out)) refl
  where
    go : (u : Bool) → leb (length b) (length out) ≡ u → (settled (done b) out).output ≡ out
    go true e = absurd (h (ap (λ (a : Answer). a.code) (succeeds out refl (leb-true _ _ e)).answer))
    go false e = (too_short out refl (leb-false _ _ e)).1

-- the output keeps its length
pub length_output : (v : Verdict (List ℕ)) (out : List ℕ) → length (settled v out).output ≡ length out
length_output (refused r) out = ap length (refusal_told r out refl).1
length_output (done b) out = go (leb (length b) (length out)) refl
  where
    go : (u : Bool) → leb (length b) (length out) ≡ u → length (settled (done b) out).output ≡ length out
    go true e =
        let h : length b ≤ length out = leb-true _ _ e in
        let o : List ℕ = (settled (done b) out).output in
        let s : Success b out (settled (done b) out) = succeeds out refl h in
        omega (
          arith,
          ap length (sym (take-append-drop (length b) o)) ∙ length-append (take (length b) o) (drop (length b) o),
          ap length s.front,
          ap length s.rest ∙ length-drop (length b) out,
        )
    go false e = ap length (too_short out refl (leb-false _ _ e)).1

-- ---- `Leaves`, from what the code did

-- `Leaves` as a record: a law that takes it as a premise finds the verdict in its type
pub record Ran (v : Verdict (List ℕ)) (out : List ℕ) (r : Answer) (m : List ℕ) : Type 0 where
  pub leaves : Leaves v out r m

pub leaves_as : {v w : Verdict (List ℕ)} (out : List ℕ) {r : Answer} {m : List ℕ} → v ≡ w → Leaves v out r m
    → Leaves w out r m
leaves_as out e q = rw e at q

pub refused_leaves : (v : Verdict (List ℕ)) (out : List ℕ) {x : Refused} {r : Answer} → v ≡ refused x → r ≡ numbers x 0
    → Leaves v out r out
unfolding settled
refused_leaves v out e q = rw e (q, refl)

-- a refused step that writes nothing leaves the output as it was ..
pub told_leaves : (v : Verdict (List ℕ)) (out : List ℕ) {r : Answer} → r ≡ told v → (r.code ≡ 0 → ⊥)
    → Leaves v out r out
unfolding told
told_leaves (refused r) out e n = refused_leaves _ out refl e
told_leaves (done b) out e n = absurd (n (ap (λ (r : Answer). r.code) e))

-- .. and its answer is that of the whole call
pub first_leaves : {A : Type 0} (v : Verdict A) (f : A → Verdict (List ℕ)) (out : List ℕ) {r : Answer} → r ≡ told v
    → (r.code ≡ 0 → ⊥) → Leaves (then v f) out r out
unfolding told
first_leaves (refused r) f out e n = refused_leaves _ out refl e
first_leaves (done a) f out e n = absurd (n (ap (λ (r : Answer). r.code) e))

module _ (b out : List ℕ) {n : ℕ} (long : length b ≡ n) {r : Answer} where
  -- 21: too little room
  pub short_leaves : length out < n → r ≡ unnamed 21 n → Leaves (done b) out r out
  short_leaves h e =
      let s = too_short {b = b} out refl (rw long h) in (e ∙ ap (unnamed 21) (sym long) ∙ sym s.0, sym s.1)

  pub written_leaves : n ≤ length out → r ≡ unnamed 0 n → {m : List ℕ} → m ≡ b ++ drop n out → Leaves (done b) out r m
  unfolding settled
  written_leaves h e q = rw (le-leb (length b) (length out) (rw long h), long) (e, q)

  -- the front was lent as a part and came back as the result's bytes
  pub front_leaves : n ≤ length out → r ≡ unnamed 0 n → {part : List ℕ} → part ≡ b
      → Leaves (done b) out r (put_mid 0 (n - 0) out part)
  front_leaves h e q =
      let all : n - 0 ≡ n = omega arith in
      written_leaves h e (ap₂ (λ (p : List ℕ) (k : ℕ). p ++ drop k out) q all)

-- ---- `Puts`, from what the code did

-- the call's numbers are those of its last step, or of the check that refused
pub puts_leave : (v : Verdict (List ℕ)) (out : List ℕ) {r : Result ℕ Answer} {m : List ℕ} → Puts v out r m
    → Leaves v out (numbers_of r) m
unfolding put settled
puts_leave (refused r) out q = (ap numbers_of q.0, q.1)
puts_leave (done b) out {r} {m} q = go (leb (length b) (length out)) refl q
  where
    go : (u : Bool) → leb (length b) (length out) ≡ u → Puts (done b) out r m → Leaves (done b) out (numbers_of r) m
    go true e q = rw e (ap numbers_of (rw e at q.0), rw e at q.1)
    go false e q = rw e (ap numbers_of (rw e at q.0), rw e at q.1)

pub check_tells : {A : Type 0} (v : Verdict A) {r : Result (Unit {0}) Answer} → r ≡ checked v
    → check_numbers r ≡ told v
unfolding told
check_tells (refused r) e = ap check_numbers e
check_tells (done a) e = ap check_numbers e

pub puts_as : {v w : Verdict (List ℕ)} (out : List ℕ) {r : Result ℕ Answer} {m : List ℕ} → v ≡ w → Puts v out r m
    → Puts w out r m
puts_as out e q = rw e at q

pub refused_puts : (v : Verdict (List ℕ)) (out : List ℕ) {x : Refused} {r : Result ℕ Answer} → v ≡ refused x
    → r ≡ Err (numbers x 0) → Puts v out r out
unfolding settled put
refused_puts v out e q = rw e (q, refl)

-- a refused step that writes nothing leaves the output as it was ..
pub check_puts : {B : Type 0} (v : Verdict (List ℕ)) (f : List ℕ → B) (out : List ℕ) {a : Answer}
    → Err a ≡ given f v → Puts v out (Err a) out
check_puts (refused r) f out e = refused_puts _ out refl cc
check_puts (done b) f out e = absurd (let z : ◌≡◌ {A = ℕ} 0 1 = cc in omega arith)

-- .. and its numbers are those of the whole
pub first_puts : {A B : Type 0} (v : Verdict A) (g : A → B) (f : A → Verdict (List ℕ)) (out : List ℕ) {a : Answer}
    → Err a ≡ given g v → Puts (then v f) out (Err a) out
first_puts (refused r) g f out e = refused_puts _ out refl cc
first_puts (done x) g f out e = absurd (let z : ◌≡◌ {A = ℕ} 0 1 = cc in omega arith)

pub first_given : {A B C : Type 0} (v : Verdict A) (g : A → B) (f : A → Verdict C) {D : Type 0} (h : C → D) {a : Answer}
    → Err a ≡ given g v → Err a ≡ given h (then v f)
first_given (refused r) g f h e = cc
first_given (done x) g f h e = absurd (let z : ◌≡◌ {A = ℕ} 0 1 = cc in omega arith)

-- an `Ok` comes from a value
pub given_done : {A B : Type 0} (v : Verdict A) (g : A → B) {b : B} → Ok b ≡ given g v
    → (a : A) × (v ≡ done a) × (g a ≡ b)
given_done (refused r) g e = absurd (let z : ◌≡◌ {A = ℕ} 0 1 = cc in omega arith)
given_done (done a) g e = (a, refl, cc)

module _ (b out : List ℕ) {n : ℕ} (long : length b ≡ n) {r : Result ℕ Answer} where
  -- 21: too little room
  pub short_puts : length out < n → r ≡ Err (unnamed 21 n) → Puts (done b) out r out
  unfolding put
  short_puts h e =
      let s = too_short {b = b} out refl (rw long h) in
      (rw (lt-leb (length b) (length out) (rw long h), long) e, sym s.1)

  pub written_puts : n ≤ length out → r ≡ Ok n → {m : List ℕ} → m ≡ b ++ drop n out → Puts (done b) out r m
  unfolding settled put
  written_puts h e q = rw (le-leb (length b) (length out) (rw long h), long) (e, q)
