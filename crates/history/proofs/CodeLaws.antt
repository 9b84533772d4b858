-- A refusal's code is one of the paper's (21 is `settled`'s), and so never 0: code 0 tells success.
-- Assumes nothing.
use Prim.Native.Nat.{ℕ, ◌≤◌}
use native.Mathlib.Omega.{arith}
use mathlib.Core.Path.{◌≡◌, refl, sym, ap, ap₂, ◌∙◌}
use mathlib.Core.Bool.{Bool, true, false, false≢true, ◌&&◌, ◌||◌}
use mathlib.Core.List.{List, [], ◌∷◌}
use lib.Dec.{eqb, leb}
use lib.ListN.{length, take, drop}
use borrow.Author.Tests.{leb-true, leb-false, eqb-true}
use Rattle.kinds.specs.declared.Kind.{Kind}
use Rattle.kinds.specs.declared.Element.{Element}
use Rattle.elements.proofs.Findings.{Refuses, reserved, unlisted, silent}
use Rattle.history.specs.declared.Answer.{Answer}
use Rattle.history.specs.Verdict.{Refused, Verdict, refused, done, told, settled}
use Rattle.history.specs.Table.{Plan}
use Rattle.history.specs.Image.{Image, read_image}
use Rattle.history.specs.Changes.{Changes, read_list, applied}
use Rattle.history.specs.Calls.{table_call, image_call, list_call, difference_call, apply_call, join_call, turn_call}
use Rattle.history.specs.Calls.{apply_under, read_state_call, check_state, write_state_call, label_call}
use Rattle.history.proofs.VerdictLaws.{left, right}
use Rattle.history.proofs.OutputLaws.{Ran, succeeds, too_short}
use Rattle.history.proofs.NameLaws.{nothings, objects, its_numbers, one_of, Names, nothing, an_object, its_number}
use Rattle.history.proofs.NameLaws.{no_object, its_field, Named, NoNumber, image_named, list_named}
use Rattle.history.proofs.NameLaws.{applied_named, apply_named, state_named, table_call_named, image_call_named}
use Rattle.history.proofs.NameLaws.{list_call_named, difference_call_named, apply_call_named, join_call_named}
use Rattle.history.proofs.NameLaws.{turn_call_named, read_call_named, write_call_named, label_call_named}

-- the paper's codes except 21
abbrev pub codes : List ℕ
codes = 1 ∷ 2 ∷ 3 ∷ 4 ∷ 5 ∷ 6 ∷ 7 ∷ 8 ∷ 9 ∷ 10 ∷ 11 ∷ 12 ∷ 13 ∷ 14 ∷ 15 ∷ 16 ∷ 17 ∷ 18 ∷ 19 ∷ 20 ∷ 22 ∷ []

abbrev pub IsCode : ℕ → Type 0
IsCode code = one_of codes code ≡ true

abbrev pub Coded : {A : Type 0} → Verdict A → Type 0
Coded (refused r) = IsCode r.code
Coded (done a) = Unit {0}

-- ---- a refusal that names what the paper says has one of its codes

abbrev pub all : List ℕ → Bool
all [] = true
all (c ∷ cs) = one_of codes c && all cs

pub one_of_lem : (cs : List ℕ) (code : ℕ) → all cs ≡ true → one_of cs code ≡ true → IsCode code
one_of_lem [] code h e = absurd (let z : ◌≡◌ {A = ℕ} 0 1 = cc in omega arith)
one_of_lem (c ∷ cs) code h e = go (eqb code c) refl (one_of_lem cs code (right (one_of codes c) _ h)) e
  where
    go : (b : Bool) → eqb code c ≡ b → (one_of cs code ≡ true → IsCode code) → (b || one_of cs code) ≡ true
        → IsCode code
    go true q later e = ap (one_of codes) (eqb-true code c q) ∙ left (one_of codes c) _ h
    go false q later e = later e

pub field_code : {k : Kind} {code bit : ℕ} → Refuses k code bit → IsCode code
field_code (reserved r e) = refl
field_code (unlisted r e) = refl
field_code (silent e) = refl

pub coded_by : {P : Refused → Type 0} {A : Type 0} {v : Verdict A} → ((r : Refused) → P r → IsCode r.code)
    → Named P v → Coded v
coded_by {v = refused r} f h = f r (h.names refl)
coded_by {v = done a} f h = tt

module _ {n : ℕ} {ks : List Kind} {given : ℕ → Type 0} where
  code_of : {r : Refused} → Names n ks given r → IsCode r.code
  code_of (nothing {code} h) = one_of_lem nothings code refl h
  code_of (an_object {code} h l) = one_of_lem objects code refl h
  code_of (its_number {code} h g l) = one_of_lem its_numbers code refl h
  code_of (no_object g l) = refl
  code_of (its_field l r) = field_code r

  pub coded : {A : Type 0} {v : Verdict A} → Named (Names n ks given) v → Coded v
  coded h = coded_by (λ r. code_of) h

-- ---- forms and operations under any plan

pub image_coded : (p : Plan) (b : List ℕ) → Coded (read_image p b)
image_coded p b = coded (image_named p b {given = NoNumber})

pub list_coded : (p : Plan) (b : List ℕ) → Coded (read_list p b)
list_coded p b = coded (list_named p b λ i s. s)

pub applied_coded : (l : Changes) (a : Image) → Coded (applied l a)
applied_coded l a = coded (applied_named {n = length a.words} {ks = []} {given = NoNumber} l a (omega arith))

pub apply_coded : (p : Plan) (A L : List ℕ) → Coded (apply_under p A L)
apply_coded p A L = coded (apply_named p A L)

pub state_coded : (ks : List Kind) (i : ℕ) (state : Element) → Coded (check_state ks i state)
state_coded ks i state = coded (state_named ks i state)

-- ---- the calls

module _ (t : List ℕ) where
  pub table_call_coded : Coded (table_call t)
  table_call_coded = coded (table_call_named t)

  pub image_call_coded : (a : List ℕ) → Coded (image_call t a)
  image_call_coded a = coded (image_call_named t a)

  pub list_call_coded : (l : List ℕ) → Coded (list_call t l)
  list_call_coded l = coded (list_call_named t l)

  pub difference_call_coded : (a b : List ℕ) → Coded (difference_call t a b)
  difference_call_coded a b = coded (difference_call_named t a b)

  pub apply_call_coded : (a l : List ℕ) → Coded (apply_call t a l)
  apply_call_coded a l = coded (apply_call_named t a l)

  pub join_call_coded : (l m : List ℕ) → Coded (join_call t l m)
  join_call_coded l m = coded (join_call_named t l m)

  pub turn_call_coded : (l : List ℕ) → Coded (turn_call t l)
  turn_call_coded l = coded (turn_call_named t l)

  pub read_call_coded : (a : List ℕ) (i : ℕ) → Coded (read_state_call t a i)
  read_call_coded a i = coded (read_call_named t a i)

  pub write_call_coded : (a : List ℕ) (i : ℕ) (state : Element) (position : ℕ)
      → Coded (write_state_call t a i state position)
  write_call_coded a i state position = coded (write_call_named t a i state position)

  pub label_call_coded : (i : ℕ) → Coded (label_call t i)
  label_call_coded i = coded (label_call_named t i)

-- ---- code 0 tells success

pub not_zero : {A : Type 0} {code : ℕ} → IsCode code → code ≡ 0 → A
not_zero h e = absurd (false≢true (sym (ap (one_of codes) e) ∙ h))

-- a call that writes: it was done, and there was room for the result ..
pub zero_succeeds : (v : Verdict (List ℕ)) (out : List ℕ) → Coded v → (settled v out).answer.code ≡ 0
    → (b : List ℕ) × (v ≡ done b) × (length b ≤ length out)
unfolding settled
zero_succeeds (refused r) out h e = not_zero h e
zero_succeeds (done b) out h e = (b, refl, go (leb (length b) (length out)) refl)
  where
    go : (u : Bool) → leb (length b) (length out) ≡ u → length b ≤ length out
    go true q = leb-true _ _ q
    go false q =
        absurd (omega (arith, ap (λ (a : Answer). a.code) (too_short {v = done b} out refl (leb-false _ _ q)).0))

-- .. whose bytes are in front; the rest is as it was
pub record Delivered (v : Verdict (List ℕ)) (out : List ℕ) (r : Answer) (m : List ℕ) : Type 0 where
  pub bytes : v ≡ done (take r.length m)
  pub rest : drop r.length m ≡ drop r.length out

pub delivered : {v : Verdict (List ℕ)} {out : List ℕ} {r : Answer} {m : List ℕ} → Coded v → Ran v out r m → r.code ≡ 0
    → Delivered v out r m
delivered {v} {out} {r} {m} c o z =
    let q = zero_succeeds v out c (ap (λ (a : Answer). a.code) (sym o.leaves.0) ∙ z) in
    let s = succeeds out q.1 q.2 in
    let long : r.length ≡ length q.0 = ap (λ (a : Answer). a.length) (o.leaves.0 ∙ s.answer) in
    record {
      bytes = q.1 ∙ ap done (sym (ap₂ take long o.leaves.1 ∙ s.front));
      rest = ap₂ drop long o.leaves.1 ∙ s.rest ∙ ap (λ (n : ℕ). drop n out) (sym long);
    }

-- a call that writes nothing
pub zero_told : {A : Type 0} (v : Verdict A) → Coded v → (told v).code ≡ 0 → (a : A) × (v ≡ done a)
unfolding told
zero_told (refused r) h e = not_zero h e
zero_told (done a) h e = (a, refl)
