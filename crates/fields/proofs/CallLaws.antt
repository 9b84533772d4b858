-- Writing a state handed in as numbers, at each place where the code returns.
-- Assumes nothing.
use Prim.Native.Nat.{ℕ, ◌<◌}
use native.Mathlib.Omega.{arith}
use mathlib.Core.Path.{◌≡◌, refl, sym, ap, ◌∙◌}
use mathlib.Core.Bool.{Bool, true, false}
use mathlib.Core.List.{List}
use lib.Dec.{eqb, ltb, eqb→eq, ltb→lt}
use lib.ListN.{length, get_or}
use borrow.Author.Tests.{eq-eqb, ne_eqb, eqb-true}
use Rattle.rows.specs.Rows.{layouts}
use Rattle.rows.specs.Values.{Finding, code_at}
use Rattle.std.proofs.Common.{Option, Some, None, Ok, Err}
use Rattle.rows.specs.declared.Refusal.{Refusal}
use Rattle.kinds.specs.Kinds.{layout_no, rows_of, kind_in, kind_lines, find_by_number, element_of}
use Rattle.kinds.specs.declared.Kind.{Kind}
use Rattle.kinds.specs.declared.Element.{Element}
use Rattle.kinds.proofs.Lookup.{every_line}
use Rattle.kinds.proofs.KindLaws.{kind_found, element_kind}
use Rattle.elements.specs.Elements.{same_kind, word_of}
use Rattle.history.specs.declared.Answer.{Answer}
use Rattle.history.specs.Verdict.{Refused, naming, Verdict, refused, done, then, refusal_at, ◌unless◌⨾◌, numbers, told}
use Rattle.history.specs.Verdict.{Leaves}
use Rattle.history.specs.Table.{Plan, kind_at}
use Rattle.history.specs.Image.{Image, element, found_in, ◌of◌⨾◌, image_bytes, read_image}
use Rattle.history.specs.Calls.{read_plan, placed, read_state_under, read_state_call, check_state, write_state_under}
use Rattle.history.specs.Calls.{write_state_call}
use Rattle.elements.proofs.Laws.{state_kind}
use Rattle.history.proofs.OutputLaws.{leaves_as, refused_leaves}
use Rattle.history.proofs.StateLaws.{state_at}
use Rattle.panel.specs.Readings.{reading_of}
use Rattle.fields.specs.declared.Plain.{Plain}
use Rattle.fields.specs.PlainFields.{shown_plain, plain_of, values_in, check_named}
use Rattle.fields.specs.Calls.{write_fields_call, state_refused}

-- ---- a call that refuses: its answer is told, and the output stays

abbrev pub Refuses : Verdict (List ℕ) → Type 0
Refuses v = (out : List ℕ) → Leaves v out (told v) out

refuses : (r : Refused) → Refuses (refused r)
unfolding told
refuses r out = refused_leaves (refused r) out refl refl

all_refuse : (f : Element → Verdict (List ℕ)) (v : Verdict Element) → ((s : Element) → Refuses (f s))
    → Refuses (then v f)
all_refuse f (refused r) h = refuses r
all_refuse f (done s) h = h s

-- ---- numbers of kinds

-- a carried number is its kind's, and no other kind has it
its_number : {n : ℕ} {k : Kind} → find_by_number n ≡ Some k → n ≡ layout_no k
unfolding layouts
its_number {n} e = eqb→eq _ _ (every_line (λ n k. eqb n (layout_no k)) n kind_lines tt e)

its_kind : {n : ℕ} {k : Kind} (j : Kind) → find_by_number n ≡ Some k → n ≡ layout_no j → j ≡ k
its_kind j e q =
    let s : Some j ≡ Some _ = sym (kind_found j) ∙ ap find_by_number (sym q) ∙ e in
    cc

-- a number that no kind has is not kind j's
not_its : (n : ℕ) (j : Kind) → find_by_number n ≡ None → eqb n (layout_no j) ≡ false
not_its n j e =
    ne_eqb n (layout_no j)
    (λ q. let s : Some j ≡ None = sym (kind_found j) ∙ ap find_by_number (sym q) ∙ e in
    absurd (let z : ◌≡◌ {A = ℕ} 0 1 = cc in omega arith))

-- no kind has a number above 255
pub none_numbered : (n : ℕ) → 255 < n → None ≡ find_by_number n
unfolding layouts
none_numbered n h = at (find_by_number n) refl
  where
    small : {k : Kind} → find_by_number n ≡ Some k → n < 256
    small e = ltb→lt _ _ (every_line (λ n k. ltb n 256) n kind_lines tt e)

    at : (s : Option Kind) → find_by_number n ≡ s → None ≡ s
    at (Some k) e = absurd (omega (arith, small e))
    at None e = refl

-- ---- a state handed in of which something is refused

module _ (i number : ℕ) (f : Refusal) where
  refused_by : Verdict Element → Verdict (List ℕ)
  refused_by v = then v λ was. refusal_at 22 i unless eqb number (layout_no (kind_in was)) ⨾ refused (found_in f i)

  -- a reading that is refused has the call's answer
  told_before : (v : Verdict Element) {r : Answer} → Err r ≡ plain_of (reading_of v) → r ≡ told (refused_by v)
  unfolding told reading_of plain_of refused_by
  told_before (refused r) e = cc
  told_before (done s) e = absurd (let z : ◌≡◌ {A = ℕ} 0 1 = cc in omega arith)

  told_after : (v : Verdict Element) {x : Plain} {r : Answer} → Ok x ≡ plain_of (reading_of v) → (b : Bool)
      → eqb number x.kind ≡ b
      → r ≡ told {A = List ℕ} (refusal_at 22 i unless b ⨾ refused (found_in f i)) → r ≡ told (refused_by v)
  unfolding told reading_of plain_of shown_plain refused_by
  told_after (refused y) e d q w = absurd (let z : ◌≡◌ {A = ℕ} 0 1 = cc in omega arith)
  told_after (done s) {x} e d q w =
      let x-is : x ≡ shown_plain s = cc in
      w ∙ ap (λ (b : Bool). told {A = List ℕ} (refusal_at 22 i unless b ⨾ refused (found_in f i)))
      (sym q ∙ ap (λ (y : Plain). eqb number y.kind) x-is)

module _ (t a : List ℕ) (i number : ℕ) (f : Refusal) where
  pub refuses_first : {r : Answer} → Err r ≡ plain_of (reading_of (read_state_call t a i))
      → r ≡ told (state_refused t a i number f)
  unfolding state_refused refused_by
  refuses_first = told_before i number f (read_state_call t a i)

  module _ {x : Plain} (is : Ok x ≡ plain_of (reading_of (read_state_call t a i))) where
    pub refuses_22 : {r : Answer} → (x.kind ≡ number → ⊥) → r ≡ numbers (naming 22 i 255) 0
        → r ≡ told (state_refused t a i number f)
    unfolding state_refused refused_by told
    refuses_22 d w = told_after i number f (read_state_call t a i) is false (ne_eqb number x.kind (λ q. d (sym q))) w

    pub refuses_it : {r : Answer} → x.kind ≡ number → r ≡ numbers (found_in f i) 0
        → r ≡ told (state_refused t a i number f)
    unfolding state_refused refused_by told
    refuses_it d w = told_after i number f (read_state_call t a i) is true (eq-eqb number x.kind (sym d)) w

pub state_refuses : (t a : List ℕ) (i number : ℕ) (f : Refusal) → Refuses (state_refused t a i number f)
unfolding state_refused
state_refuses t a i number f = all_refuse _ (read_state_call t a i) (λ s. either (eqb number (layout_no (kind_in s))))
  where
    either : (b : Bool) → Refuses (refusal_at 22 i unless b ⨾ refused (found_in f i))
    either true = refuses (found_in f i)
    either false = refuses (naming 22 i 255)

-- ---- a state handed in as numbers, by its kind and by what is found of its values

module _ (t a : List ℕ) (i number : ℕ) (fields : List ℕ) (position : ℕ) where
  -- two ways to go on that agree for each kind, once 22 is tested, give the same call
  pub of_kinds : (f g : Kind → Verdict (List ℕ)) (v : Verdict Element)
      → ((j : Kind)
      → (refusal_at 22 i unless eqb number (layout_no j) ⨾ f j)
      ≡ (refusal_at 22 i unless eqb number (layout_no j) ⨾ g j))
      → then v (λ was. refusal_at 22 i unless eqb number (layout_no (kind_in was)) ⨾ f (kind_in was))
      ≡ then v (λ was. refusal_at 22 i unless eqb number (layout_no (kind_in was)) ⨾ g (kind_in was))
  of_kinds f g (refused r) h = refl
  of_kinds f g (done s) h = h (kind_in s)

  -- only the kind with the number counts
  only : (f g : Kind → Verdict (List ℕ)) {k : Kind} → find_by_number number ≡ Some k → f k ≡ g k
      → (j : Kind)
      → (refusal_at 22 i unless eqb number (layout_no j) ⨾ f j)
      ≡ (refusal_at 22 i unless eqb number (layout_no j) ⨾ g j)
  only f g {k} e h j = at (eqb number (layout_no j)) refl
    where
      at : (b : Bool) → eqb number (layout_no j) ≡ b
          → (refusal_at 22 i unless b ⨾ f j) ≡ (refusal_at 22 i unless b ⨾ g j)
      at true q = let s : j ≡ k = its_kind j e (eqb-true _ _ q) in rw s h
      at false q = refl

  abbrev pub valued : Kind → Verdict (List ℕ)
  valued k =
      check_named (rows_of k) (values_in k fields) of i ⨾
      write_state_call t a i (element_of k (values_in k fields)) position

  -- testing 22 twice is testing it once
  twice : (v : Verdict ℕ) (f : ℕ → Verdict (List ℕ)) (b : Bool)
      → (refusal_at 22 i unless b ⨾ then (refusal_at 22 i unless b ⨾ v) f) ≡ then (refusal_at 22 i unless b ⨾ v) f
  twice v f true = refl
  twice v f false = refl

  -- 22 and the element's check
  abbrev checked : Element → Kind → Verdict ℕ
  checked e k = refusal_at 22 i unless same_kind (kind_in e) k ⨾ element k (word_of e) of i ⨾ done (word_of e)

  -- to test what reading refuses, and 22, before a write changes nothing: the write tests the same first
  after_reading : (e : Element)
      → then (read_state_call t a i)
      (λ was. refusal_at 22 i unless same_kind (kind_in e) (kind_in was) ⨾ write_state_call t a i e position)
      ≡ write_state_call t a i e position
  unfolding read_state_call read_state_under write_state_call write_state_under check_state
  after_reading e = planned (read_plan t)
    where
      by_number : (s : Element) (k : Kind) (f : ℕ → Verdict (List ℕ)) (b : Bool) → kind_in s ≡ k
          → then (refusal_at 13 i unless b ⨾ done s)
          (λ was. refusal_at 22 i unless same_kind (kind_in e) (kind_in was) ⨾
          then (refusal_at 13 i unless b ⨾ checked e k) f)
          ≡ then (refusal_at 13 i unless b ⨾ checked e k) f
      by_number s k f false q = refl
      by_number s k f true q =
          ap (λ (j : Kind). refusal_at 22 i unless same_kind (kind_in e) j ⨾ then (checked e k) f) q
          ∙ twice (element k (word_of e) of i ⨾ done (word_of e)) f (same_kind (kind_in e) k)

      imaged : (p : Plan) (v : Verdict Image)
          → then (then v λ m. refusal_at 13 i unless ltb i (length p.kinds) ⨾ done (state_at p m i))
          (λ was. refusal_at 22 i unless same_kind (kind_in e) (kind_in was) ⨾
          then v λ m. then (check_state p.kinds i e) λ w. done (image_bytes p (placed m i w position)))
          ≡ (then v λ m. then (check_state p.kinds i e) λ w. done (image_bytes p (placed m i w position)))
      imaged p (refused r) = refl
      imaged p (done m) =
          by_number (state_at p m i) (kind_at p.kinds i) _ (ltb i (length p.kinds))
          (state_kind (kind_at p.kinds i) (get_or m.words i 0))

      planned : (v : Verdict Plan)
          → then (then v λ p. read_state_under p a i)
          (λ was. refusal_at 22 i unless same_kind (kind_in e) (kind_in was) ⨾
          then v λ p. write_state_under p a i e position)
          ≡ (then v λ p. write_state_under p a i e position)
      planned (refused r) = refl
      planned (done p) = imaged p (read_image p a)

  pub writes : {k : Kind} → find_by_number number ≡ Some k
      → check_named (rows_of k) (values_in k fields) ≡ Ok tt
      → write_fields_call t a i number fields position
      ≡ write_state_call t a i (element_of k (values_in k fields)) position
  unfolding write_fields_call
  writes {k} e f =
      let s = element_of k (values_in k fields) in
      let written : Verdict (List ℕ) = write_state_call t a i s position in
      let no : number ≡ layout_no (kind_in s) =
      its_number e ∙ ap layout_no (sym (element_kind k (values_in k fields))) in
      of_kinds valued (λ j. written) (read_state_call t a i)
      (only valued (λ j. written) e (ap (λ (v : Finding). v of i ⨾ written) f))
      ∙ ap (λ (n : ℕ). then (read_state_call t a i)
      (λ was. refusal_at 22 i unless eqb n (layout_no (kind_in was)) ⨾ written)) no
      ∙ after_reading s

  -- from what the code has: the kind of the number, if there is one, the values, what is found of them, the state
  module _ {s : Option Kind} (s-is : s ≡ find_by_number number) where
    pub no_kind : s ≡ None
        → write_fields_call t a i number fields position ≡ state_refused t a i number (code_at 22 255)
    unfolding write_fields_call state_refused
    no_kind e =
        let not-it : (j : Kind) → eqb number (layout_no j) ≡ false = λ j. not_its number j (sym s-is ∙ e) in
        of_kinds valued (λ k. refusal_at 22 i) (read_state_call t a i)
        (λ j. ap (λ (b : Bool). refusal_at 22 i unless b ⨾ valued j) (not-it j)
        ∙ sym (ap (λ (b : Bool). refusal_at 22 i unless b ⨾ refusal_at 22 i) (not-it j)))

    module _ {k : Kind} (k-is : s ≡ Some k) {vs : List ℕ} (vs-is : vs ≡ values_in k fields) {f : Finding}
        (f-is : f ≡ check_named (rows_of k) vs) where
      found : {g : Finding} → f ≡ g → check_named (rows_of k) (values_in k fields) ≡ g
      found e = sym (f-is ∙ ap (check_named (rows_of k)) vs-is) ∙ e

      pub no_value : {r : Refusal} → f ≡ Err r
          → write_fields_call t a i number fields position ≡ state_refused t a i number r
      unfolding write_fields_call state_refused
      no_value {r} e =
          of_kinds valued (λ k. refused (found_in r i)) (read_state_call t a i)
          (only valued (λ k. refused (found_in r i)) (sym s-is ∙ k-is)
          (ap (λ (v : Finding). v of i ⨾
          write_state_call t a i (element_of k (values_in k fields)) position) (found e)))

      pub state_writes : f ≡ Ok tt → {e : Element} → e ≡ element_of k vs
          → write_state_call t a i e position ≡ write_fields_call t a i number fields position
      state_writes g e-is =
          ap (λ (e : Element). write_state_call t a i e position) (e-is ∙ ap (element_of k) vs-is)
          ∙ sym (writes (sym s-is ∙ k-is) (found g))

-- ---- what a refused call leaves

pub refused_settles : {v w : Verdict (List ℕ)} → v ≡ w → Refuses w → (out : List ℕ) {r : Answer} → r ≡ told w
    → Leaves v out r out
refused_settles e q out t = leaves_as out (sym e) (rw t (q out))
