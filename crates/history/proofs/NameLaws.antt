-- What a refusal names, for every call: the paper's table of codes with its column "names", which each call keeps to.
-- Assumes nothing.
use Prim.Native.Nat.{ℕ, zero, suc, ◌+◌, ◌-◌, ◌≤◌, ◌<◌}
use native.Mathlib.Omega.{arith}
use mathlib.Core.Path.{◌≡◌, refl, sym, ap, subst, ◌∙◌}
use mathlib.Core.Bool.{Bool, true, false, not, ◌&&◌, ◌||◌}
use mathlib.Core.List.{List, [], ◌∷◌, ◌++◌}
use mathlib.Core.Logic.{◌⊎◌, inl, inr}
use lib.Dec.{eqb, leb, ltb}
use lib.ListN.{length, take, drop, get_or, replicate, length-append, length-drop, length-map, length-replicate}
use lib.Seq.{drop-drop}
use borrow.Author.Tests.{leb-true, leb-false, ltb-true, ltb-false}
use Rattle.rows.specs.Values.{Finding}
use Rattle.std.proofs.Common.{Ok, Err}
use Rattle.rows.specs.declared.Refusal.{Refusal}
use Rattle.kinds.specs.Kinds.{width_of, kind_in}
use Rattle.kinds.specs.declared.Kind.{Kind}
use Rattle.kinds.specs.declared.Element.{Element}
use Rattle.elements.specs.Elements.{carried, same_kind, word_of, state_of}
use Rattle.elements.proofs.Findings.{Refuses}
use Rattle.elements.proofs.Laws.{state_kind}
use Rattle.octets.specs.Octets.{number}
use Rattle.history.specs.declared.Answer.{Answer}
use Rattle.history.specs.Verdict.{Refused, naming, Verdict, refused, done, then, ◌unless◌⨾◌, numbers, unnamed}
use Rattle.history.specs.Verdict.{told, settled}
use Rattle.history.specs.Form.{is_whole, read_form}
use Rattle.history.specs.Table.{Object, Plan, version_good, catalogue_good, label_limit, label_good, repeats}
use Rattle.history.specs.Table.{ObjectEntry, object_at, check_object, read_objects, read_table, plan_of, kind_at}
use Rattle.history.specs.Table.{same_catalogue}
use Rattle.history.specs.Image.{Image, image_version_good, element, found_in, ◌of◌⨾◌, widths, read_words}
use Rattle.history.specs.Image.{elements_from, read_image}
use Rattle.history.specs.declared.Change.{Change}
use Rattle.history.specs.declared.Change.TheVariants.{Keep as keep, Swap as swap}
use Rattle.history.specs.Changes.{Changes, list_version, Entry, read_number, read_elements, check_entry, read_entries}
use Rattle.history.specs.Changes.{read_list, fits, meets, lowest, applied, join}
use Rattle.history.specs.Calls.{read_plan, table_call, image_call, list_call, difference_under, difference_call}
use Rattle.history.specs.Calls.{apply_under, apply_call, join_under, join_call, turn_under, turn_call, read_state_under}
use Rattle.history.specs.Calls.{read_state_call, check_state, write_state_under, write_state_call, label_call}
use Rattle.history.proofs.VerdictLaws.{held, used}
use Rattle.history.proofs.OutputLaws.{succeeds, too_short, refusal_told}
use Rattle.history.proofs.FormLaws.{form_contents}
use Rattle.history.proofs.TableLaws.{table_is}
use Rattle.history.proofs.ElementLaws.{was_accepted, refuses_as}
use Rattle.history.proofs.ListLaws.{entry_at, was_numbered, was_checked, head_at}

-- a state of a kind is of that kind, whatever its number
own_kind : (k : Kind) (w : ℕ) {s : Element} → done (state_of k w) ≡ done s → kind_in s ≡ k
own_kind k w {s} e =
    let s-is : s ≡ state_of k w = cc e in
    ap kind_in s-is ∙ state_kind k w

-- ---- the paper's table

-- the codes that name nothing; those that name an object; those that name a number given to the call, which is an
-- object's. The others are 13 and those of elements
abbrev pub nothings : List ℕ
nothings = 1 ∷ 2 ∷ 3 ∷ 4 ∷ 8 ∷ 9 ∷ 16 ∷ 17 ∷ 19 ∷ []

abbrev pub objects : List ℕ
objects = 5 ∷ 6 ∷ 7 ∷ 18 ∷ 20 ∷ []

abbrev pub its_numbers : List ℕ
its_numbers = 14 ∷ 15 ∷ 22 ∷ []

abbrev pub one_of : List ℕ → ℕ → Bool
one_of [] code = false
one_of (c ∷ cs) code = eqb code c || one_of cs code

-- what a refusal names under a table of n objects, which have the kinds ks if it is accepted;
-- `given` are the numbers given to the call
pub data Names (n : ℕ) (ks : List Kind) (given : ℕ → Type 0) : Refused → Type 0 where
  nothing : {code : ℕ} → one_of nothings code ≡ true → Names n ks given (naming code 65535 255)
  an_object : {code i : ℕ} → one_of objects code ≡ true → i < n → Names n ks given (naming code i 255)
  its_number : {code i : ℕ} → one_of its_numbers code ≡ true → given i → i < n → Names n ks given (naming code i 255)
  no_object : {i : ℕ} → given i → n ≤ i → Names n ks given (naming 13 i 255)
  its_field : {f : Refusal} {i : ℕ} → i < length ks → Refuses (kind_at ks i) f.code f.bit
      → Names n ks given (found_in f i)

-- no number is given; this one is; further down `Occurs`: those whose bytes are in a list
abbrev pub NoNumber : ℕ → Type 0
NoNumber i = ⊥

abbrev pub TheNumber : ℕ → ℕ → Type 0
TheNumber i j = j ≡ i

-- if the verdict is a refusal, it names only what P allows
pub record Named (P : Refused → Type 0) {A : Type 0} (v : Verdict A) : Type 0 where
  pub names : {r : Refused} → v ≡ refused r → P r

-- ---- the ways to refuse

module _ {P : Refused → Type 0} {A : Type 0} where
  pub accepts : {a : A} → Named P (done a)
  accepts = record { names = λ e. absurd (let z : ◌≡◌ {A = ℕ} 0 1 = cc in omega arith) }

  pub refuses : {r : Refused} → P r → Named P {A = A} (refused r)
  refuses {r} h = record { names = go }
    where
      go : {x : Refused} → ◌≡◌ {A = Verdict A} (refused r) (refused x) → P x
      go {x} e =
          let same : r ≡ x = cc in
          subst P same h

  pub named_unless : (t : Bool) (x r : Verdict A) → (t ≡ false → Named P x) → (t ≡ true → Named P r)
      → Named P (x unless t ⨾ r)
  named_unless true x r h k = k refl
  named_unless false x r h k = h refl

  pub named_of : (v : Finding) (i : ℕ) (r : Verdict A) → ((x : Refusal) → v ≡ Err x → P (found_in x i))
      → Named P r → Named P (v of i ⨾ r)
  named_of (Ok tt) i r h k = k
  named_of (Err x) i r h k = refuses (h x refl)

  pub named_then : {B : Type 0} (x : Verdict B) (f : B → Verdict A) → Named P x → ((b : B) → x ≡ done b → Named P (f b))
      → Named P (then x f)
  named_then (refused r) f h k = refuses (h.names refl)
  named_then (done b) f h k = k b refl

module _ {n : ℕ} {ks : List Kind} {given : ℕ → Type 0} where
  -- a test whose refusal names nothing
  named_test : {A : Type 0} (t : Bool) (code : ℕ) (r : Verdict A) → one_of nothings code ≡ true
      → (t ≡ true → Named (Names n ks given) r)
      → Named (Names n ks given) (refused (naming code 65535 255) unless t ⨾ r)
  named_test t code r h k = named_unless t _ r (λ e. refuses (nothing h)) k

  -- .. or an object
  named_at : {A : Type 0} (t : Bool) (code i : ℕ) (r : Verdict A) → one_of objects code ≡ true → i < n
      → (t ≡ true → Named (Names n ks given) r)
      → Named (Names n ks given) (refused (naming code i 255) unless t ⨾ r)
  named_at t code i r h l k = named_unless t _ r (λ e. refuses (an_object h l)) k

  -- ---- forms

  form_named : (least : ℕ) (good : ℕ → Bool) (b : List ℕ) → Named (Names n ks given) (read_form least good b)
  unfolding read_form
  form_named least good b =
      named_test (is_whole least b) _ _ refl λ t. named_test (good (get_or b 4 0)) _ _ refl λ t. accepts

-- the entries of a table of n objects refuse with a code that names an object, or with 8
module _ {P : Refused → Type 0} (n : ℕ) (at : (code i : ℕ) → one_of objects code ≡ true → i < n → P (naming code i 255))
    (eight : P (naming 8 65535 255)) where
  object_named : (version x : ℕ) (earlier : List Object) (b : List ℕ) (e : ObjectEntry) → length earlier < n
      → Named P (check_object version x earlier b e)
  unfolding check_object
  object_named version x earlier b e l =
      named_unless (leb 2 (length b)) _ _ (λ f. refuses eight) λ t.
      named_unless (carried x e.object.type) _ _ (λ f. refuses (at 5 _ refl l)) λ t.
      named_unless (leb 1 e.size && leb e.size (label_limit version)) _ _ (λ f. refuses (at 6 _ refl l)) λ t.
      named_unless (leb (2 + e.size) (length b)) _ _ (λ f. refuses eight) λ t.
      named_unless (label_good e.object.label) _ _ (λ f. refuses (at 6 _ refl l)) λ t.
      named_unless (not (repeats e.object earlier)) _ _ (λ f. refuses (at 7 _ refl l)) λ t.
      accepts

  pub objects_named : (version x : ℕ) (earlier : List Object) (m : ℕ) (b : List ℕ) → length earlier + m ≤ n
      → Named P (read_objects version x earlier m b)
  objects_named version x earlier zero b l = named_unless (eqb (length b) 0) _ _ (λ f. refuses eight) λ t. accepts
  objects_named version x earlier (suc m) b l =
      named_then (check_object version x earlier b (object_at b)) _
      (object_named version x earlier b (object_at b) (omega arith))
      λ e q. objects_named version x (earlier ++ (e.object ∷ [])) m e.rest
      (omega (arith, length-append earlier (e.object ∷ [])))

-- how many objects a table's bytes say it has
abbrev pub count_in : List ℕ → ℕ
count_in T = number (take 2 (drop 7 T))

table_named : (b : List ℕ) {ks : List Kind} {given : ℕ → Type 0} → Named (Names (count_in b) ks given) (read_table b)
unfolding read_table
table_named b =
    named_then (read_form 5 version_good b) _ (form_named 5 version_good b) λ f e.
    named_test (catalogue_good f.x f.y) _ _ refl λ t.
    named_test (leb (number (take 2 f.contents)) 1024) _ _ refl λ t.
    named_then (read_objects f.version f.x [] (number (take 2 f.contents)) (drop 2 f.contents)) _
    (objects_named (count_in b) (λ code i h l. an_object h l) (nothing refl) f.version f.x []
    (number (take 2 f.contents)) (drop 2 f.contents)
    (omega (arith, ap (λ (c : List ℕ). number (take 2 c)) (form_contents 5 version_good b e))))
    λ os e. accepts

-- ---- under a plan

abbrev pub NamesUnder : List Kind → (ℕ → Type 0) → Refused → Type 0
NamesUnder ks given = Names (length ks) ks given

-- elements refuse with their own codes
module _ {P : Refused → Type 0} (all : List Kind)
    (field : (f : Refusal) (i : ℕ) → i < length all → Refuses (kind_at all i) f.code f.bit → P (found_in f i)) where
  named_element : {A : Type 0} (k : Kind) (w i : ℕ) (r : Verdict A) → i < length all → kind_at all i ≡ k → Named P r
      → Named P (element k w of i ⨾ r)
  named_element k w i r l e h = named_of (element k w) i r (λ x q. field x i l (rw e (refuses_as k w q))) h

  pub words_named : (i : ℕ) (ks : List Kind) (b : List ℕ) → drop i all ≡ ks → Named P (read_words i ks b)
  words_named i [] b e = accepts
  words_named i (k ∷ ks) b e =
      let h = head_at all i k ks e in
      named_element k (number (take (width_of k) b)) i _ h.0 h.1
      (named_then (read_words (suc i) ks (drop (width_of k) b)) _ (words_named (suc i) ks (drop (width_of k) b) h.2)
      λ ws q. accepts)

pub image_named : (p : Plan) (b : List ℕ) {given : ℕ → Type 0} → Named (NamesUnder p.kinds given) (read_image p b)
unfolding read_image
image_named p b =
    named_then (read_form 7 image_version_good b) _ (form_named 7 image_version_good b) λ f e.
    named_test (same_catalogue f p) _ _ refl λ t.
    named_test (eqb (length f.contents) (elements_from f.version + widths p.kinds)) _ _ refl λ t.
    named_then (read_words 0 p.kinds (drop (elements_from f.version) f.contents)) _
    (words_named p.kinds (λ f i. its_field) 0 p.kinds _ refl) λ ws e. accepts

-- the two bytes of a number are somewhere in a list
pub record Occurs (L : List ℕ) (i : ℕ) : Type 0 where
  pub at : ℕ
  pub inside : at + 2 ≤ length L
  pub is : number (take 2 (drop at L)) ≡ i

occurs_after : (k : ℕ) (b : List ℕ) {i : ℕ} → Occurs (drop k b) i → Occurs b i
occurs_after k b s = record {
  at = k + s.at;
  inside = omega (arith, s.inside, length-drop k b);
  is = ap (λ (c : List ℕ). number (take 2 c)) (sym (drop-drop s.at k b)) ∙ s.is;
}

-- entries refuse with 8, 13, 14, 15 or an element's code
module _ {P : Refused → Type 0} (ks : List Kind) (given : ℕ → Type 0) (eight : P (naming 8 65535 255))
    (beyond : (i : ℕ) → given i → length ks ≤ i → P (naming 13 i 255))
    (its : (code i : ℕ) → one_of its_numbers code ≡ true → given i → i < length ks → P (naming code i 255))
    (field : (f : Refusal) (i : ℕ) → i < length ks → Refuses (kind_at ks i) f.code f.bit → P (found_in f i)) where
  number_named : (b : List ℕ) → ((i : ℕ) → Occurs b i → given i) → Named P (read_number ks b)
  unfolding read_number
  number_named b g =
      named_unless (leb 2 (length b)) _ _ (λ f. refuses eight) λ t.
      named_unless (ltb (number (take 2 b)) (length ks)) _ _
      (λ f. refuses (beyond _ (g _ (record { at = 0; inside = leb-true _ _ t; is = refl })) (ltb-false _ _ f)))
      λ t. accepts

  elements_named : (i : ℕ) (b : List ℕ) → i < length ks → Named P (read_elements i (kind_at ks i) b)
  unfolding read_elements
  elements_named i b l =
      named_unless (leb (width_of (kind_at ks i) + width_of (kind_at ks i)) (length b)) _ _ (λ f. refuses eight) λ t.
      named_element ks field (kind_at ks i) _ i _ l refl (named_element ks field (kind_at ks i) _ i _ l refl accepts)

  entry_named : (low : ℕ) (b : List ℕ) → ((i : ℕ) → Occurs b i → given i) → Named P (check_entry ks low b)
  unfolding check_entry
  entry_named low b g =
      named_then (read_number ks b) _ (number_named b g) λ i q.
      let n = was_numbered ks b q in
      let mine : given i = g i (record { at = 0; inside = n.two; is = n.number_is }) in
      named_unless (leb low i) _ _ (λ f. refuses (its 14 _ refl mine n.inside)) λ t.
      named_then (read_elements i (kind_at ks i) (drop 2 b)) _ (elements_named i (drop 2 b) n.inside) λ e q.
      named_unless (not (eqb e.old e.new)) _ _ (λ f. refuses (its 15 _ refl mine n.inside)) λ t. accepts

  pub entries_named : (low m : ℕ) (b : List ℕ) → ((i : ℕ) → Occurs b i → given i) → Named P (read_entries ks low m b)
  entries_named low zero b g = named_unless (eqb (length b) 0) _ _ (λ f. refuses eight) λ t. accepts
  entries_named low (suc m) b g =
      named_then (check_entry ks low b) _ (entry_named low b g) λ e q.
      let w : ℕ = width_of (entry_at ks b).kind in
      let rest : e.rest ≡ drop w (drop w (drop 2 b)) = ap (λ (e : Entry). e.rest) (sym (was_checked ks low b q).0) in
      let behind : (i : ℕ) → Occurs e.rest i → given i =
      λ i s. g i (occurs_after 2 b
      (occurs_after w (drop 2 b) (occurs_after w (drop w (drop 2 b)) (rw rest at s)))) in
      named_then (read_entries ks (suc e.object) m e.rest) _ (entries_named (suc e.object) m e.rest behind)
      λ cs q. accepts

pub list_named : (p : Plan) (b : List ℕ) {given : ℕ → Type 0} → ((i : ℕ) → Occurs b i → given i)
    → Named (NamesUnder p.kinds given) (read_list p b)
unfolding read_list
list_named p b {given} g =
    named_then (read_form 13 (eqb list_version) b) _ (form_named 13 (eqb list_version) b) λ f e.
    named_test (same_catalogue f p) _ _ refl λ t.
    let c = form_contents 13 (eqb list_version) b e in
    let behind : (i : ℕ) → Occurs (drop 10 f.contents) i → given i =
    λ i s. g i (occurs_after 7 b (occurs_after 10 (drop 7 b) (rw c at s))) in
    named_then (read_entries p.kinds 0 (number (take 2 (drop 8 f.contents))) (drop 10 f.contents)) _
    (entries_named p.kinds given (nothing refl) (λ i. no_object) (λ code i. its_number) (λ f i. its_field) 0
    (number (take 2 (drop 8 f.contents))) (drop 10 f.contents) behind)
    λ cs q. accepts

-- ---- operations

module _ {n : ℕ} {ks : List Kind} {given : ℕ → Type 0} where
  lowest_named : {A B C : Type 0} (code : ℕ) → one_of objects code ≡ true
      → (test : A → B → Bool) (i : ℕ) (xs : List A) (ys : List B) (c : C) → i + length ys ≤ n
      → Named (Names n ks given) (lowest code test i xs ys c)
  lowest_named code h test i [] ys c l = accepts
  lowest_named code h test i (x ∷ xs) [] c l = accepts
  lowest_named code h test i (x ∷ xs) (y ∷ ys) c l =
      named_at (test x y) code i _ h (omega arith) λ t. lowest_named code h test (suc i) xs ys c (omega arith)

  pub applied_named : (l : Changes) (a : Image) → length a.words ≤ n → Named (Names n ks given) (applied l a)
  unfolding applied
  applied_named l a h =
      named_test (leb a.position l.from) _ _ refl λ t.
      named_test (leb l.from a.position) _ _ refl λ t.
      lowest_named _ refl fits 0 l.each a.words _ (omega arith)

  join_named : (l m : Changes) → length m.each ≤ n → Named (Names n ks given) (join l m)
  unfolding join
  join_named l m h =
      named_test (eqb l.to m.from) _ _ refl λ t. lowest_named _ refl meets 0 l.each m.each _ (omega arith)

-- an accepted image has a word for each object
words_long : (i : ℕ) (ks : List Kind) (b : List ℕ) {ws : List ℕ} → read_words i ks b ≡ done ws → length ws ≡ length ks
words_long i [] b {ws} e = let ws-is : ws ≡ [] = cc in ap length ws-is
words_long i (k ∷ ks) b {ws} e =
    let w : ℕ = number (take (width_of k) b) in
    let q = used (read_words (suc i) ks (drop (width_of k) b)) _ (was_accepted (element k w) i _ e).1 in
    let ws-is : ws ≡ w ∷ q.0 = cc q.2 in
    ap length ws-is ∙ ap suc (words_long (suc i) ks (drop (width_of k) b) q.1)

image_long : (p : Plan) (b : List ℕ) {a : Image} → read_image p b ≡ done a → length a.words ≡ length p.kinds
unfolding read_image
image_long p b {a} e =
    let q = used (read_form 7 image_version_good b) _ e in
    let f = q.0 in
    let q₁ = held (same_catalogue f p) _ _ q.2 in
    let q₂ = held (eqb (length f.contents) (elements_from f.version + widths p.kinds)) _ _ q₁.1 in
    let q₃ = used (read_words 0 p.kinds (drop (elements_from f.version) f.contents)) _ q₂.1 in
    let ws-is : a.words ≡ q₃.0 = cc q₃.2 in
    ap length ws-is ∙ words_long 0 p.kinds (drop (elements_from f.version) f.contents) q₃.1

-- .. and an accepted list a change for each
entries_long : (ks : List Kind) (m low : ℕ) (b : List ℕ) {cs : List Change} → low ≤ length ks
    → read_entries ks low m b ≡ done cs → low + length cs ≡ length ks
entries_long ks zero low b {cs} l q =
    let cs-is : cs ≡ replicate (length ks - low) keep = cc (held (eqb (length b) 0) _ _ q).1 in
    omega (arith, ap length cs-is, length-replicate (length ks - low) keep)
entries_long ks (suc m) low b {cs} l q =
    let p = used (check_entry ks low b) _ q in
    let e : Entry = p.0 in
    let c = was_checked ks low b p.1 in
    let i : e.object ≡ (entry_at ks b).object = ap (λ (e : Entry). e.object) (sym c.0) in
    let r = used (read_entries ks (suc e.object) m e.rest) _ p.2 in
    let more = entries_long ks m (suc e.object) e.rest (omega (arith, c.1.inside)) r.1 in
    let cs-is : cs ≡ replicate (e.object - low) keep ++ (swap e.old e.new ∷ r.0) = cc r.2 in
    omega (
      arith,
      ap length cs-is,
      length-append (replicate (e.object - low) keep) (swap e.old e.new ∷ r.0),
      length-replicate (e.object - low) keep,
      more,
      c.1.up,
    )

list_long : (p : Plan) (b : List ℕ) {l : Changes} → read_list p b ≡ done l → length l.each ≡ length p.kinds
unfolding read_list
list_long p b {l} e =
    let q = used (read_form 13 (eqb list_version) b) _ e in
    let f = q.0 in
    let m : ℕ = number (take 2 (drop 8 f.contents)) in
    let r = used (read_entries p.kinds 0 m (drop 10 f.contents)) _ (held (same_catalogue f p) _ _ q.2).1 in
    let each-is : l.each ≡ r.0 = cc r.2 in
    omega (arith, ap length each-is, entries_long p.kinds m 0 (drop 10 f.contents) (omega arith) r.1)

-- ---- states

pub state_named : (ks : List Kind) (i : ℕ) (state : Element)
    → Named (NamesUnder ks (TheNumber i)) (check_state ks i state)
unfolding check_state
state_named ks i state =
    named_unless (ltb i (length ks)) _ _ (λ f. refuses (no_object refl (ltb-false _ _ f))) λ t.
    let l : i < length ks = ltb-true _ _ t in
    named_unless (same_kind (kind_in state) (kind_at ks i)) _ _ (λ f. refuses (its_number refl refl l)) λ t.
    named_element ks (λ f i. its_field) (kind_at ks i) (word_of state) i _ l refl accepts

-- ---- a list applied under any plan

pub apply_named : (p : Plan) (A L : List ℕ) → Named (NamesUnder p.kinds (Occurs L)) (apply_under p A L)
unfolding apply_under
apply_named p A L =
    named_then (read_image p A) _ (image_named p A) λ a e.
    named_then (read_list p L) _ (list_named p L (λ i s. s)) λ l f.
    named_then (applied l a) _ (applied_named l a (omega (arith, image_long p A e))) λ b e. accepts

-- ---- the calls, from the table's bytes: the count is what they say, the kinds are those of an
-- accepted table's objects

abbrev kinds_read : Verdict Plan → List Kind
kinds_read (refused r) = []
kinds_read (done p) = p.kinds

abbrev pub kinds_in : List ℕ → List Kind
kinds_in T = kinds_read (read_plan T)

abbrev pub NamesIn : List ℕ → (ℕ → Type 0) → Refused → Type 0
NamesIn T given = Names (count_in T) (kinds_in T) given

plan_count : (T : List ℕ) {p : Plan} → read_plan T ≡ done p → length p.kinds ≡ count_in T
unfolding read_plan plan_of
plan_count T {p} e =
    let q = used (read_table T) _ e in
    let t = q.0 in
    let p-is : p ≡ plan_of t = cc q.2 in
    ap (λ (p : Plan). length p.kinds) p-is ∙ length-map t.objects _ ∙ (table_is T q.1).count

module _ (T : List ℕ) {given : ℕ → Type 0} where
  plan_named : Named (NamesIn T given) (read_plan T)
  unfolding read_plan
  plan_named = named_then (read_table T) _ (table_named T) λ t e. accepts

  -- what is allowed under the plan is allowed by the table's bytes
  by_bytes : {A : Type 0} {v : Verdict A} {p : Plan} → read_plan T ≡ done p → Named (NamesUnder p.kinds given) v
      → Named (NamesIn T given) v
  by_bytes e h = rw (e, ← plan_count T e) h

  under : {A : Type 0} (f : Plan → Verdict A) → ((p : Plan) → Named (NamesUnder p.kinds given) (f p))
      → Named (NamesIn T given) (then (read_plan T) f)
  under f h = named_then (read_plan T) f plan_named λ p e. by_bytes e (h p)

module _ (T : List ℕ) where
  pub table_call_named : Named (NamesIn T NoNumber) (table_call T)
  unfolding table_call
  table_call_named = table_named T

  pub image_call_named : (A : List ℕ) → Named (NamesIn T NoNumber) (image_call T A)
  unfolding image_call
  image_call_named A = under T _ λ p. image_named p A

  pub list_call_named : (L : List ℕ) → Named (NamesIn T (Occurs L)) (list_call T L)
  unfolding list_call
  list_call_named L = under T _ λ p. list_named p L λ i s. s

  pub difference_call_named : (A B : List ℕ) → Named (NamesIn T NoNumber) (difference_call T A B)
  unfolding difference_call difference_under
  difference_call_named A B =
      under T _ λ p.
      named_then (read_image p A) _ (image_named p A) λ a e.
      named_then (read_image p B) _ (image_named p B) λ b e. accepts

  pub apply_call_named : (A L : List ℕ) → Named (NamesIn T (Occurs L)) (apply_call T A L)
  unfolding apply_call
  apply_call_named A L = under T _ λ p. apply_named p A L

  pub join_call_named : (L M : List ℕ) → Named (NamesIn T (λ i. Occurs L i ⊎ Occurs M i)) (join_call T L M)
  unfolding join_call join_under
  join_call_named L M =
      under T _ λ p.
      named_then (read_list p L) _ (list_named p L (λ i s. inl s)) λ l e.
      named_then (read_list p M) _ (list_named p M (λ i s. inr s)) λ m f.
      named_then (join l m) _ (join_named l m (omega (arith, list_long p M f))) λ k e. accepts

  pub turn_call_named : (L : List ℕ) → Named (NamesIn T (Occurs L)) (turn_call T L)
  unfolding turn_call turn_under
  turn_call_named L = under T _ λ p. named_then (read_list p L) _ (list_named p L (λ i s. s)) λ l e. accepts

  pub read_call_named : (A : List ℕ) (i : ℕ) → Named (NamesIn T (TheNumber i)) (read_state_call T A i)
  unfolding read_state_call read_state_under
  read_call_named A i =
      under T _ λ p.
      named_then (read_image p A) _ (image_named p A) λ a e.
      named_unless (ltb i (length p.kinds)) _ _ (λ f. refuses (no_object refl (ltb-false _ _ f))) λ t. accepts

  pub write_call_named : (A : List ℕ) (i : ℕ) (state : Element) (position : ℕ)
      → Named (NamesIn T (TheNumber i)) (write_state_call T A i state position)
  unfolding write_state_call write_state_under
  write_call_named A i state position =
      under T _ λ p.
      named_then (read_image p A) _ (image_named p A) λ a e.
      named_then (check_state p.kinds i state) _ (state_named p.kinds i state) λ w e. accepts

  pub label_call_named : (i : ℕ) → Named (NamesIn T (TheNumber i)) (label_call T i)
  unfolding label_call
  label_call_named i =
      named_then (read_table T) _ (table_named T) λ t e.
      named_unless (ltb i (length t.objects)) _ _
      (λ f. refuses (no_object refl (omega (arith, ltb-false i (length t.objects) f, (table_is T e).count))))
      λ t. accepts

  -- a state that is read belongs to an object, and has its kind
  pub read_object : (A : List ℕ) {i : ℕ} {s : Element} → read_state_call T A i ≡ done s
      → (i < count_in T) × (i < length (kinds_in T)) × (kind_in s ≡ kind_at (kinds_in T) i)
  unfolding read_state_call read_state_under
  read_object A {i} {s} e =
      let q = used (read_plan T) _ e in
      let p = q.0 in
      let q₁ = used (read_image p A) _ q.2 in
      let q₂ = held (ltb i (length p.kinds)) _ _ q₁.2 in
      let l : i < length p.kinds = ltb-true _ _ q₂.0 in
      rw (q.1, ← plan_count T q.1) (l, l, own_kind _ _ q₂.1)

-- ---- the numbers returned: success and 21 name nothing

pub data Tells (P : Refused → Type 0) : Answer → Type 0 where
  success : {n : ℕ} → Tells P (unnamed 0 n)
  short : {n : ℕ} → Tells P (unnamed 21 n)
  refusal : {r : Refused} → P r → Tells P (numbers r 0)

module _ {P : Refused → Type 0} where
  -- a call that writes nothing returns length 0
  pub told_names : {A : Type 0} (v : Verdict A) → Named P v → Tells P (told v) × ((told v).length ≡ 0)
  unfolding told
  told_names (refused r) h = (refusal (h.names refl), refl)
  told_names (done a) h = (success, refl)

  pub settled_names : (v : Verdict (List ℕ)) (out : List ℕ) → Named P v → Tells P (settled v out).answer
  settled_names (refused r) out h = rw (refusal_told r out refl).0 (refusal (h.names refl))
  settled_names (done b) out h = go (leb (length b) (length out)) refl
    where
      go : (u : Bool) → leb (length b) (length out) ≡ u → Tells P (settled (done b) out).answer
      go true e = rw (succeeds {b = b} out refl (leb-true _ _ e)).answer success
      go false e = rw (too_short {b = b} out refl (leb-false _ _ e)).0 short
