-- Demands 2 and 3, over the calls alone: T, A, B, .. are any bytes.
-- `done` is what a call gives where it is not refused.
-- Assumes nothing.
use Prim.Native.Nat.{ℕ, suc, ◌+◌, ◌*◌, ◌^◌, ◌≤◌, ◌<◌}
use native.Mathlib.Nat.{zero-add}
use mathlib.Core.Path.{◌≡◌, refl, sym, ap, ◌∙◌}
use mathlib.Core.Bool.{true}
use mathlib.Core.List.{List, [], ◌∷◌, ◌++◌, map, zip_with}
use mathlib.Core.Logic.Iff
use mathlib.Core.Logic.{◌↔◌}
use lib.ListN.{length, drop, get_or}
use Rattle.kinds.specs.Kinds.{kind_in}
use Rattle.elements.specs.Elements.{state_of, word_of}
use Rattle.elements.proofs.DatLaws.{Stale}
use Rattle.kinds.specs.declared.Element.{Element}
use Rattle.octets.specs.Octets.{Bytes}
use Rattle.history.specs.Verdict.{Refused, naming, refused, done, refusal}
use Rattle.history.specs.Form.{Form, read_form}
use Rattle.history.specs.Table.{Table, table_bytes, Plan, kind_at, same_catalogue, LegalTable}
use Rattle.history.specs.Image.{Image, image_version_good, image_bytes, widths, elements_from, LegalImage}
use Rattle.history.specs.declared.Change.TheVariants.{Keep as keep}
use Rattle.history.specs.Changes.{Changes, list_bytes, LegalList, fits, meets, applied, join}
use Rattle.history.specs.Calls.{read_plan, table_call, image_call, list_call, difference_call, apply_under, apply_call}
use Rattle.history.specs.Calls.{join_under, join_call, turn_call, placed, read_state_call, write_state_call}
use Rattle.history.proofs.VerdictLaws.{Lowest, passed_up}
use Rattle.history.proofs.OperationLaws.{one_version, keeps_version, late_exactly as late, gap_exactly as gap}
use Rattle.history.proofs.OperationLaws.{apart_exactly as apart, old_exactly as old, meeting_exactly as meeting}
use Rattle.history.proofs.TableLaws.{table_form, plan_fair}
use Rattle.history.proofs.EntryLaws.{FirstNotCarried, FirstRepeat, table_others, table_repeats}
use Rattle.history.proofs.ImageLaws.{image_form}
use Rattle.history.proofs.LowestLaws.{RefusedFirst, image_refused}
use Rattle.history.proofs.ListLaws.{list_form}
use Rattle.history.proofs.CallLaws.{accepted_image, accepted_list, turn_is, image_accepted, list_accepted}
use Rattle.history.proofs.CallLaws.{difference_is, difference_list, difference_applies, only_difference_applies}
use Rattle.history.proofs.CallLaws.{differences_join, difference_turned, joined_list, turned_list, applied_image}
use Rattle.history.proofs.AcceptedLaws.{difference_under_lem, apply_under_lem, write_under, image_under, list_under}
use Rattle.history.proofs.AcceptedLaws.{join_under_lem, two_images, taken, two_lists, list_taken, written_in}
use Rattle.history.proofs.SizeLaws.{list_short, join_short, OneJoin, joins_associate}
use Rattle.history.proofs.StateLaws.{write_current, write_stale, write_read, write_other, read_write, read_is}
use Rattle.history.proofs.StateLaws.{wrote, written_image, states_into, AllBelow, all_into, states_written}
use Rattle.history.proofs.StateLaws.{states_at}

-- ---- the forms: bytes are accepted exactly where they are something legal, written; they are then read as that

pub table_exactly : (T : List ℕ) → Bytes T → (t : Table)
    → (table_call T ≡ done t) ↔ (LegalTable t × (T ≡ table_bytes t))
unfolding table_call
table_exactly T h t = table_form T h t

-- 5 exactly where the objects before are those of a legal table and the next has a type that
-- its catalogue doesn't carry; the next is named
pub type_exactly : (T : List ℕ) → Bytes T → (k bit : ℕ)
    → (table_call T ≡ refused (naming 5 k bit)) ↔ (FirstNotCarried T k × (bit ≡ 255))
unfolding table_call
type_exactly T h k bit = table_others T h k bit

-- 7 exactly where the objects before are those of a legal table and the next is one of them again; the next is named
pub repeat_exactly : (T : List ℕ) → Bytes T → (k bit : ℕ)
    → (table_call T ≡ refused (naming 7 k bit)) ↔ (FirstRepeat T k × (bit ≡ 255))
unfolding table_call
repeat_exactly T h k bit = table_repeats T h k bit

module _ (T : List ℕ) {p : Plan} (t : read_plan T ≡ done p) where
  pub image_exactly : (A : List ℕ) → Bytes A → (a : Image)
      → (image_call T A ≡ done a) ↔ (LegalImage p a × (A ≡ image_bytes p a))
  unfolding image_call
  image_exactly A h a = rw t (image_form p (plan_fair T t) A h a)

  -- 10, 11, 12: an image with a good head and the right length is refused exactly where an element is, as the first is
  pub lowest_element : (A : List ℕ) {f : Form} → read_form 7 image_version_good A ≡ done f → same_catalogue f p ≡ true
      → length f.contents ≡ elements_from f.version + widths p.kinds → (r : Refused)
      → (image_call T A ≡ refused r) ↔ RefusedFirst 0 p.kinds (drop (elements_from f.version) f.contents) r
  unfolding image_call
  lowest_element A e c long r = rw t (image_refused p A e c long r)

  pub list_exactly : (L : List ℕ) → Bytes L → (l : Changes)
      → (list_call T L ≡ done l) ↔ (LegalList p l × (L ≡ list_bytes p l))
  unfolding list_call
  list_exactly L h l = rw t (list_form p (plan_fair T t) L h l)

-- ---- demand 3

-- two accepted images have a list, which is accepted
pub has_difference : (T A B : List ℕ) {a b : Image} → Bytes A → Bytes B → image_call T A ≡ done a
    → image_call T B ≡ done b
    → (L : List ℕ) × (difference_call T A B ≡ done L) × (l : Changes) × (list_call T L ≡ done l)
has_difference T A B ha hb ea eb =
    let t = (image_under T A ea).reads in
    let a = accepted_image T t A ha ea in
    let b = accepted_image T t B hb eb in
    let d = difference_is T t a b in
    let l = difference_list T t a b d in
    (_, d, l.list, list_accepted T t l)

-- the list from A to B turns A into B
pub apply_of_difference : (T A B : List ℕ) {L : List ℕ} → Bytes A → Bytes B → difference_call T A B ≡ done L
    → apply_call T A L ≡ done B
apply_of_difference T A B ha hb e =
    let t = (difference_under_lem T A B e).reads in
    let f = two_images T t A B ha hb e in
    difference_applies T t f.0 f.1 (one_version f.0.legal f.1.legal) e

-- .. and no other accepted list does
pub only_list : (T A L : List ℕ) {B : List ℕ} → Bytes A → Bytes L → apply_call T A L ≡ done B
    → difference_call T A B ≡ done L
only_list T A L ha hl e =
    let t = (apply_under_lem T A L e).reads in
    let f = taken T t A L ha hl e in
    only_difference_applies T t f.0 f.1 e

-- the list from A to B joined with the list from B to C is the list from A to C
pub join_of_differences : (T A B C : List ℕ) {L M : List ℕ} → Bytes A → Bytes B → Bytes C
    → difference_call T A B ≡ done L → difference_call T B C ≡ done M
    → join_call T L M ≡ difference_call T A C
join_of_differences T A B C ha hb hc e g =
    let t = (difference_under_lem T A B e).reads in
    let f = two_images T t A B ha hb e in
    differences_join T t f.0 f.1 (two_images T t B C hb hc g).1 e g

-- turned back, the list from A to B is the list from B to A
pub turned_difference : (T A B : List ℕ) {L : List ℕ} → Bytes A → Bytes B → difference_call T A B ≡ done L
    → turn_call T L ≡ difference_call T B A
turned_difference T A B ha hb e =
    let t = (difference_under_lem T A B e).reads in
    let f = two_images T t A B ha hb e in
    difference_turned T t f.0 f.1 e

-- two lists that A takes in turn join to the list from A to the last image, which A takes with the same result
pub two_lists_in_turn : (T A L M : List ℕ) {B C : List ℕ} → Bytes A → Bytes L → Bytes M → apply_call T A L ≡ done B
    → apply_call T B M ≡ done C
    → (join_call T L M ≡ difference_call T A C) × ((K : List ℕ) → join_call T L M ≡ done K → apply_call T A K ≡ done C)
two_lists_in_turn T A L M {B} ha hl hm x y =
    let t = (apply_under_lem T A L x).reads in
    let f = taken T t A L ha hl x in
    let q = applied_image T t f.0 f.1 x in
    let b = q.0 in
    let m = list_taken T t B M b hm y in
    let r = applied_image T t b m y in
    let c = r.0 in
    let v = keeps_version f.1.legal f.0.legal q.1 ∙ keeps_version m.legal b.legal r.1 in
    let j =
    differences_join T t f.0 b c (only_difference_applies T t f.0 f.1 x)
    (only_difference_applies T t b m y) in
    (j, (λ K e. difference_applies T t f.0 c v (sym j ∙ e)))

-- three lists that A takes in turn join to the list from A to the last image, whichever pair is joined first
pub three_lists : (T A L M N : List ℕ) {B C D : List ℕ} → Bytes A → Bytes L → Bytes M → Bytes N
    → apply_call T A L ≡ done B → apply_call T B M ≡ done C → apply_call T C N ≡ done D
    → (K : List ℕ) × (difference_call T A D ≡ done K) × OneJoin T L M N K
three_lists T A L M N {B} {C} ha hl hm hn x y z =
    let t = (apply_under_lem T A L x).reads in
    let f = taken T t A L ha hl x in
    let b = (applied_image T t f.0 f.1 x).0 in
    let m = list_taken T t B M b hm y in
    let c = (applied_image T t b m y).0 in
    joins_associate T t f.0 f.1 m (list_taken T t C N c hn z) x y z

-- what the calls write is accepted: the result, the join, the list turned back
pub applied_accepted : (T A L : List ℕ) {B : List ℕ} → Bytes A → Bytes L → apply_call T A L ≡ done B
    → (b : Image) × (image_call T B ≡ done b)
applied_accepted T A L ha hl e =
    let t = (apply_under_lem T A L e).reads in
    let f = taken T t A L ha hl e in
    let b = (applied_image T t f.0 f.1 e).0 in
    (b.image, image_accepted T t b)

pub join_accepted : (T L M : List ℕ) {K : List ℕ} → Bytes L → Bytes M → join_call T L M ≡ done K
    → (k : Changes) × (list_call T K ≡ done k)
join_accepted T L M hl hm e =
    let t = (join_under_lem T L M e).reads in
    let f = two_lists T t L M hl hm e in
    let k = (joined_list T t f.0 f.1 e).0 in
    (k.list, list_accepted T t k)

pub turned_accepted : (T L : List ℕ) {l : Changes} → Bytes L → list_call T L ≡ done l
    → (K : List ℕ) × (turn_call T L ≡ done K) × (k : Changes) × (list_call T K ≡ done k)
turned_accepted T L hl e =
    let t = (list_under T L e).reads in
    let l = accepted_list T t L hl e in
    let q = turn_is T t l in
    let k = turned_list T t l q in
    (_, q, k.list, list_accepted T t k)

-- a join is never longer than the two lists together
pub join_not_longer : (T L M : List ℕ) {K : List ℕ} → Bytes L → Bytes M → join_call T L M ≡ done K
    → length K ≤ length L + length M
join_not_longer T L M hl hm e =
    let t = (join_under_lem T L M e).reads in
    let f = two_lists T t L M hl hm e in
    join_short T t f.0 f.1 e

-- a difference is never longer than four times the image
pub difference_not_longer : (T A B : List ℕ) {L : List ℕ} → Bytes A → Bytes B → difference_call T A B ≡ done L
    → length L ≤ 4 * length A
difference_not_longer T A B ha hb e =
    let t = (difference_under_lem T A B e).reads in
    let f = two_images T t A B ha hb e in
    list_short (difference_list T t f.0 f.1 e) f.0

-- ---- what is refused, and what a refusal names

-- if its forms are accepted, a call refuses what the operation refuses
apply_refused : (T A L : List ℕ) {a : Image} {l : Changes} {r : Refused} → image_call T A ≡ done a
    → list_call T L ≡ done l
    → (apply_call T A L ≡ refused r) ↔ (applied l a ≡ refused r)
unfolding image_call list_call apply_call apply_under
apply_refused T A L {a} {l} ea el =
    let t = (image_under T A ea).reads in
    ((λ e. passed_up (applied l a) _ (rw (t, rw t at ea, rw t at el) at e)), (λ e. rw (t, rw t at ea, rw t at el, e)))

join_refused : (T L M : List ℕ) {l m : Changes} {r : Refused} → list_call T L ≡ done l → list_call T M ≡ done m
    → (join_call T L M ≡ refused r) ↔ (join l m ≡ refused r)
unfolding list_call join_call join_under
join_refused T L M {l} {m} el em =
    let t = (list_under T L el).reads in
    ((λ e. passed_up (join l m) _ (rw (t, rw t at el, rw t at em) at e)), (λ e. rw (t, rw t at el, rw t at em, e)))

-- 16 exactly where the list starts below the image's position, 17 exactly where above it
pub late_exactly : (T A L : List ℕ) {a : Image} {l : Changes} → image_call T A ≡ done a → list_call T L ≡ done l
    → (apply_call T A L ≡ refusal 16) ↔ (l.from < a.position)
late_exactly T A L {a} {l} ea el = Iff.trans (apply_refused T A L ea el) (late l a)

pub gap_exactly : (T A L : List ℕ) {a : Image} {l : Changes} → image_call T A ≡ done a → list_call T L ≡ done l
    → (apply_call T A L ≡ refusal 17) ↔ (a.position < l.from)
gap_exactly T A L {a} {l} ea el = Iff.trans (apply_refused T A L ea el) (gap l a)

-- 19 exactly where the second doesn't start at the first's end
pub apart_exactly : (T L M : List ℕ) {l m : Changes} → list_call T L ≡ done l → list_call T M ≡ done m
    → (join_call T L M ≡ refusal 19) ↔ (l.to ≡ m.from → ⊥)
apart_exactly T L M {l} {m} el em = Iff.trans (join_refused T L M el em) (apart l m)

-- 18 exactly where the list starts at the image's position and some old element is not the image's; the lowest is named
pub old_exactly : (T A L : List ℕ) {a : Image} {l : Changes} → image_call T A ≡ done a → list_call T L ≡ done l
    → (j bit : ℕ)
    → (apply_call T A L ≡ refused (naming 18 j bit))
    ↔ ((l.from ≡ a.position) × Lowest fits keep 0 l.each a.words j × (bit ≡ 255))
old_exactly T A L {a} {l} ea el j bit = Iff.trans (apply_refused T A L ea el) (old l a j bit)

-- 20 exactly where the positions meet and some new element in the first is not its old one in the second; likewise
pub meeting_exactly : (T L M : List ℕ) {l m : Changes} → list_call T L ≡ done l → list_call T M ≡ done m → (j bit : ℕ)
    → (join_call T L M ≡ refused (naming 20 j bit))
    ↔ ((l.to ≡ m.from) × Lowest meets keep keep l.each m.each j × (bit ≡ 255))
meeting_exactly T L M {l} {m} el em j bit = Iff.trans (join_refused T L M el em) (meeting l m j bit)

-- ---- demand 2, on images

-- a state of the object's kind is written, unless DAT is 0 and another bit is 1 ..
pub current_written : (T A : List ℕ) (i : ℕ) (e : Element) (position : ℕ) {p : Plan} {a : Image} → Bytes A
    → read_plan T ≡ done p → image_call T A ≡ done a
    → i < length p.kinds → kind_in e ≡ kind_at p.kinds i → (Stale (kind_in e) (word_of e) → ⊥)
    → write_state_call T A i e position ≡ done (image_bytes p (placed a i (word_of e) position))
current_written T A i e position {p} {a} ha t ea l s n =
    let x = accepted_image T t A ha ea in
    let same : x.image ≡ a = cc (image_accepted T t x) in
    rw (← same) (write_current T t x i e position l s n)

-- .. and then it is refused with 12
pub stale_refused : (T A : List ℕ) (i : ℕ) (e : Element) (position : ℕ) {p : Plan} {a : Image} → Bytes A
    → read_plan T ≡ done p → image_call T A ≡ done a
    → i < length p.kinds → kind_in e ≡ kind_at p.kinds i → Stale (kind_in e) (word_of e)
    → write_state_call T A i e position ≡ refused (naming 12 i 0)
stale_refused T A i e position ha t ea l s h = write_stale T t (accepted_image T t A ha ea) i e position l s h

-- a state that was written is read back
pub write_then_read : (T A : List ℕ) (i : ℕ) (e : Element) (position : ℕ) {B : List ℕ} → Bytes A → position < 2 ^ 32
    → write_state_call T A i e position ≡ done B → read_state_call T B i ≡ done e
write_then_read T A i e position ha s q =
    let t = (write_under T A i e position q).reads in
    write_read T t (written_in T t A i e position ha q) i e position s q

-- reading any other object gives what it gave before, also a refusal
pub others_stay : (T A : List ℕ) (i : ℕ) (e : Element) (position : ℕ) {B : List ℕ} → Bytes A → position < 2 ^ 32
    → write_state_call T A i e position ≡ done B → (j : ℕ) → (j ≡ i → ⊥) → read_state_call T B j ≡ read_state_call T A j
others_stay T A i e position ha s q =
    let t = (write_under T A i e position q).reads in
    write_other T t (written_in T t A i e position ha q) i e position s q

-- a state that was read, written again at the image's own position, gives the image
pub read_then_write : (T A : List ℕ) (i : ℕ) {a : Image} {e : Element} → Bytes A → image_call T A ≡ done a
    → read_state_call T A i ≡ done e
    → write_state_call T A i e a.position ≡ done A
read_then_write T A i {a} {e} ha ea q =
    let t = (image_under T A ea).reads in
    let x = accepted_image T t A ha ea in
    let same : a ≡ x.image = cc (image_accepted T t x) in
    ap (λ (b : Image). write_state_call T A i e b.position) same ∙ read_write T t x i e q

-- the states of A, read and written one by one into any accepted image, the last at A's
-- position and the others at any, give A
pub states_make_image : (T A Z positions : List ℕ) {p : Plan} {a z : Image} → Bytes A → Bytes Z → read_plan T ≡ done p
    → image_call T A ≡ done a → image_call T Z ≡ done z
    → AllBelow (2 ^ 32) positions → suc (length positions) ≡ length p.kinds
    → states_into T A 0 (positions ++ (a.position ∷ [])) Z ≡ done A
states_make_image T A Z positions {p} {a} ha hz t ea ez h n =
    let x = accepted_image T t A ha ea in
    let same : a ≡ x.image = cc (image_accepted T t x) in
    ap (λ (b : Image). states_into T A 0 (positions ++ (b.position ∷ [])) Z) same
    ∙ all_into T t x (accepted_image T t Z hz ez) 0 positions h (zero-add _ ∙ n) refl

-- the states of all objects, as the calls read them, make up the image again
pub image_of_states : (T A : List ℕ) {p : Plan} {a : Image} → Bytes A → read_plan T ≡ done p → image_call T A ≡ done a
    → (image_bytes p
    (record {
      version = a.version;
      position = a.position;
      words = map word_of (zip_with state_of p.kinds a.words);
    }) ≡ A)
    × ((i : ℕ) (d : Element) → i < length p.kinds
    → read_state_call T A i ≡ done (get_or (zip_with state_of p.kinds a.words) i d))
image_of_states T A {p} {a} ha t ea =
    let x = accepted_image T t A ha ea in
    let same : x.image ≡ a = cc (image_accepted T t x) in (
      rw same at (states_written T t x),
      (λ i d h. rw (← same) (read_is T t x i h ∙ ap done (sym (states_at d x.legal.words i h)))),
    )

-- the new image has the object's new element, the new position, and all other elements as they were
pub written_is : (T A : List ℕ) (i : ℕ) (e : Element) (position : ℕ) {a : Image} {B : List ℕ} → Bytes A
    → position < 2 ^ 32 → image_call T A ≡ done a
    → write_state_call T A i e position ≡ done B → image_call T B ≡ done (placed a i (word_of e) position)
written_is T A i e position {a} ha s ea q =
    let t = (image_under T A ea).reads in
    let x = accepted_image T t A ha ea in
    let same : x.image ≡ a = cc (image_accepted T t x) in
    image_accepted T t (written_image T t x i e position s (wrote T t x i e position q))
    ∙ ap (λ (b : Image). done (placed b i (word_of e) position)) same
