-- What an accepted table and image are read as, where the parts are in their bytes, and the
-- answer if either is refused.
-- Assumes nothing.
use Prim.Native.Nat.{ℕ, ◌+◌, ◌≤◌}
use native.Mathlib.Omega.{arith}
use mathlib.Core.Path.{◌≡◌, refl, sym, ap, ◌∙◌}
use mathlib.Core.List.{List, ◌++◌}
use Rattle.std.specs.Prelude.{Result, Ok, Err}
use lib.ListN.{length, drop, get_or, length-map}
use lib.Seq.{sets-eq}
use mir.Syntax.{w8}
use mir.Val.{Fits}
use Rattle.elements.specs.Elements.{kind_of}
use Rattle.history.specs.declared.Answer.{Answer}
use Rattle.history.specs.Verdict.{Verdict, refused, done, then, told, checked, put, settled, Puts, decide, numbers}
use Rattle.history.specs.Table.{Object, Table, Plan, objects_bytes, read_table, plan_of}
use Rattle.history.specs.Image.{Image, words_bytes, read_image, Every, admits}
use Rattle.history.specs.Calls.{read_plan, image_call}
use Rattle.history.proofs.VerdictLaws.{used}
use Rattle.history.proofs.TableLaws.{table_is}
use Rattle.history.proofs.OutputLaws.{puts_as, written_puts}
use Rattle.heads.specs.Heads.{objects_place, image_head, position_in, elements_in}
use Rattle.heads.proofs.Parts.{written_objects, position_in_lem, elements_in_lem, image_inside}
use Rattle.tables.proofs.AnswerLaws.{told_then}
use Rattle.forms.proofs.UnderPlan.{image_read}
use Rattle.forms.proofs.Accepted.{image_accepted}
use Rattle.text.specs.Grew.{Grew}
use Rattle.text.specs.Wrote.{Wrote}
use Rattle.text.specs.declared.Page.{Page}
use Rattle.text.proofs.Laws.{grew_then, grew_front}
use Rattle.listing.specs.Listing.{Panel, read_both, first_line, panel_text, text_of}
use Rattle.listing.specs.Walk.{Ready, lines_in}
use Rattle.listing.proofs.Fits.{lines_end}

-- ---- what is refused

panel_image : (v : Verdict Table) (f : Plan → Verdict Image)
    → then (then v (λ t. done (plan_of t))) f
    ≡ then {A = Panel} (then v (λ t. then (f (plan_of t)) λ a. done (record { table = t; image = a })))
    (λ p. done p.image)
panel_image (refused r) f = refl
panel_image (done t) f = at (f (plan_of t))
  where
    at : (w : Verdict Image)
        → w ≡ then {A = Panel} (then w (λ a. done (record { table = t; image = a }))) (λ p. done p.image)
    at (refused r) = refl
    at (done a) = refl

-- the image's check reads both forms, and gives the image
pub image_in : (t a : List ℕ) → image_call t a ≡ then (read_both t a) (λ p. done p.image)
unfolding read_both image_call read_plan
image_in t a = panel_image (read_table t) (λ p. read_image p a)

-- so a listing of both is refused as the image's check refuses
pub both_told : (t a : List ℕ) → told (image_call t a) ≡ told (text_of (read_both t a))
both_told t a =
    ap told (image_in t a) ∙ told_then (read_both t a) (λ (p : Panel). p.image)
    ∙ sym (told_then (read_both t a) (λ (p : Panel). panel_text p.table p.image))

-- both are refused as the table or the image under its plan is; the first part shows `grind` what the law is about
pub both_checked : (b a : List ℕ)
    → (read_both b a ≡ read_both b a)
    × (checked (read_both b a) ≡ checked (then (read_plan b) λ p. read_image p a))
both_checked b a = (refl, at (read_both b a) ∙ ap checked (sym (image_in b a) ∙ image_read b a))
  where
    at : (v : Verdict Panel) → checked v ≡ checked (then v λ p. done p.image)
    at (refused r) = refl
    at (done p) = refl

-- a refusal is what is told, and leaves the output as it was
pub refusal_put : (v : Verdict (List ℕ)) (out : List ℕ)
    → put v out ≡ decide v (λ r. Err (numbers r 0)) (λ b. put v out)
unfolding put
refusal_put (refused r) out = refl
refusal_put (done b) out = refl

pub refusal_settled : (v : Verdict (List ℕ)) (out : List ℕ)
    → settled v out ≡ decide v (λ r. record { answer = numbers r 0; output = out }) (λ b. settled v out)
unfolding settled
refusal_settled (refused r) out = refl
refusal_settled (done b) out = refl

-- what `put_panel` goes by, whatever form its refusals have
pub ruleset refusals = (both_checked, refusal_put, refusal_settled)

-- ---- an accepted table and image

-- the table and the image, and their parts in the bytes
pub record Read (b a : List ℕ) (p : Plan) : Type 0 where
  pub table : Table
  pub image : Image
  pub reads : read_both b a ≡ done (record { table = table; image = image })
  pub plan : plan_of table ≡ p
  pub count : length table.objects ≡ length p.kinds
  pub position : position_in a ≡ image.position
  pub entries : drop objects_place b ≡ objects_bytes table.objects
  pub elements : elements_in a ≡ words_bytes p.kinds image.words
  pub each : Every admits p.kinds image.words

both_read : (b a : List ℕ) {t : Table} {p : Plan} {i : Image} → read_table b ≡ done t → plan_of t ≡ p
    → read_image p a ≡ done i
    → read_both b a ≡ done (record { table = t; image = i })
unfolding read_both
both_read b a e f g = rw (e, f, g)

plan_length : (t : Table) → length t.objects ≡ length (plan_of t).kinds
unfolding plan_of
plan_length t = sym (length-map t.objects (λ (o : Object). kind_of t.x o.type))

-- each number is a byte, as the code knows of a slice
abbrev pub Held : List ℕ → Type 0
Held b = (i : ℕ) → Fits w8 (get_or b i 0)

pub read_as : {b a : List ℕ} {p : Plan} → Ready b a p → Held b → Held a → Read b a p
unfolding read_plan
read_as {b} {a} {p} r hb ha =
    let t = used (read_table b) _ r.plan in
    let plan : plan_of t.0 ≡ p = cc t.2 in
    let b-is = (table_is b t.1).same (λ i. (hb i).fits) in
    let i = image_accepted p a ha r.image in
    record {
      table = t.0;
      image = i.image;
      reads = both_read b a t.1 plan i.reads;
      plan = plan;
      count = plan_length t.0 ∙ ap (λ (p : Plan). length p.kinds) plan;
      position = position_in_lem i;
      entries = ap (drop objects_place) b-is ∙ written_objects t.0;
      elements = elements_in_lem i;
      each = i.legal.words;
    }

pub position_inside : {b a : List ℕ} {p : Plan} → Ready b a p → Held a → image_head a ≤ length a
position_inside {a = a} {p = p} r ha = image_inside (image_accepted p a ha r.image)

-- ---- its text

text_in : {b a : List ℕ} {p : Plan} → Read b a p
    → text_of (read_both b a)
    ≡ done (first_line p.x p.y (position_in a) (length p.kinds) ++ lines_in (read_both b a))
unfolding lines_in plan_of
text_in {b} {a} r =
    ap text_of r.reads
    ∙ (λ j. done
    (first_line (r.plan j).x (r.plan j).y (sym r.position j) (r.count j) ++ lines_in (sym r.reads j)))

-- a text that is written from the front on and fits
wrote_puts : {v : Verdict (List ℕ)} {text l m : List ℕ} {q : ℕ} → v ≡ done text → Wrote l 0 text m q → q ≤ length l
    → {r : Result ℕ Answer} → r ≡ Ok q → Puts v l r m
wrote_puts {text = text} {l} e w h q =
    let zero : 0 + length text ≡ length text = omega arith in
    let long : length text ≡ _ = sym (w.next ∙ zero) in
    let here = w.text ∙ sets-eq text l 0 (omega (arith, w.next)) ∙ ap (λ (n : ℕ). text ++ drop n l) (zero ∙ long) in
    puts_as l (sym e) (written_puts text l long h q here)

-- the first line and those below it are all that is written, into a page that begins at the buffer's front
pub lines_put : {b a : List ℕ} {p : Plan} → Ready b a p → Held b → Held a → {position : ℕ} → position ≡ position_in a
    → {l n : List ℕ} {q s t : Page} → 65536 ≤ length l → q.out.now ≡ l → q.at ≡ 0
    → Grew q (first_line p.x p.y position (length p.kinds)) s → Grew s (lines_in (read_both b a)) t
    → n ≡ t.out.now → {size : ℕ} → size ≡ t.at
    → Puts (text_of (read_both b a)) l (Ok size) n
lines_put {b} {a} {p} ready hb ha {position} e {l} h front begins w v left size =
    let text =
    text_in (read_as ready hb ha)
    ∙ ap (λ (k : ℕ). done
    (first_line p.x p.y k (length p.kinds) ++ lines_in (read_both b a))) (sym e) in
    let end = lines_end b a p.x p.y position (length p.kinds) begins w v in
    wrote_puts text (grew_front front begins (grew_then w v) left size) (omega (arith, end)) refl
