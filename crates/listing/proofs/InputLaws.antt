-- The input's tests in the code's order, and the text in a lent buffer.
-- Assumes nothing.
use Prim.Native.Nat.{ℕ, ◌+◌, ◌-◌, ◌≤◌, ◌<◌}
use native.Mathlib.Omega.{arith}
use mathlib.Core.Path.{◌≡◌, refl, sym, ap, ap₂, ◌∙◌}
use mathlib.Core.Bool.{true, false}
use mathlib.Core.List.{List, ◌++◌}
use Rattle.std.specs.Prelude.{Ok, Err}
use lib.Dec.{leb}
use lib.ListN.{length, take, drop, replicate, length-append, length-drop, length-replicate}
use lib.Seq.{sets-eq, length-take-le, take_all, take-append_seam, drop-append_seam}
use borrow.Author.Tests.{le-leb, lt-leb}
use Rattle.octets.specs.Octets.{number}
use Rattle.history.specs.declared.Answer.{Answer}
use Rattle.history.specs.Verdict.{Verdict, refused, done, refusal, numbers, settled, given, put, Puts}
use Rattle.history.proofs.OutputLaws.{refusal_told, given_done, check_puts}
use Rattle.text.specs.Wrote.{Wrote}
use Rattle.listing.specs.Listing.{read_both, table_size, read_panel, refused_line, text_of, listing_call, printed}
use Rattle.listing.specs.Listing.{listing_of}
use Rattle.listing.specs.Output.{Listed, in_front, listed, ListedInto}
use Rattle.listing.proofs.Fits.{listing_fits, text_fits}

module _ (input : List ℕ) where
  pub above : 65536 < length input → listing_call input ≡ refusal 1
  unfolding listing_call read_panel
  above h = rw (lt-leb (length input) 65536 h)

  module _ (few : length input ≤ 65536) where
    pub under_four : length input < 4 → listing_call input ≡ refusal 1
    unfolding listing_call read_panel
    under_four h = rw (le-leb (length input) 65536 few, lt-leb 4 (length input) h)

    module _ (four : 4 ≤ length input) {n : ℕ} (n-is : n ≡ number (take 4 input)) where
      pub unsplit : length input < 4 + n → listing_call input ≡ refusal 1
      unfolding listing_call read_panel
      unsplit h =
          let short : leb (table_size input) (length input) ≡ false =
          lt-leb (table_size input) (length input) (omega arith) in
          rw (le-leb (length input) 65536 few, le-leb 4 (length input) four, short)

      pub split : 4 + n ≤ length input
          → text_of (read_both (take (4 + n) input) (take (length input - (4 + n)) (drop (4 + n) input)))
          ≡ listing_call input
      unfolding listing_call read_panel
      split h =
          let long : leb (table_size input) (length input) ≡ true =
          le-leb (table_size input) (length input) (omega arith) in
          let rest : take (length input - (4 + n)) (drop (4 + n) input) ≡ drop (4 + n) input =
          take_all (length input - (4 + n)) (drop (4 + n) input) (omega (arith, length-drop (4 + n) input)) in
          let panel : read_panel input ≡ read_both (take (table_size input) input) (drop (table_size input) input) =
          rw (le-leb (length input) 65536 few, le-leb 4 (length input) four, long) in
          rw rest (ap (λ (m : ℕ). text_of (read_both (take (4 + m) input) (drop (4 + m) input))) n-is)
          ∙ sym (ap text_of panel)

-- ---- an output that every listing fits in

-- there a refusal comes from the input, never from a short output
roomy : (v : Verdict (List ℕ)) (out : List ℕ) → ((text : List ℕ) → v ≡ done text → length text ≤ length out)
    → put v out ≡ given length v
unfolding put
roomy (refused r) out fits = refl
roomy (done text) out fits = rw (le-leb (length text) (length out) (fits text refl)) refl

room_puts : (input out : List ℕ) → 65536 ≤ length out → put (listing_call input) out ≡ given length (listing_call input)
room_puts input out room = roomy (listing_call input) out (λ text e. omega (arith, text_fits input e))

-- what success leaves in the output
settled_front : {v : Verdict (List ℕ)} {text : List ℕ} (out : List ℕ) → v ≡ done text → length text ≤ length out
    → (settled v out).output ≡ text ++ drop (length text) out
unfolding settled
settled_front {text = text} out e h = rw (e, le-leb (length text) (length out) h)

record Front (input out : List ℕ) (n : ℕ) (m : List ℕ) : Type 0 where
  text : List ℕ
  is : listing_call input ≡ done text
  size : n ≡ length text
  output : m ≡ text ++ drop n out

-- once it is put into an output with room
module _ (input out : List ℕ) (room : 65536 ≤ length out) {m : List ℕ} where
  -- a refusal is that of any output
  pub refusal_puts : {a : Answer} → Puts (listing_call input) out (Err a) m → (other : List ℕ)
      → Puts (listing_call input) other (Err a) other
  refusal_puts left other = check_puts (listing_call input) length other (left.0 ∙ room_puts input out room)

  module _ {n : ℕ} (left : Puts (listing_call input) out (Ok n) m) where
    front : Front input out n m
    front =
        let q = given_done (listing_call input) length (left.0 ∙ room_puts input out room) in
        record {
          text = q.0;
          is = q.1;
          size = sym q.2;
          output =
              left.1 ∙ settled_front out q.1 (omega (arith, text_fits input q.1))
              ∙ ap (λ (n : ℕ). q.0 ++ drop n out) q.2;
        }

    -- the text in the output
    pub text_is : done (take n m) ≡ listing_call input
    text_is = ap done (ap₂ take front.size front.output ∙ take-append_seam front.text (drop n out)) ∙ sym front.is

    pub text_inside : n ≤ length m
    text_inside = omega (arith, front.size, ap length front.output, length-append front.text (drop n out))

    pub text_sized : n ≡ length (take n m)
    text_sized = sym (length-take-le n m text_inside)

-- the buffer of zeros is long enough
pub zeros_room : 65536 ≤ length {A = ℕ} (replicate 65536 0)
zeros_room = omega (arith, length-replicate {A = ℕ} 65536 0)

-- ---- what is printed

listed_short : (input out : List ℕ) → length out < 65536 → listed input out ≡ record { size = 0; output = out }
unfolding listed
listed_short input out h = rw (lt-leb 65536 (length out) h)

listed_room : (input out : List ℕ) → 65536 ≤ length out → listed input out ≡ in_front (listing_of input) out
unfolding listed
listed_room input out h = rw (le-leb 65536 (length out) h)

-- if there is room, the text is in front and the rest is as it was
pub text_in_front : (input out : List ℕ) → 65536 ≤ length out
    → (take (listed input out).size (listed input out).output ≡ listing_of input)
    × (drop (listed input out).size (listed input out).output ≡ drop (listed input out).size out)
text_in_front input out h =
    rw (listed_room input out h) (
      take-append_seam (listing_of input) (drop (length (listing_of input)) out),
      drop-append_seam (listing_of input) (drop (length (listing_of input)) out),
    )

pub stays : (input out : List ℕ) → length out < 65536 → ListedInto input out out 0
stays input out h =
    let e = sym (listed_short input out h) in
    record { size = ap (λ (l : Listed). l.size) e; output = ap (λ (l : Listed). l.output) e; inside = omega arith }

-- the line of a refusal has its numbers, and a refusal writes nothing
refused_by : (v : Verdict (List ℕ)) (out : List ℕ) {a : Answer} → Err a ≡ given length v
    → (printed v ≡ refused_line a.code a.object a.bit) × ((settled v out).output ≡ out)
unfolding printed
refused_by (refused r) out {a} e =
    let same : numbers r 0 ≡ a = cc in
    (ap (λ (a : Answer). refused_line a.code a.object a.bit) same, (refusal_told r out refl).1)
refused_by (done b) out e = absurd (let z : ◌≡◌ {A = ℕ} 0 1 = cc in omega arith)

module _ {input out₀ out : List ℕ} {r : ℕ} (h : 65536 ≤ length out₀) where
  in_front_lem : r ≡ length (listing_of input) → out ≡ listing_of input ++ drop r out₀ → ListedInto input out₀ out r
  in_front_lem size output =
      let e = sym (listed_room input out₀ h) in
      let here = output ∙ ap (λ (n : ℕ). listing_of input ++ drop n out₀) size in
      record {
        size = size ∙ ap (λ (l : Listed). l.size) e;
        output = here ∙ ap (λ (l : Listed). l.output) e;
        inside = omega (arith, ap length output, length-append (listing_of input) (drop r out₀));
      }

module _ (input out₀ : List ℕ) {m : List ℕ} (room : 65536 ≤ length out₀) where
  pub text_printed : {n : ℕ} → Puts (listing_call input) out₀ (Ok n) m → ListedInto input out₀ m n
  unfolding listing_of printed
  text_printed {n} left =
      let w = front input out₀ room left in
      let text : w.text ≡ listing_of input = sym (ap printed w.is) in
      in_front_lem room (w.size ∙ ap length text) (w.output ∙ ap (λ (b : List ℕ). b ++ drop n out₀) text)

  -- a refusal has left the output as it was, and its line is written
  pub line_printed : {a : Answer} → Puts (listing_call input) out₀ (Err a) m → {n : List ℕ} {q : ℕ}
      → Wrote m 0 (refused_line a.code a.object a.bit) n q → ListedInto input out₀ n q
  unfolding listing_of
  line_printed {a} left {n} {q} w =
      let line : List ℕ = refused_line a.code a.object a.bit in
      let r = refused_by (listing_call input) out₀ (left.0 ∙ room_puts input out₀ room) in
      let text : listing_of input ≡ line = r.0 in
      let same : m ≡ out₀ = left.1 ∙ r.1 in
      let zero : 0 + length line ≡ length line = omega arith in
      let fits : 0 + length line ≤ length m = omega (arith, listing_fits input, ap length text, ap length same) in
      let output : n ≡ line ++ drop q m =
      w.text ∙ sets-eq line m 0 fits ∙ ap (λ (k : ℕ). line ++ drop k m) (sym w.next) in
      in_front_lem room (w.next ∙ zero ∙ ap length (sym text))
      (output ∙ ap₂ (λ (b o : List ℕ). b ++ drop q o) (sym text) same)
