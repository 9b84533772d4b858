-- A list at the front of the output: its head, its entries and its length.
-- Assumes nothing.
use Prim.Native.Nat.{ℕ, ◌+◌, ◌-◌, ◌≤◌, ◌<◌}
use Rattle.kinds.specs.declared.Kind.{Kind}
use native.Mathlib.Omega.{arith}
use mathlib.Core.Path.{◌≡◌, refl, sym, ap, ap₂, ◌∙◌}
use mathlib.Core.List.{List, ◌++◌}
use lib.ListN.{length, length-append}
use borrow.Rule.Slice.PartMut.{put_mid}
use Rattle.std.specs.Prelude.{Ok, Err}
use Rattle.octets.proofs.Writing.{start, append_at, as_done}
use Rattle.history.specs.declared.Answer.{Answer}
use Rattle.history.specs.Verdict.{done, unnamed, put, settled}
use Rattle.history.proofs.OutputLaws.{short_puts, written_puts}
use Rattle.heads.specs.Heads.{entries_place}
use Rattle.heads.specs.Written.{list_head}
use Rattle.heads.proofs.WrittenLaws.{length_head, list_split}
use Rattle.steps.specs.declared.Walk.{Walk}
use Rattle.walks.specs.Walks.{walked, walk_bytes, Measured}
use Rattle.outputs.specs.Outputs.{walk_list}

module _ (walk : Walk) (x y : ℕ) (ks : List Kind) (from to : ℕ) (f s : List ℕ) {count size : ℕ}
    (m : Measured walk ks f s count size) {place : ℕ} (p : place ≡ entries_place) where
  list_is : walk_list walk x y ks from to f s ≡ list_head x y from to count size ++ walk_bytes walk 0 ks f s
  unfolding walk_list
  list_is = rw (m.entries, m.bytes) (list_split x y ks from to (walked walk 0 ks f s))

  length_list : length (walk_list walk x y ks from to f s) ≡ place + size
  length_list =
      ap length list_is ∙ length-append (list_head x y from to count size) _
      ∙ ap₂ ◌+◌ (length_head x y from to count size ∙ sym p) (sym m.bytes)

  module _ (out : List ℕ) where
    -- there is no room
    pub short_answer : {r : Answer} → length out < place + size → r ≡ unnamed 21 (place + size)
        → Err r ≡ put (done (walk_list walk x y ks from to f s)) out
    short_answer room e = (short_puts _ out length_list room (ap Err e)).0

    pub short_output : length out < place + size → out ≡ (settled (done (walk_list walk x y ks from to f s)) out).output
    short_output room = (short_puts _ out length_list room refl).1

    pub list_answer : place + size ≤ length out → Ok (place + size) ≡ put (done (walk_list walk x y ks from to f s)) out
    list_answer room = (written_puts _ out length_list room refl refl).0

    -- the head, then the entries
    pub list_output : place + size ≤ length out → {hs es : List ℕ} → hs ≡ list_head x y from to count size
        → es ≡ walk_bytes walk 0 ks f s
        → put_mid place (place + size - place) (put_mid 0 (place - 0) out hs) es
        ≡ (settled (done (walk_list walk x y ks from to f s)) out).output
    list_output room eh ee =
        let w₁ = append_at (start out) eh place (omega (arith, length_head x y from to count size)) (omega arith) in
        let w₂ = append_at w₁ ee (place + size) (omega (arith, m.bytes)) room in
        (written_puts _ out length_list room refl (as_done w₂ (sym list_is)).is).1
