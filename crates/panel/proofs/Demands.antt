-- Demand 2 over what the calls give: T and A are any bytes, `out` any output.
-- A write that answers 0 leaves an image at the front of the output.
-- From it the state written is read, and for every other object what was read before.
-- What was read, written at the image's position, gives the image's bytes.
-- Assumes nothing.
use Prim.Native.Nat.{ℕ, ◌^◌, ◌≤◌, ◌<◌}
use native.Mathlib.Omega.{arith}
use mathlib.Core.Path.{◌≡◌, sym, ap, ◌∙◌}
use mathlib.Core.List.{List, ◌++◌}
use Rattle.std.specs.Prelude.{Result, Ok}
use lib.ListN.{length, take, drop}
use borrow.Author.Tests.{le-leb}
use Rattle.octets.specs.Octets.{Bytes}
use Rattle.kinds.specs.declared.Element.{Element}
use Rattle.history.specs.declared.Answer.{Answer}
use Rattle.history.specs.Verdict.{Verdict, refused, done, then, unnamed, settled}
use Rattle.history.specs.Table.{Plan}
use Rattle.history.specs.Image.{Image, read_image}
use Rattle.history.specs.Calls.{read_plan, image_call, read_state_under, read_state_call, write_state_call}
use Rattle.history.proofs.CodeLaws.{write_call_coded, Delivered, delivered}
use Rattle.history.proofs.Demands.{write_then_read, others_stay, read_then_write}
use Rattle.history.proofs.OutputLaws.{Ran, refusal_stays}
use Rattle.history.proofs.ImageLaws.{image_is}
use Rattle.heads.specs.Heads.{position_in}
use Rattle.heads.proofs.Parts.{written_position}
use Rattle.history.proofs.VerdictLaws.{used}
use Rattle.panel.specs.Readings.{reading_of}

-- what `read_state` ensures of its reading
abbrev pub Read : List ℕ → List ℕ → ℕ → Result Element Answer → Type 0
Read T A i s = s ≡ reading_of (read_state_call T A i)

-- a reading that is a state comes from a call that gives it
state_read_lem : (v : Verdict Element) (e : Element) → Ok e ≡ reading_of v → v ≡ done e
unfolding reading_of
state_read_lem (refused r) e q = absurd (let z : ◌≡◌ {A = ℕ} 0 1 = cc in omega arith)
state_read_lem (done s) e q = cc

-- the image it was read from is accepted, and its position is the one in its bytes
read_image_lem : (T A : List ℕ) (i : ℕ) (e : Element) → Bytes A → read_state_call T A i ≡ done e
    → (a : Image) × (image_call T A ≡ done a) × (a.position ≡ position_in A)
unfolding read_state_call read_state_under image_call
read_image_lem T A i e h q =
    let t = used (read_plan T) _ q in
    let a = used (read_image t.0 A) _ t.2 in
    let w = image_is t.0 A h a.1 in (
      a.0,
      ap (λ (v : Verdict Plan). then v (λ p. read_image p A)) t.1 ∙ a.1,
      sym (ap position_in w.1 ∙ written_position w.0),
    )

module _ (T A : List ℕ) (i : ℕ) (e : Element) (position : ℕ) {out : List ℕ} {r : Answer} {m : List ℕ}
    (w : Ran (write_state_call T A i e position) out r m) where
  -- a refusal writes no output
  pub refused_writes_nothing : (r.code ≡ 0 → ⊥) → m ≡ out
  refused_writes_nothing n =
      w.leaves.1
      ∙ refusal_stays (write_state_call T A i e position) out
      (λ z. n (ap (λ (a : Answer). a.code) w.leaves.0 ∙ z))

  module _ (ok : r.code ≡ 0) where
    written : Delivered (write_state_call T A i e position) out r m
    written = delivered (write_call_coded T A i e position) w ok

    -- the output after the image stays as it was
    pub rest_stays : drop r.length m ≡ drop r.length out
    rest_stays = written.rest

    module _ (h : Bytes A) (small : position < 2 ^ 32) where
      -- the state written is read
      pub read_after_write : {s : Result Element Answer} → Read T (take r.length m) i s → s ≡ Ok e
      unfolding reading_of
      read_after_write q = q ∙ ap reading_of (write_then_read T A i e position h small written.bytes)

      -- every other object is read as before, refusals included
      pub others_after_write : (j : ℕ) → (j ≡ i → ⊥) → {s u : Result Element Answer} → Read T (take r.length m) j s
          → Read T A j u → s ≡ u
      others_after_write j n q p = q ∙ ap reading_of (others_stay T A i e position h small written.bytes j n) ∙ sym p

-- what was read, written at the image's position where there is room, gives the image's bytes
pub write_after_read : (T A : List ℕ) (i : ℕ) (e : Element) (out : List ℕ) {r : Answer} {m : List ℕ} → Bytes A
    → Read T A i (Ok e) → length A ≤ length out
    → Ran (write_state_call T A i e (position_in A)) out r m
    → (r ≡ unnamed 0 (length A)) × (m ≡ A ++ drop (length A) out)
unfolding settled
write_after_read T A i e out h q room w =
    let v = state_read_lem (read_state_call T A i) e q in
    let a = read_image_lem T A i e h v in
    let same : write_state_call T A i e (position_in A) ≡ done A =
    ap (write_state_call T A i e) (sym a.2) ∙ read_then_write T A i h a.1 v in (
      rw (le-leb (length A) (length out) room) at (rw same at w.leaves.0),
      rw (le-leb (length A) (length out) room) at (rw same at w.leaves.1),
    )
