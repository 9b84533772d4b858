-- Writing at a cursor: the laws for every function that fills a lent slice from its front.
-- Assumes nothing.
use mathlib.Core.Path.{◌≡◌, refl, sym, ap, ◌∙◌}
use mathlib.Core.List.{List, [], ◌∷◌, ◌++◌, append_assoc, append-nil}
use Prim.Native.Nat.{ℕ, ◌+◌, ◌-◌, ◌≤◌, ◌<◌}
use native.Mathlib.Omega.{arith}
use lib.ListN.{length, drop, set, get_or, length-append, length-take, length-drop}
use lib.Seq.{take_at, drop_at, drop-drop, set_at, drop-length}
use borrow.Rule.Slice.PartMut.{put_mid, mid_of}
use Rattle.octets.specs.Octets.{bytes}
use Rattle.octets.proofs.NumberLaws.{length_bytes}
use Rattle.octets.proofs.Cursors.{drop_next}

-- `out` is what `out₀` was, with `done` at its front, up to the cursor `o`
pub record Written (out₀ done : List ℕ) (o : ℕ) (out : List ℕ) : Type 0 where
  pub is : out ≡ done ++ drop o out₀
  pub len : length done ≡ o
  pub room : o ≤ length out₀

-- nothing is written yet
pub start : (out : List ℕ) → Written out [] 0 out
start out = record { is = refl; len = refl; room = omega arith }

module _ {out₀ done : List ℕ} {o : ℕ} {out : List ℕ} (w : Written out₀ done o out) where
  same_long : length out ≡ length out₀
  same_long = ap length w.is ∙ rw (length-append, length-drop) (omega arith)

  -- the part from o to e was lent and came back as zs
  pub append_at : {ys zs : List ℕ} → ys ≡ zs → (e : ℕ) → o + length zs ≡ e → e ≤ length out₀
      → Written out₀ (done ++ zs) e (put_mid o (e - o) out ys)
  append_at {ys} {zs} q e l h =
      let s : o + (e - o) ≡ e = omega arith in
      record {
        is =
            rw (
              q,
              w.is,
              take_at done (drop o out₀) o w.len,
              drop_at done (drop o out₀) o w.len,
              drop-drop (e - o) o out₀,
              s,
              append_assoc,
            );
        len = length-append done zs ∙ (omega arith);
        room = h;
      }

  -- a number was written by `put` in the part from o to e
  pub append_put : {ys : List ℕ} (v e : ℕ) → ys ≡ bytes (length (mid_of o (e - o) out)) v → o ≤ e → e ≤ length out₀
      → Written out₀ (done ++ bytes (e - o) v) e (put_mid o (e - o) out ys)
  append_put v e q s h =
      let n : length (mid_of o (e - o) out) ≡ e - o = rw (length-take, length-drop, same_long) (omega arith) in
      append_at (q ∙ ap (λ (m : ℕ). bytes m v) n) e (rw (length_bytes (e - o) v) (omega arith)) h

  -- one byte was stored at the cursor
  pub append_store : (v : ℕ) → o < length out₀ → Written out₀ (done ++ (v ∷ [])) (o + 1) (set out o v)
  append_store v h = record {
    is = rw (w.is, drop_next out₀ o h, set_at done (get_or out₀ o 0) (drop (o + 1) out₀) v o w.len, append_assoc);
    len = length-append done (v ∷ []) ∙ (omega arith);
    room = omega arith;
  }

  pub as_done : {d : List ℕ} → done ≡ d → Written out₀ d o out
  as_done e = rw e at w

  -- all is written
  pub filled : o ≡ length out₀ → out ≡ done
  filled e = w.is ∙ rw (e, drop-length, append-nil)

  -- the front is written and the rest is as it was
  pub front : out ≡ done ++ drop (length done) out₀
  front = w.is ∙ rw w.len

-- A loop that fills `part₀` with `whole`: `rest` is still to be written, from the cursor `o` on
pub record Filling (whole part₀ rest : List ℕ) (o : ℕ) (part : List ℕ) : Type 0 where
  pub done : List ℕ
  pub written : Written part₀ done o part
  pub split : whole ≡ done ++ rest
  pub fits : length part₀ ≡ length whole

pub begin : (whole part : List ℕ) → length part ≡ length whole → Filling whole part whole 0 part
begin whole part h = record { done = []; written = start part; split = refl; fits = h }

module _ {whole part₀ : List ℕ} {o : ℕ} {part : List ℕ} where
  pub along : {r s : List ℕ} → Filling whole part₀ r o part → r ≡ s → Filling whole part₀ s o part
  along f e =
      record {
        done = f.done;
        written = f.written;
        split = f.split ∙ ap (λ (l : List ℕ). f.done ++ l) e;
        fits = f.fits;
      }

  pub keeps : {r : List ℕ} → Filling whole part₀ r o part → length part ≡ length part₀
  keeps f = same_long f.written

  -- what is left to write fills exactly the room that is left
  pub has_room : {r : List ℕ} → Filling whole part₀ r o part → o + length r ≡ length part₀
  has_room {r} f = omega (arith, f.written.len, f.fits, simp length-append at (ap length f.split))

  -- the first of what is left was written
  pub write : {ys zs r : List ℕ} → Filling whole part₀ (zs ++ r) o part → ys ≡ zs → (e : ℕ) → o + length zs ≡ e
      → Filling whole part₀ r e (put_mid o (e - o) part ys)
  write {ys} {zs} {r} f q e l = record {
    done = f.done ++ zs;
    written = append_at f.written q e l (omega (arith, has_room f, length-append zs r));
    split = f.split ∙ sym (append_assoc f.done zs r);
    fits = f.fits;
  }

  -- nothing is left to write
  pub ended : Filling whole part₀ [] o part → part ≡ whole
  ended f = filled f.written (omega (arith, has_room f)) ∙ sym (f.split ∙ append-nil f.done)

-- from the cursor on, everything is still as it was
pub untouched : {out₀ done : List ℕ} {o : ℕ} {out : List ℕ} → Written out₀ done o out → (k : ℕ)
    → mid_of o k out ≡ mid_of o k out₀
untouched {out₀} {done} {o} w k = rw (w.is, drop_at done (drop o out₀) o w.len)
