-- Of elements that are refused the lowest object's is named: what is read of an image's elements is refused exactly
-- where some element is, with what the check of the first such one finds.
-- Assumes nothing.
use Prim.Native.Nat.{ℕ, zero, suc, ◌+◌, ◌<◌}
use native.Mathlib.Nat.{add-zero, add-suc, suc-add}
use native.Mathlib.Omega.{arith}
use mathlib.Core.Path.{◌≡◌, refl, sym, ap, ◌∙◌}
use mathlib.Core.Bool.{true}
use mathlib.Core.List.{List, [], ◌∷◌}
use mathlib.Core.Logic.{◌↔◌}
use lib.Dec.{eqb}
use lib.ListN.{length, take, drop}
use lib.Seq.{drop-drop}
use borrow.Author.Tests.{eq-eqb}
use Rattle.rows.specs.Values.{Finding}
use Rattle.std.proofs.Common.{Ok, Err}
use Rattle.rows.specs.declared.Refusal.{Refusal}
use Rattle.kinds.specs.Kinds.{width_of}
use Rattle.kinds.specs.declared.Kind.{Kind}
use Rattle.octets.specs.Octets.{number}
use Rattle.history.specs.Verdict.{Refused, refused, done, then}
use Rattle.history.specs.Form.{Form, read_form}
use Rattle.history.specs.Table.{Plan, kind_at, same_catalogue}
use Rattle.history.specs.Image.{image_version_good, element, found_in, ◌of◌⨾◌, widths, read_words}
use Rattle.history.specs.Image.{elements_from, read_image}
use Rattle.history.proofs.VerdictLaws.{passed_up}

-- what the check finds of object j's element, among the bytes of all
abbrev pub finding_at : List Kind → List ℕ → ℕ → Finding
finding_at ks b j = element (kind_at ks j) (number (take (width_of (kind_at ks j)) (drop (widths (take j ks)) b)))

-- object k's element is refused, and each lower object's is accepted
pub record FirstRefused (ks : List Kind) (b : List ℕ) (k : ℕ) (x : Refusal) : Type 0 where
  pub few : k < length ks
  pub here : finding_at ks b k ≡ Err x
  pub lower : (j : ℕ) → j < k → finding_at ks b j ≡ Ok tt

-- the elements after the first object's are those of the other objects
finding_next : (k : Kind) (ks : List Kind) (b : List ℕ) (j : ℕ)
    → finding_at (k ∷ ks) b (suc j) ≡ finding_at ks (drop (width_of k) b) j
finding_next k ks b j =
    ap (λ (c : List ℕ). element (kind_at ks j) (number (take (width_of (kind_at ks j)) c)))
    (sym (drop-drop (widths (take j ks)) (width_of k) b))

first_next : {k : Kind} {ks : List Kind} {b : List ℕ} {n : ℕ} {x : Refusal}
    → element k (number (take (width_of k) b)) ≡ Ok tt → FirstRefused ks (drop (width_of k) b) n x
    → FirstRefused (k ∷ ks) b (suc n) x
first_next {k} {ks} {b} {n} {x} e f =
    record { few = omega (arith, f.few); here = finding_next k ks b n ∙ f.here; lower = go }
  where
    go : (j : ℕ) → j < suc n → finding_at (k ∷ ks) b j ≡ Ok tt
    go zero h = e
    go (suc j) h = finding_next k ks b j ∙ f.lower j (omega arith)

first_rest : {k : Kind} {ks : List Kind} {b : List ℕ} {n : ℕ} {x : Refusal} → FirstRefused (k ∷ ks) b (suc n) x
    → FirstRefused ks (drop (width_of k) b) n x
first_rest {k} {ks} {b} {n} f =
    record {
      few = omega (arith, f.few);
      here = sym (finding_next k ks b n) ∙ f.here;
      lower = λ j h. sym (finding_next k ks b j) ∙ f.lower (suc j) (omega arith);
    }

-- a refusal of the elements of the objects from i on: which object's it is, and what its check found
pub record RefusedFirst (i : ℕ) (ks : List Kind) (b : List ℕ) (r : Refused) : Type 0 where
  pub object : ℕ
  pub finding : Refusal
  pub first : FirstRefused ks b object finding
  pub named : r ≡ found_in finding (i + object)

pub words_first : (i : ℕ) (ks : List Kind) (b : List ℕ) {r : Refused} → read_words i ks b ≡ refused r
    → RefusedFirst i ks b r
words_first i [] b e = absurd (let z : ◌≡◌ {A = ℕ} 0 1 = cc in omega arith)
words_first i (k ∷ ks) b {r} e =
    go (element k (number (take (width_of k) b))) refl (words_first (suc i) ks (drop (width_of k) b)) e
  where
    go : (v : Finding) → element k (number (take (width_of k) b)) ≡ v
        → (read_words (suc i) ks (drop (width_of k) b) ≡ refused r → RefusedFirst (suc i) ks (drop (width_of k) b) r)
        → (v of i ⨾ then (read_words (suc i) ks (drop (width_of k) b)) (λ ws. done (number (take (width_of k) b) ∷ ws)))
        ≡ refused r
        → RefusedFirst i (k ∷ ks) b r
    go (Err x) q later e =
        record {
          object = 0;
          finding = x;
          first = record { few = omega arith; here = q; lower = λ j h. absurd (omega arith) };
          named = cc (add-zero i);
        }
    go (Ok tt) q later e =
        let f = later (passed_up (read_words (suc i) ks (drop (width_of k) b)) _ e) in
        record {
          object = suc f.object;
          finding = f.finding;
          first = first_next q f.first;
          named = f.named ∙ ap (found_in f.finding) (suc-add i f.object ∙ sym (add-suc i f.object));
        }

pub words_refused : (i : ℕ) (ks : List Kind) (b : List ℕ) (k : ℕ) {x : Refusal} → FirstRefused ks b k x
    → read_words i ks b ≡ refused (found_in x (i + k))
words_refused i [] b k f = absurd (omega (arith, f.few))
words_refused i (k ∷ ks) b zero f = rw (f.here, add-zero i)
words_refused i (k ∷ ks) b (suc n) {x} f =
    rw (f.lower 0 (omega arith), words_refused (suc i) ks (drop (width_of k) b) n (first_rest f))
    (ap (λ (j : ℕ). refused (found_in x j)) (suc-add i n ∙ sym (add-suc i n)))

-- an image with a good head and as many bytes as its elements take
pub image_refused : (p : Plan) (b : List ℕ) {f : Form} → read_form 7 image_version_good b ≡ done f
    → same_catalogue f p ≡ true → length f.contents ≡ elements_from f.version + widths p.kinds → (r : Refused)
    → (read_image p b ≡ refused r) ↔ RefusedFirst 0 p.kinds (drop (elements_from f.version) f.contents) r
unfolding read_image
image_refused p b {f} e c long r =
    let size : eqb (length f.contents) (elements_from f.version + widths p.kinds) ≡ true =
    eq-eqb _ _ long in (
      (λ q. words_first 0 p.kinds _ (passed_up (read_words 0 p.kinds _) _ (rw (e, c, size) at q))),
      (λ w. rw (e, c, size, words_refused 0 p.kinds _ w.object w.first) (sym (ap refused w.named))),
    )
