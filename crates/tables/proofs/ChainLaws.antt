-- The entries passed, chained by their hashes. Equal objects have equal hashes, so a repeat is in the chain.
-- Assumes nothing.
use Prim.Native.Nat.{ℕ, suc, ◌+◌, ◌-◌, ◌≤◌, ◌<◌}
use native.Mathlib.Omega.{arith}
use native.Mathlib.Nat.{eq-or-lt_of_le, eq-zero-or-pos}
use mathlib.Core.Path.{◌≡◌, refl, sym, ap, ◌∙◌}
use mathlib.Core.Bool.{Bool, true, false, not-eq-not}
use mathlib.Core.List.{List}
use mathlib.Core.Logic.{⊎_elim}
use lib.Dec.{eqb}
use lib.ListN.{length, get_or, set, replicate, length-set, length-replicate, get_or-replicate}
use lib.Seq.{get_or-set_same, get_or-set_other}
use borrow.Author.Tests.{eqb-true, eqb-false}
use Rattle.history.specs.Table.{Object}
use Rattle.history.proofs.TableLaws.{object_eq}
use Rattle.tables.specs.Places.{place_of, hash_at}
use Rattle.tables.specs.Hashes.{hash_of}
use Rattle.tables.proofs.PlaceLaws.{object_of, place_behind, place_before}
use Rattle.tables.proofs.LabelLaws.{hash_few}
use Rattle.tables.proofs.RepeatLaws.{same}

-- ---- hashes

-- the hash of object k
abbrev pub hash : List ℕ → ℕ → ℕ
hash b k = hash_at b (place_of b k)

hash_same : (b : List ℕ) (j k : ℕ) → same b j k ≡ true → hash b j ≡ hash b k
unfolding hash_at
hash_same b j k e = ap (λ (o : Object). hash_of o.type o.label) (object_eq (object_of b j) (object_of b k) e)

pub other_hash : (b : List ℕ) (j k : ℕ) → (hash b j ≡ hash b k → ⊥) → same b j k ≡ false
other_hash b j k n = (not-eq-not {b = false}).0 (λ e. n (hash_same b j k e))

-- ---- chains

-- of the first n entries the l-th is the last that has hash h; l is 0 if none has
pub record Last (b : List ℕ) (h n l : ℕ) : Type 0 where
  pub low : l ≤ n
  pub skip : (i : ℕ) → l ≤ i → i < n → hash b i ≡ h → ⊥
  pub is : (i : ℕ) → l ≡ suc i → hash b i ≡ h

-- k entries are passed: the last of each hash; for each entry the last of its hash before it, and where it begins
pub record Chained (b : List ℕ) (k : ℕ) (lasts links starts : List ℕ) : Type 0 where
  pub lasts_room : length lasts ≡ 1024
  pub links_room : length links ≡ 1024
  pub starts_room : length starts ≡ 1024
  pub head : (h : ℕ) → h < 1024 → Last b h k (get_or lasts h 0)
  pub link : (i : ℕ) → i < k → Last b (hash b i) i (get_or links i 0)
  pub start : (i : ℕ) → i < k → get_or starts i 0 ≡ place_of b i
  pub none : k ≤ 0 → (get_or links 0 0 ≡ 0) × (get_or starts 0 0 ≡ 0)

pub chain_begins : (b : List ℕ) → Chained b 0 (replicate 1024 0) (replicate 1024 0) (replicate 1024 0)
chain_begins b =
    let zero-at : (i : ℕ) → i < 1024 → get_or (replicate {A = ℕ} 1024 0) i 0 ≡ 0 =
    λ i l. get_or-replicate {A = ℕ} 1024 i 0 0 l in
    record {
      lasts_room = length-replicate {A = ℕ} 1024 0;
      links_room = length-replicate {A = ℕ} 1024 0;
      starts_room = length-replicate {A = ℕ} 1024 0;
      head =
          λ h l. rw (zero-at h l)
          (record { low = omega arith; skip = λ i lo hi. absurd (omega arith); is = λ i e. absurd (omega arith) });
      link = λ i l. absurd (omega arith);
      start = λ i l. absurd (omega arith);
      none = λ l. (zero-at 0 (omega arith), zero-at 0 (omega arith));
    }

module _ (b : List ℕ) (k : ℕ) where
  last_here : Last b (hash b k) (k + 1) (k + 1)
  last_here =
      record {
        low = omega arith;
        skip = λ i lo hi. absurd (omega arith);
        is = λ i f. let s : i ≡ k = omega arith in
            ap (hash b) s;
      }

  last_other : (h l : ℕ) → (h ≡ hash b k → ⊥) → Last b h k l → Last b h (k + 1) l
  last_other h l n p = record {
    low = omega (arith, p.low);
    skip =
        λ i lo hi f. ⊎_elim (λ s. n (sym f ∙ ap (hash b) s)) (λ lt. p.skip i lo lt f)
        (let y : i ≤ k = omega arith in eq-or-lt_of_le y);
    is = p.is;
  }

module _ {b : List ℕ} {k : ℕ} {lasts links starts : List ℕ} (c : Chained b k lasts links starts) where
  -- links lead to lower entries, and entries begin before the cursor; also what is read at j = 0, which is no entry
  pub head_low : (h : ℕ) → h < 1024 → get_or lasts h 0 ≤ k
  head_low h l = (c.head h l).low

  module _ (j : ℕ) (m : j ≤ k) where
    pub link_low : get_or links (j - 1) 0 ≤ j - 1
    link_low =
        ⊎_elim (λ e. let first : j - 1 ≡ 0 = omega arith in rw first (omega (arith, (c.none (omega arith)).0)))
        (λ l. (c.link (j - 1) (omega arith)).low) (eq-zero-or-pos k)

    pub start_low : (at : ℕ) → at ≡ place_of b k → get_or starts (j - 1) 0 + 2 ≤ at
    start_low at e =
        ⊎_elim
        (λ z. let first : j - 1 ≡ 0 = omega arith in
        rw first (omega (arith, (c.none (omega arith)).1, place_behind b k at e)))
        (λ l. omega (
          arith,
          place_before b (j - 1) k (get_or starts (j - 1) 0) at _ (omega arith)
              (c.start (j - 1) (omega arith)) e refl,
        ))
        (eq-zero-or-pos k)

  -- one more entry, of hash h, at its place
  pub chain_next : k < 1024 → (h at : ℕ) → h ≡ hash b k → at ≡ place_of b k
      → Chained b (k + 1) (set lasts h (k + 1)) (set links k (get_or lasts h 0)) (set starts k at)
  chain_next few h at e p = record {
    lasts_room = length-set lasts h (k + 1) ∙ c.lasts_room;
    links_room = length-set links k (get_or lasts h 0) ∙ c.links_room;
    starts_room = length-set starts k at ∙ c.starts_room;
    head = λ x l. head_at x l (eqb x h) refl;
    link =
        λ i l. ⊎_elim (λ s. link_here i s)
        (λ lt. rw (get_or-set_other links k i (get_or lasts h 0) 0 (λ s. omega arith)) (c.link i lt))
        (let y : i ≤ k = omega arith in eq-or-lt_of_le y);
    start =
        λ i l. ⊎_elim (λ s. rw s (get_or-set_same starts k at 0 (omega (arith, c.starts_room)) ∙ p))
        (λ lt. get_or-set_other starts k i at 0 (λ s. omega arith) ∙ c.start i lt)
        (let y : i ≤ k = omega arith in eq-or-lt_of_le y);
    none = λ l. absurd (omega arith);
  }
    where
      small : h < 1024
      small = omega (arith, hash_few b (place_of b k))

      head_at : (x : ℕ) → x < 1024 → (t : Bool) → eqb x h ≡ t → Last b x (k + 1) (get_or (set lasts h (k + 1)) x 0)
      head_at x l true t =
          let s : x ≡ h = eqb-true x h t in
          rw (s, get_or-set_same lasts h (k + 1) 0 (omega (arith, c.lasts_room)), e) (last_here b k)
      head_at x l false t =
          let n = eqb-false x h t in
          rw (get_or-set_other lasts h x (k + 1) 0 n)
          (last_other b k x (get_or lasts x 0) (λ f. n (f ∙ sym e)) (c.head x l))

      link_here : (i : ℕ) → i ≡ k → Last b (hash b i) i (get_or (set links k (get_or lasts h 0)) i 0)
      link_here i s =
          rw (s, get_or-set_same links k (get_or lasts h 0) 0 (omega (arith, c.links_room)), ← e) (c.head h small)
