-- Two lists join exactly where some image takes first one and then the other; a join turned back.
-- Assumes nothing.
use Prim.Native.Nat.{ℕ, suc}
use native.Mathlib.Omega.{arith}
use mathlib.Core.Path.{◌≡◌, refl, sym, ap, ap₂}
use mathlib.Core.Bool.{Bool, true, false}
use mathlib.Core.List.{List, [], ◌∷◌, map, zip_with}
use mathlib.Core.Logic.{◌↔◌}
use lib.Dec.{eqb}
use borrow.Author.Tests.{eq-eqb, ne_eqb, eqb-true, eqb-false}
use Rattle.kinds.specs.declared.Kind.{Kind}
use Rattle.history.specs.Verdict.{Refused, Verdict, refused, done, then, refusal, ◌unless◌⨾◌}
use Rattle.history.specs.Table.{Plan}
use Rattle.history.specs.Image.{Image, image_version_good, Every, nil, and, admits, LegalImage}
use Rattle.history.specs.declared.Change.{Change}
use Rattle.history.specs.declared.Change.TheVariants.{Keep as keep, Swap as swap}
use Rattle.history.specs.Changes.{Changes, lawful, LegalList, fits, after, meets, joined, back, lowest}
use Rattle.history.specs.Changes.{difference, applied, join, turned}
use Rattle.history.proofs.ElementLaws.{zero_admitted}
use Rattle.history.proofs.ChangeLaws.{lawful_swap, back_differ}
use Rattle.history.proofs.OperationLaws.{taking, joins, join_taken}

-- ---- an image that takes both

-- elements without data for all objects: `silent`, an image of these, is legal under any plan
abbrev zeros : List Kind → List ℕ
zeros [] = []
zeros (k ∷ ks) = 0 ∷ zeros ks

zeros_admitted : (ks : List Kind) → Every admits ks (zeros ks)
zeros_admitted [] = nil
zeros_admitted (k ∷ ks) = and (zero_admitted k) (zeros_admitted ks)

abbrev pub silent : Plan → Image
silent p = record { version = 1; position = 0; words = zeros p.kinds }

silent_legal : (p : Plan) → LegalImage p (silent p)
unfolding image_version_good
silent_legal p = record { version = refl; position = omega arith; words = zeros_admitted p.kinds }

-- the element that a change starts from: its old one, or a where it keeps
abbrev pub before : Change → ℕ → ℕ
before keep a = a
before (swap old new) a = old

-- the image that two lists in turn start from; an object in neither has z's element
unfoldable pub start : Changes → Changes → Image → Image
start l m z =
    record {
      version = z.version;
      position = l.from;
      words = zip_with before l.each (zip_with before m.each z.words);
    }

before_admits : (k : Kind) (c : Change) (a : ℕ) → lawful k c ≡ true → admits k a ≡ true → admits k (before c a) ≡ true
before_admits k keep a p q = q
before_admits k (swap old new) a p q = (lawful_swap k old new p).old

before_fits : (c : Change) (a : ℕ) → fits c (before c a) ≡ true
before_fits keep a = refl
before_fits (swap old new) a = eq-eqb old old refl

meets_fits : (c d : Change) (a : ℕ) → meets c d ≡ true → fits d (after c (before c (before d a))) ≡ true
meets_fits keep d a p = before_fits d a
meets_fits (swap old new) keep a p = refl
meets_fits (swap old new) (swap old' new') a p = eq-eqb old' new (sym (eqb-true new old' p))

before_admits_all : {ks : List Kind} {cs : List Change} {xs : List ℕ} → Every lawful ks cs → Every admits ks xs
    → Every admits ks (zip_with before cs xs)
unfolding zip_with
before_admits_all nil nil = nil
before_admits_all (and {a = k} {b = c} p ps) (and {b = a} q qs) =
    and (before_admits k c a p q) (before_admits_all ps qs)

before_fits_all : {ks : List Kind} {cs : List Change} {xs : List ℕ} → Every lawful ks cs → Every admits ks xs
    → Every fits cs (zip_with before cs xs)
unfolding zip_with
before_fits_all nil nil = nil
before_fits_all (and {b = c} p ps) (and {b = a} q qs) = and (before_fits c a) (before_fits_all ps qs)

meets_fits_all : {ks : List Kind} {cs ds : List Change} {xs : List ℕ} → Every meets cs ds → Every admits ks xs
    → Every lawful ks ds
    → Every fits ds (zip_with after cs (zip_with before cs (zip_with before ds xs)))
unfolding zip_with
meets_fits_all nil nil nil = nil
meets_fits_all nil (and q qs) r = elim r [ ]
meets_fits_all (and p ps) nil r = elim r [ ]
meets_fits_all (and {a = c} {b = d} p ps) (and {b = a} q qs) (and r rs) =
    and (meets_fits c d a p) (meets_fits_all ps qs rs)

-- a legal image takes the first list and then the second
pub record Taken (p : Plan) (l m : Changes) : Type 0 where
  pub image : Image
  pub between : Image
  pub last : Image
  pub legal : LegalImage p image
  pub first : applied l image ≡ done between
  pub second : applied m between ≡ done last

module _ {p : Plan} where
  start_legal : {l m : Changes} {z : Image} → LegalList p l → LegalList p m → LegalImage p z
      → LegalImage p (start l m z)
  unfolding start
  start_legal hl hm hz =
      record {
        version = hz.version;
        position = hl.from;
        words = before_admits_all hl.each (before_admits_all hm.each hz.words);
      }

  -- where two lists join, an image takes the first and then the second
  join_history : {l m k : Changes} {z : Image} → LegalList p l → LegalList p m → LegalImage p z → join l m ≡ done k
      → (b : Image) × (c : Image) × (applied l (start l m z) ≡ done b) × (applied m b ≡ done c)
  unfolding start
  join_history {l} {m} {k} {z} hl hm hz e =
      let j = joins hl hm e in
      let x : List ℕ = zip_with before l.each (zip_with before m.each z.words) in
      let y : List ℕ = zip_with after l.each x in (
        record { version = z.version; position = l.to; words = y },
        record { version = z.version; position = m.to; words = zip_with after m.each y },
        taking (record {
          place = refl;
          olds = before_fits_all hl.each (before_admits_all hm.each hz.words);
          result = refl;
        }),
        taking (record {
          place = sym j.place;
          olds = meets_fits_all j.olds hz.words hm.each;
          result = refl;
        }),
      )

  -- two lists join exactly where some legal image takes the first and then the second
  pub join_exactly : {l m : Changes} → LegalList p l → LegalList p m
      → ((k : Changes) × (join l m ≡ done k)) ↔ Taken p l m
  join_exactly {l} {m} hl hm = (
    (λ j.
        let h = join_history hl hm (silent_legal p) j.1 in
        record {
          image = start l m (silent p);
          between = h.0;
          last = h.1;
          legal = start_legal hl hm (silent_legal p);
          first = h.2;
          second = h.3;
        }),
    (λ h. (difference h.image h.last, join_taken hl hm h.legal h.first h.second)),
  )

  -- where the join is refused, no image does
  pub no_history : {l m : Changes} {r : Refused} → LegalList p l → LegalList p m → join l m ≡ refused r
      → {a b c : Image} → LegalImage p a → applied l a ≡ done b → applied m b ≡ done c → ⊥
  no_history hl hm e ha f g = let z : ◌≡◌ {A = ℕ} 0 1 = cc (join_taken hl hm ha f g) in omega arith

-- ---- a join turned back

eqb_sym : (a b : ℕ) → eqb a b ≡ eqb b a
eqb_sym a b = go (eqb b a) refl
  where
    go : (u : Bool) → eqb b a ≡ u → eqb a b ≡ u
    go true e = eq-eqb a b (sym (eqb-true b a e))
    go false e = ne_eqb a b (λ q. eqb-false b a e (sym q))

meets_back : (c d : Change) → meets (back d) (back c) ≡ meets c d
meets_back keep keep = refl
meets_back keep (swap old new) = refl
meets_back (swap old new) keep = refl
meets_back (swap old new) (swap old' new') = eqb_sym old' new

joined_back : (c d : Change) → joined (back d) (back c) ≡ back (joined c d)
joined_back keep keep = refl
joined_back keep (swap old new) = refl
joined_back (swap old new) keep = refl
joined_back (swap old new) (swap old' new') = sym (back_differ old new')

joined_back_all : (cs ds : List Change) → zip_with joined (map back ds) (map back cs) ≡ map back (zip_with joined cs ds)
unfolding zip_with
joined_back_all [] [] = refl
joined_back_all [] (d ∷ ds) = refl
joined_back_all (c ∷ cs) [] = refl
joined_back_all (c ∷ cs) (d ∷ ds) = ap₂ ◌∷◌ (joined_back c d) (joined_back_all cs ds)

then_unless : {A B : Type 0} (u : Bool) (x : Verdict A) (r : Refused) (f : A → Verdict B)
    → then (refused r unless u ⨾ x) f ≡ (refused r unless u ⨾ then x f)
then_unless true x r f = refl
then_unless false x r f = refl

lowest_back : (i : ℕ) (cs ds : List Change) (k : Changes)
    → lowest 20 meets i (map back ds) (map back cs) (turned k) ≡ then (lowest 20 meets i cs ds k) (λ k. done (turned k))
lowest_back i [] [] k = refl
lowest_back i [] (d ∷ ds) k = refl
lowest_back i (c ∷ cs) [] k = refl
lowest_back i (c ∷ cs) (d ∷ ds) k = rw (then_unless, meets_back c d, lowest_back (suc i) cs ds k)

-- a join turned back is the two turned back and joined in the opposite order;
-- if refused, both are, and name the same object
pub join_turned : (l m : Changes) → join (turned m) (turned l) ≡ then (join l m) (λ k. done (turned k))
unfolding join turned
join_turned l m =
    rw (then_unless (eqb l.to m.from), eqb_sym m.from l.to, joined_back_all l.each m.each)
    (ap (λ (r : Verdict Changes). refusal 19 unless eqb l.to m.from ⨾ r) (lowest_back 0 l.each m.each _))
