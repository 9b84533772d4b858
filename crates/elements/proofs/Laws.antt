-- Legal states and accepted numbers correspond one to one: both round trips, for any kind;
-- and the laws that callers use.
-- Assumes nothing.
use mathlib.Core.Path.{◌≡◌, ◌∙◌, refl, sym, ap, ap₂, subst}
use mathlib.Core.List.{List, []}
use Prim.Native.Nat.{ℕ, ◌-◌, ◌*◌, ◌^◌, ◌<◌}
use native.Mathlib.Omega.{arith}
use native.Mathlib.Nat.{lt_of_lt_of_le}
use lib.ListN.{length, replicate}
use lib.Pow.{pow_mono, pow_pos}
use Rattle.rows.specs.Values.{Finding, check_rows, values_of, compose_of, padded, on_finding}
use Rattle.std.proofs.Common.{Ok, Err}
use Rattle.rows.specs.declared.Refusal.{Refusal}
use Rattle.rows.proofs.Words.{Within, compose_values, compose_bound, values_compose}
use Rattle.rows.proofs.Listed.{listed_within, listed_from_lem, accepted_within, within_accepted, zero_accepted}
use Rattle.rows.proofs.Listed.{compose_append}
use Rattle.kinds.specs.Kinds.{width_of, rows_of, element_of, element_values, kind_in}
use Rattle.elements.specs.Elements.{dat_rule, element_check, state_of, state_read, word_of}
use Rattle.kinds.specs.declared.Kind.{Kind}
use Rattle.kinds.specs.declared.Element.{Element}
use Rattle.elements.proofs.Covering.{cover}
use Rattle.kinds.proofs.KindLaws.{element_listed, element_back, element_kind, zero_state}

-- the values of any state are admitted by its rows
pub state_within : (e : Element) → Within (rows_of (kind_in e)) (element_values e)
state_within e =
    subst (Within (rows_of (kind_in e)))
    (sym (element_listed (kind_in e) (padded (element_values e))) ∙ ap element_values (element_back e))
    (listed_within (rows_of (kind_in e)) 0 (padded (element_values e)))

-- a state's number fits its kind's bytes, and 32 bits
pub word_fits : (e : Element) → word_of e < 2 ^ (8 * width_of (kind_in e))
unfolding word_of
word_fits e =
    let b =
    compose_bound (rows_of (kind_in e)) (element_values e) 0 (8 * width_of (kind_in e)) (cover (kind_in e)).tiling
    (state_within e) in
    omega arith

pub word_small : (e : Element) → word_of e < 4294967296
word_small e = lt_of_lt_of_le (word_fits e) (pow_mono {j = 32} (let g = (cover (kind_in e)).narrow in omega arith))

-- a state that is read as a kind is of that kind
pub state_kind : (k : Kind) (w : ℕ) → kind_in (state_of k w) ≡ k
unfolding state_of
state_kind k w = element_kind k _

-- ---- the round trips

-- a state's own values are the fields of its number
own_values : (e : Element) → values_of (word_of e) (rows_of (kind_in e)) ≡ element_values e
unfolding word_of
own_values e =
    values_compose (rows_of (kind_in e)) (element_values e) (8 * width_of (kind_in e)) (cover (kind_in e)).tiling
    (state_within e)

-- state, number, state: the same state
pub state_word_state : (e : Element) → state_of (kind_in e) (word_of e) ≡ e
unfolding state_of
state_word_state e = ap (λ (vs : List ℕ). element_of (kind_in e) (padded vs)) (own_values e) ∙ element_back e

-- number, state, number: the same number, if the fields are accepted
fields_word : (k : Kind) (w : ℕ) → w < 2 ^ (8 * width_of k) → check_rows w (rows_of k) ≡ Ok tt
    → word_of (state_of k w) ≡ w
unfolding word_of state_of
fields_word k w h ok =
    let vs = values_of w (rows_of k) in
    ap₂ (λ (j : Kind) (us : List ℕ). compose_of (rows_of j) us) (element_kind k (padded vs))
    (element_listed k (padded vs))
    ∙ ap (compose_of (rows_of k))
    (listed_from_lem (rows_of k) [] vs (replicate (24 - length vs) 0) (accepted_within w (rows_of k) ok))
    ∙ compose_values (rows_of k) (8 * width_of k) w (cover k).tiling h

pub accepted_fields : (k : Kind) (w : ℕ) → element_check k w ≡ Ok tt
    → check_rows w (rows_of k) ≡ Ok tt
unfolding element_check
accepted_fields k w = go (check_rows w (rows_of k))
  where
    go : (f : Finding) → on_finding f (dat_rule k w) Err ≡ Ok tt → f ≡ Ok tt
    go (Ok tt) e = refl
    go (Err r) e = let z : ◌≡◌ {A = ℕ} 0 1 = cc in absurd (omega arith)

pub word_state_word : (k : Kind) (w : ℕ) → w < 2 ^ (8 * width_of k) → element_check k w ≡ Ok tt
    → word_of (state_of k w) ≡ w
word_state_word k w h ok = fields_word k w h (accepted_fields k w ok)

-- the fields of an accepted number are read as its state
pub accepted_state : (k : Kind) (w : ℕ) → element_check k w ≡ Ok tt → state_read k w ≡ state_of k w
unfolding state_read state_of
accepted_state k w ok =
    ap (λ (f : Finding). element_of k (on_finding f (padded (values_of w (rows_of k))) (λ r. replicate 24 0)))
    (accepted_fields k w ok)

-- .. so a legal state that is written and read is the same state
pub read_written : (e : Element) → element_check (kind_in e) (word_of e) ≡ Ok tt
    → state_read (kind_in e) (word_of e) ≡ e
read_written e ok = accepted_state (kind_in e) (word_of e) ok ∙ state_word_state e

-- .. and those of a number with a refused field are read as zeros
pub refused_state : (k : Kind) (w : ℕ) {r : Refusal} → check_rows w (rows_of k) ≡ Err r
    → state_read k w ≡ element_of k (replicate 24 0)
unfolding state_read
refused_state k w bad =
    ap (λ (f : Finding). element_of k (on_finding f (padded (values_of w (rows_of k))) (λ r. replicate 24 0))) bad

-- ---- what is found of a state's own number

-- nothing but the rule of DAT: with named cases only 12 remains
pub state_check : (e : Element) → element_check (kind_in e) (word_of e) ≡ dat_rule (kind_in e) (word_of e)
unfolding element_check
state_check e =
    let k = kind_in e in
    ap (λ (f : Finding). on_finding f (dat_rule k (word_of e)) Err)
    (within_accepted (word_of e) (rows_of k) (subst (Within (rows_of k)) (sym (own_values e)) (state_within e)))

-- the number 0 is that of the state whose fields are all 0
pub zero_word : (k : Kind) → word_of (element_of k []) ≡ 0
unfolding state_of
zero_word k = ap word_of (sym (zero_state k)) ∙ fields_word k 0 (pow_pos (8 * width_of k)) (zero_accepted (rows_of k))

-- the zeros after the values don't change the number
pub compose_padded : (e : Element) → compose_of (rows_of (kind_in e)) (padded (element_values e)) ≡ word_of e
unfolding word_of
compose_padded e =
    compose_append (rows_of (kind_in e)) (element_values e) (replicate (24 - length (element_values e)) 0)
    (state_within e)
