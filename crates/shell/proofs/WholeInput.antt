-- The first 65,537 bytes of an input are listed as the whole input is.
use Rattle.std.proofs.Common.{◌≡◌, ℕ, ◌≤◌, List, None, Some, IfSome, OnOk, Result, Ok, Err, inl}
use Rattle.std.proofs.Common.{inr, arith, refl, sym, ap, subst, ◌∙◌, length, take, take_all}
use Rattle.std.proofs.lemmas.List.{length-take}
use Rattle.std.proofs.lemmas.Bool.Decides.{leb_tells}
use Rattle.std.specs.declared.option.Option.{Option}
use Rattle.std.specs.Io.KnownBytes.{Appends}
use Rattle.listing.specs.Listing.{listing_of, printed}
use Rattle.listing.specs.Output.{listed}
use Rattle.listing.proofs.InputLaws.{above, text_in_front}

-- one that is longer is refused, whatever is in it
pub first_listed : (all : List ℕ) → listing_of (take 65537 all) ≡ listing_of all
unfolding listing_of
first_listed all = elim (leb_tells (length all) 65536) [
  | inl few ↦ ap listing_of (take_all 65537 all (omega arith))
  | inr many ↦ ap printed
      (above (take 65537 all) (omega (arith, length-take 65537 all)) ∙ sym (above all (omega arith)))
]

-- what is written is the listing of what the reader had
pub whole_listed : {E : Type 0} (r : Result (Unit {0}) E) (known a b : Option (List ℕ))
    (room given text out : List ℕ) (m : ℕ)
    → length room ≡ 65537 → 65536 ≤ length text → m ≡ (listed given text).size → out ≡ (listed given text).output
    → IfSome known (λ all. given ≡ take (length room) all) → OnOk r (Appends a b (take m out))
    → OnOk r (IfSome known (λ all. Appends a b (listing_of all)))
whole_listed (Err e) known a b room given text out m long fits size output k w = tt
whole_listed (Ok x) None a b room given text out m long fits size output k w = tt
whole_listed (Ok x) (Some all) a b room given text out m long fits size output k w =
    let front : take m out ≡ take (listed given text).size (listed given text).output = rw (size, output) refl in
    let shown : take m out ≡ listing_of all =
    front ∙ (text_in_front given text fits).0 ∙ ap listing_of (k ∙ ap (λ n. take n all) long) ∙ first_listed all in
    subst (Appends a b) shown w
