-- Two outcomes of one listing are equal: the answer and the output at the end;
-- of what is printed, the length and the output.
-- Assumes nothing.
use Prim.Native.Nat.{ℕ}
use mathlib.Core.Path.{◌≡◌}
use mathlib.Core.List.{List}
use Rattle.history.specs.declared.Answer.{Answer}
use Rattle.history.specs.Verdict.{Leaves}
use Rattle.history.proofs.OneOutcome.{one_outcome, one_pair}
use Rattle.listing.specs.Listing.{listing_call}
use Rattle.listing.specs.Output.{ListedInto}

module _ (input out : List ℕ) {m m' : List ℕ} where
  pub one_listing : {r r' : Answer} → Leaves (listing_call input) out r m → Leaves (listing_call input) out r' m'
      → (r ≡ r') × (m ≡ m')
  one_listing = one_pair

  pub one_print : {r r' : ℕ} → ListedInto input out m r → ListedInto input out m' r' → (r ≡ r') × (m ≡ m')
  one_print p q = (one_outcome p.size q.size, one_outcome p.output q.output)
