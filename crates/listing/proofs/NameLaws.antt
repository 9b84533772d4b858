-- What a refusal of a listing names: what the image's check names, under the table that the input begins with; nothing
-- if the input can't be split.
-- Assumes nothing.
use Prim.Native.Nat.{ℕ}
use mathlib.Core.Path.{refl, ap, ◌∙◌}
use mathlib.Core.List.{List}
use lib.Dec.{leb}
use lib.ListN.{length, take, drop}
use Rattle.history.specs.Verdict.{Verdict, done, then}
use Rattle.history.proofs.NameLaws.{nothing, NoNumber, Named, accepts, refuses, named_unless, named_then, NamesIn}
use Rattle.history.proofs.NameLaws.{image_call_named}
use Rattle.history.proofs.CodeLaws.{Coded, coded}
use Rattle.listing.specs.Listing.{Panel, read_both, table_size, read_panel, listing_call}
use Rattle.listing.proofs.PanelLaws.{image_in}

both_named : (t a : List ℕ) → Named (NamesIn t NoNumber) (read_both t a)
both_named t a =
    record {
      names = λ e. (image_call_named t a).names
          (image_in t a ∙ ap (λ (v : Verdict Panel). then v (λ p. done p.image)) e);
    }

module _ (input : List ℕ) where
  pub listing_call_named : Named (NamesIn (take (table_size input) input) NoNumber) (listing_call input)
  unfolding listing_call read_panel
  listing_call_named =
      named_then (read_panel input) _
      (named_unless (leb (length input) 65536) _ _ (λ f. refuses (nothing refl)) λ t.
      named_unless (leb 4 (length input)) _ _ (λ f. refuses (nothing refl)) λ t.
      named_unless (leb (table_size input) (length input)) _ _ (λ f. refuses (nothing refl)) λ t.
      both_named (take (table_size input) input) (drop (table_size input) input))
      (λ p e. accepts)

  pub listing_call_coded : Coded (listing_call input)
  listing_call_coded = coded listing_call_named
