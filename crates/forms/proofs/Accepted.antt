-- An image or a list whose check gives `Ok` is accepted.
-- Assumes nothing.
use Prim.Native.Nat.{ℕ}
use mathlib.Core.Path.{◌≡◌}
use mathlib.Core.List.{List}
use lib.ListN.{get_or}
use mir.Syntax.{w8}
use mir.Val.{Fits}
use Rattle.std.specs.Prelude.{Ok}
use Rattle.history.specs.Verdict.{checked}
use Rattle.history.specs.Table.{Plan}
use Rattle.history.specs.Image.{read_image, AcceptedImage}
use Rattle.history.specs.Changes.{read_list, AcceptedList}
use Rattle.history.proofs.ImageLaws.{image_is}
use Rattle.history.proofs.ListLaws.{list_is}
use Rattle.history.proofs.OutputLaws.{given_done}

-- h: each number in b fits in a byte, as in any slice
module _ (p : Plan) (b : List ℕ) (h : (i : ℕ) → Fits w8 (get_or b i 0)) where
  pub image_accepted : Ok tt ≡ checked (read_image p b) → AcceptedImage p b
  image_accepted e =
      let q = given_done (read_image p b) _ e in
      let i = image_is p b (λ i. (h i).fits) q.1 in
      record { image = q.0; legal = i.0; reads = q.1; same = i.1 }

  pub list_accepted : Ok tt ≡ checked (read_list p b) → AcceptedList p b
  list_accepted e =
      let q = given_done (read_list p b) _ e in
      let i = list_is p b (λ i. (h i).fits) q.1 in
      record { list = q.0; legal = i.0; reads = q.1; same = i.1 }
