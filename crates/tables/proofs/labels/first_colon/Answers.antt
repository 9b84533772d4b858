-- `tables::labels::first_colon` meets its contract: the search finds the first colon.
-- Assumes nothing.
use Rattle.std.proofs.Common.{arith, ◌≡◌, ◌∙◌, rules, tests}
use Rattle.history.specs.Table.{first_colon}
use Rattle.std.proofs.lemmas.Iterator.{YieldsList-from_slice}
use Rattle.std.proofs.lemmas.Iterator.Search.{position_from_yields_List}
use Rattle.tables.proofs.LabelLaws.{first_inside, colon_found}
use Rattle.tables.proofs.labels.first_colon.Goals as goal

pub returns : goal.returns
returns c =
    let e : c.unwrap_or.result ≡ first_colon c.args.label.now =
    c.unwrap_or.ensures
    ∙ colon_found _
    (position_from_yields_List _ _ _ c.position.result c.position.ensures.ran
    (YieldsList-from_slice c.args.label.now cc)
    (λ x b q k. search (rules, tests))) in
    (e, omega (arith, first_inside c.args.label.now))
