-- std's `position` gives the first place in the text's rest.
use Rattle.std.proofs.Common.{◌≡◌, ◌≢◌, rules, tests}
use Rattle.std.proofs.lemmas.Iterator.{YieldsList-from_slice, IsFirst-from_position}
use Rattle.std.proofs.lemmas.Option.{MatchOption-at_some, MatchOption-at_none}
use Rattle.script.proofs.PlacedLaws.{nowhere, first_there}
use Rattle.script.proofs.find.Goals as goal

pub returns : goal.returns
returns c =
    let rest = c.in_ok-rest.rest.now in
    let byte = c.args.byte in
    let first =
    IsFirst-from_position _ _ c.position.result (λ x. x ≡ byte) (λ x. x ≢ byte) c.position.ensures.ran
    (YieldsList-from_slice rest c.iter.ensures.rest) (λ x q k. search (rules, tests))
    (λ x q k. search (rules, tests)) in
    first_there c.args.text.now rest c.args.from byte c.in_ok-rest.ensures.lookup.0.2 c.in_ok-passed.passed
    (MatchOption-at_some _ _ _ c.in_ok-passed.was first)

pub returns-in_err-passed : goal.returns-in_err-passed
returns-in_err-passed c =
    let rest = c.in_ok-rest.rest.now in
    let byte = c.args.byte in
    let first =
    IsFirst-from_position _ _ c.position.result (λ x. x ≡ byte) (λ x. x ≢ byte) c.position.ensures.ran
    (YieldsList-from_slice rest c.iter.ensures.rest) (λ x q k. search (rules, tests))
    (λ x q k. search (rules, tests)) in
    rw c.from_residual-in_err-passed.ensures
    (nowhere c.args.text.now rest c.args.from byte c.in_ok-rest.ensures.lookup.0.2
    (MatchOption-at_none _ _ c.in_err-passed.was first))
