use Rattle.std.proofs.Common.{◌≡◌, ◌∙◌, ◌+◌, suc, ap, arith, drop}
use Rattle.std.proofs.lemmas.List.{length-set}
use Rattle.script.specs.Numbers.{behind_comma, behind_commas}
use Rattle.script.proofs.NumberLaws.{comma_found, no_comma, one_more}
use Rattle.script.proofs.numbers.Goals as goal
use Rattle.script.proofs.numbers.Goals.{in-Some, in-None}

pub loop-value-preserved : goal.loop-value-preserved
loop-value-preserved c =
    let text = c.args.text.now in
    let next : drop c.match-find.at text ≡ behind_comma (drop c.loop-value.at text) =
    elim c.match-find.branch [
      | in-Some w ↦ ap (λ k. drop k text) w.at-is
          ∙ comma_found text c.loop-value.at w.in-Some.comma w.in-Some.ensures.0 w.in-Some.ensures.1 w.in-Some.ensures.2
          w.in-Some.ensures.3
      | in-None w ↦ ap (λ k. drop k text) w.at-is ∙ no_comma text c.loop-value.at w.in-None.ensures
    ] in
    let size : suc c.loop-value.value-index ≡ c.loop-value.value-index + 1 = omega arith in
    record {
      size = length-set _ _ _ ∙ c.loop-value.invariant.size;
      place =
          next ∙ ap behind_comma c.loop-value.invariant.place
          ∙ ap (λ k. behind_commas k (drop c.args.from text)) size;
      read =
          one_more text c.args.from c.loop-value.at c.loop-value.value-index c.loop-value.value-items c.decimal.result
          (omega (arith, c.loop-value-test.true, c.loop-value.invariant.size)) c.loop-value.invariant.place
          c.decimal.ensures c.loop-value.invariant.read;
    }

pub returns : goal.returns
returns c = λ k inside. c.loop-value.invariant.read k (omega (arith, c.loop-value-test.false))
