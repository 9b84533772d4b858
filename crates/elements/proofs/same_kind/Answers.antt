-- `elements::same_kind` meets its contract: different kinds have layouts of different numbers.
-- Assumes nothing.
use mathlib.Core.Path.{sym, ◌∙◌}
use denote.Enum.Bare.{same_true, same_false}
use borrow.Author.Rules.{rules}
use Rattle.kinds.specs.contracts.Kind.{the_type}
use Rattle.elements.proofs.Covering.{same_by_number}
use Rattle.elements.proofs.same_kind.Goals as goal

pub returns : goal.returns
returns c =
    same_by_number _ _ _
    (λ e. same_true the_type (search rules) _ _ (sym c.eq.ensures ∙ e))
    (λ e. same_false the_type _ _ (sym c.eq.ensures ∙ e))
