-- The plan that the code lends, as the definitions of `history` take it.
use Rattle.std.specs.Prelude.{ℕ, List}
use Rattle.kinds.specs.declared.Kind.{Kind}
use Rattle.history.specs.Table.{Plan}
use Rattle.tables.specs.declared.outlines.Plan.{Plan as Lent}

abbrev pub plan_in : Lent → Plan
plan_in p = record { x = p.x; y = p.y; kinds = p.kinds.now }

-- the plan of X, Y and kinds
abbrev pub plan_with : ℕ → ℕ → List Kind → Plan
plan_with x y ks = record { x = x; y = y; kinds = ks }
