-- What the other forms are read by, as the code passes it: X, Y, and each object's kind.
use Rattle.std.specs.Prelude.{ℕ, List, map}
use Rattle.kinds.specs.declared.Kind.{Kind}
use Rattle.elements.specs.Elements.{kind_numbered}
use Rattle.history.specs.Table.{Plan}

-- the kinds that layout numbers stand for
unfoldable pub kinds_of : List ℕ → List Kind
kinds_of ns = map kind_numbered ns

-- the plan that X, Y and layout numbers stand for
abbrev pub plan_as : ℕ → ℕ → List ℕ → Plan
plan_as x y ns = record { x = x; y = y; kinds = kinds_of ns }
