-- What the check of an entry returns. A device of the code: the meaning is in `history`.
use Rattle.std.specs.Prelude.{ℕ, ◌+◌}
use Rattle.kinds.specs.Kinds.{width_of}
use Rattle.history.specs.Changes.{Entry}
use Rattle.forms.specs.declared.list.Passed.{Passed}

-- the object, its elements and the place after the entry, whose elements begin at `at`
abbrev pub passed : ℕ → Entry → Passed
passed at e = record { object = e.object; old = e.old; new = e.new; next = at + width_of e.kind + width_of e.kind }
