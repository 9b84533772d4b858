-- What a writer and a reader have after a call that may have stopped half-way.
use Rattle.std.specs.Prelude.{ℕ, List}
use Rattle.std.specs.declared.option.Option.{Option}
use Rattle.std.specs.Io.KnownBytes.{Appends, Consumes}

-- what the writer was known to hold stays in front: at most some bytes were appended
abbrev pub Extends : Option (List ℕ) → Option (List ℕ) → Type 0
Extends old new = (bs : List ℕ) × Appends old new bs

-- what the reader was known to have left lost at most some bytes at its front
abbrev pub LosesFront : Option (List ℕ) → Option (List ℕ) → Type 0
LosesFront old new = (bs : List ℕ) × Consumes old new bs
