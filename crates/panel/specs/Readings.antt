-- What reading a state gives: "A refused reading gives a code and no state."
use Rattle.std.specs.Prelude.{Result, Ok, Err}
use Rattle.kinds.specs.declared.Element.{Element}
use Rattle.history.specs.declared.Answer.{Answer}
use Rattle.history.specs.Verdict.{Verdict, given, unnamed}

-- the state; or the refusal's numbers, with length 0
unfoldable pub reading_of : Verdict Element → Result Element Answer
reading_of v = given (λ e. e) v

-- a reading's four numbers: of a state 0, 65535, 255, 0, since no bytes are written
abbrev pub answer_in : Result Element Answer → Answer
answer_in (Ok e) = unnamed 0 0
answer_in (Err answer) = answer
