-- Where the name isn't in the line, no byte is read at its end.
use Rattle.std.proofs.Common.{inl, refl, arith, length}
use Rattle.script.proofs.bytes_of.Goals as goal

pub returns-in-None-clause-hex : goal.returns-in-None-clause-hex
returns-in-None-clause-hex c = (
  length c.args.line.now,
  inl refl,
  λ k some before there. c.in-None.ensures k some there,
  refl,
  λ room has. absurd (omega (arith, has.room)),
)
