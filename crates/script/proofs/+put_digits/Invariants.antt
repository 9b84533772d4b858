-- The measure is the number, which is divided by ten at each call.
use Rattle.script.proofs.+put_digits.Given as goal

abbrev pub decreases-put_digits : goal.decreases-put_digits
decreases-put_digits l = l.number
