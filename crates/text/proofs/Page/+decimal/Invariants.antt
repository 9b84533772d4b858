-- The measure is the number, which is divided by ten at each call.
-- Assumes nothing.
use Rattle.text.proofs.Page.+decimal.Given as goal

abbrev pub decreases-decimal : goal.decreases-decimal
decreases-decimal l = l.n
