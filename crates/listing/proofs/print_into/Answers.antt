-- `listing::print_into` meets its contract: a short output stays as it was;
-- any other has the text or the line of its refusal in front.
-- Assumes nothing.
use native.Mathlib.Omega.{arith}
use borrow.Author.Rules.{rules}
use Rattle.text.proofs.Laws.{grew_front}
use Rattle.listing.proofs.InputLaws.{stays, line_printed, text_printed}
use Rattle.listing.proofs.print_into.Goals as goal

pub returns-then-out-lt-MOST : goal.returns-then-out-lt-MOST
returns-then-out-lt-MOST c = stays _ _ (omega arith)

pub returns-in-Ok : goal.returns-in-Ok
returns-in-Ok c = text_printed _ _ c.if-out-lt-MOST.false c.in-Ok.ensures

pub returns-in-Err : goal.returns-in-Err
returns-in-Err c =
    let line =
    grew_front c.new-page.ensures.text c.new-page.ensures.place c.put_refusal.ensures (search rules) c.len.ensures in
    line_printed _ _ c.if-out-lt-MOST.false c.in-Err.ensures line
