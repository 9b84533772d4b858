-- What is written is the listing of what was read, the first 65,537 bytes that the reader had.
use Rattle.shell.proofs.WholeInput.{whole_listed}
use Rattle.shell.proofs.list_through.Goals as goal

pub returns-clause-ok : goal.returns-clause-ok
returns-clause-ok g c =
    whole_listed c.write_whole.result _ _ _ c.args.given.now _ _ _ _ c.requires.input_room c.requires.text_room
    c.print_into-m.ensures.size c.print_into-m.ensures.output c.in_ok-n.ensures.bytes c.write_whole.ensures.ok
