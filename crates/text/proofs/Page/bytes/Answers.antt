-- A copy of the bytes is put into the page's buffer.
-- Assumes nothing.
use mathlib.Core.Path.{refl, ap, ◌∙◌}
use lib.ListN.{length}
use lib.Seq.{length-sets}
use Rattle.text.proofs.Laws.{copied}
use Rattle.text.proofs.Page.bytes.Goals as goal

pub returns : goal.returns
returns c =
    let page = c.args.self.now in
    let text = copied page.out.now page.at c.args.src.now c.copy.ensures c.requires in
    record {
      same = refl;
      size = ap length text ∙ length-sets page.out.now page.at c.args.src.now;
      wrote = record { next = refl; text = text };
    }
