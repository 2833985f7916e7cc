use mathlib.Core.Path.{sym, ◌∙◌}
use Rattle.ring.proofs.Laws.{first_no}
use Rattle.ring.proofs.Pages.first.Goals as goal

pub loop-p-preserved : goal.loop-p-preserved
loop-p-preserved c =
    let s = c.args.self.now in
    sym (first_no s.geo c.args.want s.img.now c.loop-p.p c.loop-p-test.true
    (sym c.page_is.ensures ∙ c.if-page_is.false)) ∙ c.loop-p.invariant
