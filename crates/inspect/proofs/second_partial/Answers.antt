use mathlib.Core.Path.{sym, ◌∙◌}
use Rattle.rules.specs.declared.{PageState.TheVariants.PartialOpen}
use Rattle.ring.proofs.Laws.{first_no}
use Rattle.inspect.proofs.second_partial.Goals as goal

pub loop-q-preserved : goal.loop-q-preserved
loop-q-preserved c =
    let s = c.args.pages.now in
    sym (first_no s.geo PartialOpen s.img.now c.loop-q.q c.loop-q-test.true
    (sym c.page_is.ensures ∙ c.if-page_is.false)) ∙ c.loop-q.invariant
