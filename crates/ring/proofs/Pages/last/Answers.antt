use native.Mathlib.Omega.{arith}
use mathlib.Core.Path.{refl, sym, ◌∙◌}
use Rattle.ring.proofs.Laws.{last-no, last_yes}
use Rattle.ring.proofs.Pages.last.Goals as goal

pub loop-p-init : goal.loop-p-init
loop-p-init c = refl

pub loop-p-preserved : goal.loop-p-preserved
loop-p-preserved c =
    let s = c.args.self.now in
    sym (last-no s.geo c.args.want s.img.now c.loop-p.p c.loop-p-test.true
    (sym c.page_is.ensures ∙ c.if-page_is.false)) ∙ c.loop-p.invariant

pub returns-then-page_is : goal.returns-then-page_is
returns-then-page_is c =
    let s = c.args.self.now in
    let here = last_yes s.geo c.args.want s.img.now c.loop-p.p c.loop-p-test.true
    (sym c.page_is.ensures ∙ c.if-page_is.true) in
    (omega arith, sym here ∙ c.loop-p.invariant)
