use mathlib.Core.Path.{sym, ◌∙◌}
use Rattle.rules.specs.declared.{PageState.TheVariants.Corrupted}
use Rattle.ring.proofs.Laws.{first_no}
use Rattle.ring.proofs.Pages.any_corrupted.Goals as goal

pub loop-p-preserved : goal.loop-p-preserved
loop-p-preserved c =
    let s = c.args.self.now in
    sym (first_no s.geo Corrupted s.img.now c.loop-p.p c.loop-p-test.true
    (sym c.is_corrupted.ensures ∙ c.if-is_corrupted.false)) ∙ c.loop-p.invariant
