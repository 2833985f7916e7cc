use mathlib.Core.Path.{◌∙◌}
use Rattle.ring.proofs.Laws.{state_by}
use Rattle.ring.proofs.Pages.state.Goals as goal

pub returns : goal.returns
returns c =
    let s = c.args.self.now in
    c.state_of.ensures ∙ state_by s.geo s.img.now c.args.p _ _ _ _ c.base.ensures.0 c.end_at.ensures.0 c.marked.ensures
    c.marked-2.ensures
