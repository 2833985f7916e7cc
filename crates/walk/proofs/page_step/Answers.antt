use native.Mathlib.Omega.{arith}
use Rattle.walk.proofs.Laws.{page_yes}
use Rattle.walk.proofs.page_step.Goals as goal

pub returns : goal.returns
returns c =
    let s = c.args.pages.now in
    page_yes s.geo s.img.now c.args.first c.args.q c.listed.result c.data_at-place.result c.step_in.result
    c.listed.ensures c.if-not-listed.false c.data_at-place.ensures.0 (omega arith) c.step_in.ensures
