use native.Mathlib.Omega.{arith}
use Rattle.walk.proofs.Laws.{in_at}
use Rattle.walk.proofs.step_in.Goals as goal

pub returns : goal.returns
returns c =
    let s = c.args.pages.now in
    in_at s.geo s.img.now c.args.cursor c.end_at-end.result c.first_in.result c.end_at-end.ensures.0
    c.first_in.ensures.0 c.in_ok-at.field-0 c.size.result c.key.result c.in_ok-at.was c.size.ensures.0 c.key.ensures
    (omega arith) (omega arith)
