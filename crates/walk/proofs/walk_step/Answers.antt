use Rattle.walk.proofs.Laws.{step_no, step_stepped, step_later}
use Rattle.walk.proofs.walk_step.Goals as goal

pub returns-then-not-in_order : goal.returns-then-not-in_order
returns-then-not-in_order c =
    let s = c.args.pages.now in
    step_no s.geo s.img.now c.args.cursor c.in_order.result c.in_order.ensures c.if-not-in_order.true

pub returns-in-Some : goal.returns-in-Some
returns-in-Some c =
    let s = c.args.pages.now in
    step_stepped s.geo s.img.now c.args.cursor c.in_order.result c.in_order.ensures c.step_in.result
    c.if-not-in_order.false s.held c.step_in.ensures c.in-Some.step c.in-Some.is

pub returns : goal.returns
returns c =
    let s = c.args.pages.now in
    step_later s.geo s.img.now c.args.cursor c.in_order.result c.in_order.ensures c.step_in.result
    c.if-not-in_order.false s.held c.step_in.ensures c.later.result c.next.result c.in_default.is c.next.ensures.0
    c.later.ensures
