use native.Mathlib.Omega.{arith}
use Rattle.inspect.proofs.Counts.{counted_none, counted_end, counted_skip, counted_item}
use Rattle.inspect.proofs.tally_in.Goals as goal
use Rattle.inspect.proofs.tally_in.Goals.{else-loop-at-test, then-loop-at-test+in-End}

pub loop-at-preserved-in-Skip : goal.loop-at-preserved-in-Skip
loop-at-preserved-in-Skip c =
    let a = c.args in
    let l = c.loop-at in
    let f = rw c.in-Skip.is at c.look_at.ensures.1 in
    rw c.add.ensures (counted_skip a.w (omega arith) (omega arith) a.img.now a.a a.e (omega arith) a.state l.at l.tally
    l.invariant c.look_at.result c.loop-at-test.true c.look_at.ensures.0 c.in-Skip.is f)

pub loop-at-preserved : goal.loop-at-preserved
loop-at-preserved c =
    let a = c.args in
    let l = c.loop-at in
    let f = rw c.in-Item.is at c.look_at.ensures.1 in
    rw (c.add-in-Item.ensures, c.kind.ensures, c.size-n.ensures.0)
    (counted_item a.w (omega arith) (omega arith) a.img.now a.a a.e (omega arith) a.state l.at l.tally l.invariant
    c.look_at.result c.loop-at-test.true c.look_at.ensures.0 c.in-Item.len c.in-Item.is f.0)

pub returns : goal.returns
returns c =
    let a = c.args in
    let l = c.loop-at in
    elim c.loop-at-test.branch [
      | else-loop-at-test w ↦ counted_none a.w (omega arith) (omega arith) a.img.now a.a a.e (omega arith) a.state l.at
          l.tally l.invariant w.loop-at-test.false
      | then-loop-at-test+in-End w ↦ counted_end a.w (omega arith) (omega arith) a.img.now a.a a.e (omega arith) a.state
          l.at l.tally l.invariant w.look_at.result w.loop-at-test.true w.look_at.ensures.0 w.in-End.is
    ]
