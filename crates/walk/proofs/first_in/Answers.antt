use native.Mathlib.Omega.{arith}
use Rattle.walk.proofs.Laws.{first_none, first_end, first_skip, first_at, first_on}
use Rattle.walk.proofs.first_in.Goals as goal

pub returns-in-End : goal.returns-in-End
returns-in-End c =
    let a = c.args in
    let l = c.loop-at in (
      first_end a.w (omega arith) a.img.now a.e (omega arith) l.at _ l.invariant.1 c.look_at.result c.loop-at-test.true
          c.look_at.ensures.0 c.in-End.is,
      tt,
    )

pub loop-at-preserved-in-Skip : goal.loop-at-preserved-in-Skip
loop-at-preserved-in-Skip c =
    let a = c.args in
    let l = c.loop-at in
    let f = rw c.in-Skip.is at c.look_at.ensures.1 in (
      omega arith,
      first_skip a.w (omega arith) a.img.now a.e (omega arith) l.at _ l.invariant.1 c.look_at.result c.loop-at-test.true
          c.look_at.ensures.0 c.in-Skip.is,
    )

pub returns-then-present : goal.returns-then-present
returns-then-present c =
    let a = c.args in
    let l = c.loop-at in
    let f = rw c.in-Item.is at c.look_at.ensures.1 in
    let k = rw c.if-present.true at c.present.ensures.1 in (
      first_at a.w (omega arith) a.img.now a.e (omega arith) l.at _ l.invariant.1 c.look_at.result c.loop-at-test.true
          c.look_at.ensures.0 c.in-Item.len c.present.result c.in-Item.is c.present.ensures.0 c.if-present.true,
      omega arith,
    )

pub loop-at-preserved : goal.loop-at-preserved
loop-at-preserved c =
    let a = c.args in
    let l = c.loop-at in
    let f = rw c.in-Item.is at c.look_at.ensures.1 in (
      omega arith,
      rw c.size-at.ensures.0 (first_on a.w (omega arith) a.img.now a.e (omega arith) l.at _ l.invariant.1
          c.look_at.result c.loop-at-test.true c.look_at.ensures.0 c.in-Item.len c.present.result c.in-Item.is
          c.present.ensures.0 c.if-present.false),
    )

pub returns : goal.returns
returns c =
    let a = c.args in
    let l = c.loop-at in
    (first_none a.w (omega arith) a.img.now a.e (omega arith) l.at _ l.invariant.1 c.loop-at-test.false, tt)
