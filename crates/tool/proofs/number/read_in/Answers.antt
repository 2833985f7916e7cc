use Rattle.std.proofs.Common.{arith}
use Rattle.tool.proofs.Numbers.{settled_none, settled_large, settled_step, settled-end}
use Rattle.tool.proofs.number.read_in.Goals as goal

pub returns-in_err-d : goal.returns-in_err-d
returns-in_err-d c =
    let a = c.args in
    let e = settled_none a.base c.loop-b.n a.s.now c.loop-b.b-index (omega arith) (omega (arith, c.in_err-d.ensures)) in
    grind (arith, e)

pub returns-in_err-checked_mul : goal.returns-in_err-checked_mul
returns-in_err-checked_mul c =
    let a = c.args in
    let e = settled_large a.base c.loop-b.n a.s.now c.loop-b.b-index (omega arith) (omega arith)
    (omega (arith, c.in_err-checked_mul.ensures)) in
    grind (arith, e)

pub returns-in_err-n : goal.returns-in_err-n
returns-in_err-n c =
    let a = c.args in
    let e = settled_large a.base c.loop-b.n a.s.now c.loop-b.b-index (omega arith) (omega arith)
    (omega (arith, c.in_err-n.ensures)) in
    grind (arith, e)

pub loop-b-preserved : goal.loop-b-preserved
loop-b-preserved c =
    let a = c.args in
    let e = settled_step a.base c.loop-b.n a.s.now c.loop-b.b-index (omega arith) (omega (arith, c.in_ok-d.ensures)) in
    record { small = omega arith; rest = grind (arith, e) }

pub returns : goal.returns
returns c =
    let a = c.args in
    let e = settled-end a.base c.loop-b.n a.s.now c.loop-b.b-index (omega arith) c.loop-b.invariant.small in
    grind (arith, e)
