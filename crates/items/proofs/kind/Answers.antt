use Rattle.items.proofs.Laws.{kind_no, kind_yes}
use borrow.Author.Tests.{eq-eqb, lt-leb, le-leb}
use native.Mathlib.Omega.{arith}
use Rattle.items.proofs.kind.Goals as goal

pub returns-then-check-eq0 : goal.returns-then-check-eq0
returns-then-check-eq0 c = rw (← c.le32-check.ensures, eq-eqb _ _ c.if-check-eq0.true)

pub returns-then-check-zeros : goal.returns-then-check-zeros
returns-then-check-zeros c =
    kind_no c.args.s.now c.args.len _ _ c.le32-check.ensures c.if-check-eq0.false c.zeros.ensures.0
    c.if-check-zeros.true

pub returns-then-len-ge4 : goal.returns-then-len-ge4
returns-then-len-ge4 c =
    rw (le-leb 4 _ c.if-len-ge4.true) at (kind_yes c.args.s.now c.args.len _ _ c.le32-check.ensures c.if-check-eq0.false
    c.zeros.ensures.0 c.if-check-zeros.false (omega arith))

pub returns : goal.returns
returns c =
    rw (lt-leb 4 _ c.if-len-ge4.false) at (kind_yes c.args.s.now c.args.len _ _ c.le32-check.ensures
    c.if-check-eq0.false c.zeros.ensures.0 c.if-check-zeros.false (omega arith))
