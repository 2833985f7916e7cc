use lib.Seq.{length-take-le}
use mathlib.Core.Path.{sym}
use Rattle.rules.specs.Items.{read, read_by}
use borrow.Author.Tests.{lt-ltb, le-ltb, le-leb, lt-leb, eq-eqb, ne_eqb}
use native.Mathlib.Omega.{arith}
use Rattle.items.proofs.look.Goals as goal

pub returns-then-s-lt8 : goal.returns-then-s-lt8
unfolding read read_by
returns-then-s-lt8 c = (rw (lt-ltb _ 8 c.if-s-lt8.true), tt)

pub slice_bounds-all_ff-end : goal.slice_bounds-all_ff-end
slice_bounds-all_ff-end c = sym (length-take-le 8 c.args.s.now (omega arith))

pub returns-then-all_ff : goal.returns-then-all_ff
unfolding read read_by
returns-then-all_ff c = (rw (le-ltb _ _ c.if-s-lt8.false, ← c.all_ff.ensures, c.if-all_ff.true), tt)

pub returns-then-len-le16-ne65535 : goal.returns-then-len-le16-ne65535
unfolding read read_by
returns-then-len-le16-ne65535 c = (
  rw (
    le-ltb _ _ c.if-s-lt8.false,
    ← c.all_ff.ensures,
    c.if-all_ff.false,
    ← c.le16-len.ensures.0,
    ← c.le16.ensures.0,
    ne_eqb _ _ c.if-len-le16-ne65535.true,
  ),
  omega arith,
)

pub returns-then-s-size : goal.returns-then-s-size
unfolding read read_by
returns-then-s-size c = (
  rw (
    le-ltb _ _ c.if-s-lt8.false,
    ← c.all_ff.ensures,
    c.if-all_ff.false,
    ← c.le16-len.ensures.0,
    ← c.le16.ensures.0,
    eq-eqb _ _ c.if-len-le16-ne65535.false,
    ← c.size.ensures.0,
    lt-leb _ _ c.if-s-size.true,
  ),
  omega arith,
)

pub returns : goal.returns
unfolding read read_by
returns c = (
  rw (
    le-ltb _ _ c.if-s-lt8.false,
    ← c.all_ff.ensures,
    c.if-all_ff.false,
    ← c.le16-len.ensures.0,
    ← c.le16.ensures.0,
    eq-eqb _ _ c.if-len-le16-ne65535.false,
    ← c.size.ensures.0,
    le-leb _ _ c.if-s-size.false,
  ),
  omega arith,
)
