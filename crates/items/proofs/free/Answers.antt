use native.Mathlib.Omega.{arith}
use mathlib.Core.Path.{◌≡◌}
use Prim.Native.Nat.{◌+◌, ◌-◌}
use borrow.Author.Tests.{lt-leb, le-leb}
use Rattle.items.proofs.free.Goals as goal

pub returns-then-e-a : goal.returns-then-e-a
returns-then-e-a c = rw (lt-leb (c.args.a + c.args.m) c.args.e (omega arith))

pub returns : goal.returns
returns c =
    let a = c.args in
    let q : a.a + a.m - a.a ≡ a.m = omega arith in
    rw (le-leb (a.a + a.m) a.e (omega arith)) (rw q at c.all_ff.ensures)
