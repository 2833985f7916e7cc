use Rattle.remove.proofs.Laws.{pages_first, pages_on, pages_none}
use mathlib.Core.Path.{◌≡◌}
use Prim.Native.Nat.{suc, ◌+◌, ◌-◌}
use native.Mathlib.Omega.{arith}
use native.Mathlib.Nat.{sub-zero}
use Rattle.remove.proofs.remove_pages.Goals as goal

pub loop-init : goal.loop-init
loop-init c = rw sub-zero (pages_first _ _ _ c.requires)

pub loop-preserved : goal.loop-preserved
loop-preserved c =
    let pages = c.args.flash.now.geo.pages in
    let z : pages - c.loop.counter ≡ suc (pages - (c.loop.counter + 1)) = omega arith in
    search pages_on

pub returns : goal.returns
returns c = pages_none _ _ _ _ _ _ c.requires (omega arith) c.loop.invariant
