-- One more page is erased in each turn.
use mathlib.Core.Path.{refl}
use native.Mathlib.Omega.{arith}
use Rattle.std.proofs.Common.{rules}
use Rattle.ring.proofs.Laws.{blanked_by, erased_none, erased_more, erased_all}
use Rattle.ring.proofs.flash.erase_each.Goals as goal

pub loop-p-init : goal.loop-p-init
loop-p-init c = (refl, erased_none c.args.geo c.args.img.now c.args.power.now)

pub loop-p-preserved : goal.loop-p-preserved
loop-p-preserved c =
    let a = c.args in
    let l = c.loop-p in (
      search rules,
      erased_more a.geo l.p a.img.now a.power.now l.img c.erase.new.img l.left c.erase.new.power c.loop-p-test.true
          l.invariant.1 (blanked_by _ _ _ _ _ l.p _ c.base-at.ensures.0 c.erase.ensures.0 c.erase.ensures.1),
    )

pub returns : goal.returns
returns c =
    let a = c.args in
    let l = c.loop-p in
    erased_all a.geo l.p a.img.now a.power.now l.img l.left (omega (arith, c.loop-p-test.false)) (omega (arith, l.auto.p-end))
    l.invariant.1
