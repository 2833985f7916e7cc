use mathlib.Core.Path.{refl}
use native.Mathlib.Omega.{arith}
use Rattle.fetch.specs.Code.{st_of}
use Rattle.fetch.proofs.Runs.{came_more, came_to}
use Rattle.store.proofs.Laws.{one_more, not-full, no_more, all_left}
use Rattle.store.proofs.turns.Goals as goal

pub loop-init : goal.loop-init
loop-init c = all_left c.args.key c.args.value.now c.args.storage.now

pub returns-in_default : goal.returns-in_default
returns-in_default c =
    let a = c.args in
    let l = c.loop in
    came_more (omega arith) (came_to (one_more a.key a.value.now a.storage.now.flash.now.geo.pages l.counter c.loop-test.true
    a.storage.now l.storage c.turn.new.storage _ c.turn.result l.invariant c.turn.ensures)
    (rw (not-full c.turn.result c.in_default.not-FullStorage) refl))

pub loop-preserved : goal.loop-preserved
loop-preserved c =
    let a = c.args in
    let l = c.loop in
    came_to (one_more a.key a.value.now a.storage.now.flash.now.geo.pages l.counter c.loop-test.true
    a.storage.now l.storage c.turn.new.storage _ c.turn.result l.invariant c.turn.ensures)
    (rw c.in-FullStorage.is refl)

pub returns : goal.returns
returns c =
    let a = c.args in
    let l = c.loop in
    came_more (omega arith) (came_to l.invariant
    (no_more a.key a.value.now a.storage.now.flash.now.geo (st_of l.storage) _ (omega arith)))
