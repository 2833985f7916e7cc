-- The n turns have come through to the turns that are left.
use Prim.Native.Nat.{◌-◌}
use Rattle.rules.specs.Store.{turns}
use Rattle.fetch.specs.Code.{st_of, Came}
use Rattle.store.proofs.turns.Given as goal

abbrev pub invariant-loop : goal.invariant-loop
invariant-loop l =
    let s = l.initial.storage in
    let n = s.flash.now.geo.pages in
    Came l.counter s l.storage (turns s.flash.now.geo n l.key l.value (st_of s))
    (turns s.flash.now.geo (n - l.counter) l.key l.value (st_of l.storage))
