-- `lists::value::Rule::fill`: the bytes written, and then the value from here on, are the value.
use Rattle.lists.specs.Says.{value_of}
use Rattle.std.proofs.Common.{◌≡◌, ◌-◌, ◌++◌, length, take}
use Rattle.lists.proofs.value.Rule.fill.Given as goal

abbrev pub invariant-loop-x : goal.invariant-loop-x
invariant-loop-x l =
    take l.x-index l.s ++ value_of (length l.s - l.x-index) l.b l.self.step
    ≡ value_of (length l.s) l.self.first l.self.step
