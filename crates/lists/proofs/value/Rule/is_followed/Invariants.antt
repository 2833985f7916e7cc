-- `lists::value::Rule::is_followed`: what is left is compared with the value from here on.
use Rattle.lists.specs.Says.{value_of, alike}
use Rattle.std.proofs.Common.{◌≡◌, ◌-◌, length, drop}
use Rattle.lists.proofs.value.Rule.is_followed.Given as goal

abbrev pub invariant-loop-x : goal.invariant-loop-x
invariant-loop-x l =
    alike (drop l.x-index l.s) (value_of (length l.s - l.x-index) l.due l.self.step)
    ≡ alike l.s (value_of (length l.s) l.self.first l.self.step)
