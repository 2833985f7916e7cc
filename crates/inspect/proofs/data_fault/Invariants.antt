use mathlib.Core.Path.{◌≡◌}
use Prim.Native.Nat.{◌-◌}
use Rattle.rules.specs.Pages.{up_from}
use Rattle.inspect.specs.Faults.{dirty, first_by, first_dirty}
use Rattle.inspect.proofs.data_fault.Given as goal

-- no page before q is dirty
abbrev pub invariant-loop-q : goal.invariant-loop-q
invariant-loop-q l =
    first_by l.pages.geo (dirty l.pages.geo l.pages.img.now) (up_from l.q (l.pages.geo.pages - l.q))
    ≡ first_dirty l.pages.geo l.pages.img.now
