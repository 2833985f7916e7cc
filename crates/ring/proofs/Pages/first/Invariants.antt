use Prim.Native.Nat.{◌-◌}
use mathlib.Core.Path.{◌≡◌}
use Rattle.rules.specs.Pages.{first_with, first_page, up_from}
use Rattle.ring.proofs.Pages.first.Given as goal

-- no page before p is in the state
abbrev pub invariant-loop-p : goal.invariant-loop-p
invariant-loop-p l =
    first_with l.self.geo l.want l.self.img.now (up_from l.p (l.self.geo.pages - l.p))
    ≡ first_page l.self.geo l.want l.self.img.now
