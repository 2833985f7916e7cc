use Prim.Native.Nat.{◌-◌}
use mathlib.Core.Path.{◌≡◌}
use Rattle.rules.specs.Pages.{first_with, first_page, up_from}
use Rattle.rules.specs.declared.{PageState.TheVariants.Corrupted}
use Rattle.ring.proofs.Pages.any_corrupted.Given as goal

-- no page before p is corrupted
abbrev pub invariant-loop-p : goal.invariant-loop-p
invariant-loop-p l =
    first_with l.self.geo Corrupted l.self.img.now (up_from l.p (l.self.geo.pages - l.p))
    ≡ first_page l.self.geo Corrupted l.self.img.now
