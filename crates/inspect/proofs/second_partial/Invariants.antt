use mathlib.Core.Path.{◌≡◌}
use Prim.Native.Nat.{◌-◌}
use Rattle.rules.specs.declared.{PageState.TheVariants.PartialOpen}
use Rattle.rules.specs.Pages.{up_from, first_with}
use Rattle.inspect.specs.Faults.{second_partial}
use Rattle.inspect.proofs.second_partial.Given as goal

-- no page after p and before q is PartialOpen
abbrev pub invariant-loop-q : goal.invariant-loop-q
invariant-loop-q l =
    first_with l.pages.geo PartialOpen l.pages.img.now (up_from l.q (l.pages.geo.pages - l.q))
    ≡ second_partial l.pages.geo l.pages.img.now l.p
