use Rattle.remove.proofs.Laws.{PagesOn}
use Rattle.remove.specs.Code.{which_of}
use Prim.Native.Nat.{◌-◌}
use Rattle.remove.proofs.remove_pages.Given as goal

-- the run over the pages left, over the flash as it is, ends as the whole run
abbrev pub invariant-loop : goal.invariant-loop
invariant-loop l =
    PagesOn (which_of l.which) l.from l.initial.flash (l.initial.flash.geo.pages - l.counter) l.p l.flash
