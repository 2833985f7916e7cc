use Prim.Native.Nat.{◌-◌, ◌<◌}
use mathlib.Core.Path.{◌≡◌}
use Rattle.rules.specs.Pages.{ring_up}
use Rattle.rules.specs.Walk.{later_pages}
use Rattle.ring.specs.Code.{ups}
use Rattle.walk.specs.Code.{told_step}
use Rattle.walk.proofs.later.Given as goal

-- the step of the pages that are left is the step of all
abbrev pub invariant-loop : goal.invariant-loop
invariant-loop l =
    (l.q < l.pages.geo.pages)
    × (told_step (later_pages l.pages.geo l.pages.img.now l.first
    (ups l.pages.geo (l.pages.geo.pages - l.counter) l.q))
    ≡ told_step (later_pages l.pages.geo l.pages.img.now l.first (ring_up l.pages.geo l.from)))
