use Prim.Native.Nat.{◌-◌, ◌<◌}
use mathlib.Core.Path.{◌≡◌}
use Rattle.rules.specs.Fetch.{search_closed}
use Rattle.items.specs.Code.{told}
use Rattle.ring.specs.Code.{downs}
use Rattle.search.proofs.search_closed.Given as goal

-- the pages that are left hold what all of them hold
abbrev pub invariant-loop : goal.invariant-loop
invariant-loop l =
    (l.q < l.pages.geo.pages)
    × (told (search_closed l.pages.geo l.pages.img.now l.key (downs l.pages.geo (l.count - l.counter) l.q))
    ≡ told (search_closed l.pages.geo l.pages.img.now l.key (downs l.pages.geo l.count l.from)))
