use mathlib.Core.Path.{◌≡◌}
use Prim.Native.Nat.{◌-◌, ◌<◌}
use Rattle.ring.specs.Code.{ups}
use Rattle.inspect.specs.Faults.{open_after, open_apart}
use Rattle.inspect.proofs.first_open_apart.Given as goal

-- the first such page of those that are left is that of the ring
abbrev pub invariant-loop : goal.invariant-loop
invariant-loop l =
    (l.q < l.pages.geo.pages)
    × (open_after l.pages.geo l.pages.img.now l.closed (ups l.pages.geo (l.pages.geo.pages - l.counter) l.q)
    ≡ open_apart l.pages.geo l.pages.img.now l.p)
