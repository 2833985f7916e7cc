use mathlib.Core.Path.{◌≡◌}
use mathlib.Core.List.{reverse}
use Rattle.rules.specs.Pages.{first_with, last_page, up_from}
use Rattle.ring.proofs.Pages.last.Given as goal

-- no page from p on is in the state
abbrev pub invariant-loop-p : goal.invariant-loop-p
invariant-loop-p l =
    first_with l.self.geo l.want l.self.img.now (reverse (up_from 0 l.p))
    ≡ last_page l.self.geo l.want l.self.img.now
