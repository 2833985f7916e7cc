-- What the code's values stand for.
use Rattle.std.specs.Prelude.{ℕ, ◌+◌, ◌≤◌, ◌<◌, Bool, true, false, List, [], ◌∷◌, Option, None, Some}
use Rattle.rules.specs.declared.{Geo.Geo, PageState.PageState, PageState.TheVariants.Open, PageState.TheVariants.PartialOpen, PageState.TheVariants.Closed, PageState.TheVariants.Corrupted}
use Rattle.rules.specs.Bytes.{pick}
use Rattle.rules.specs.Items.{Entry, size}
use Rattle.rules.specs.Pages.{state, items_of}
use Rattle.rules.specs.Walk.{Step, ended, stepped, head_step}
use Rattle.items.specs.declared.Spot.{Spot}
use Rattle.walk.specs.declared.Stepped.{Stepped}

-- the first of entries, as a search tells it
abbrev pub head_spot : List Entry → Option Spot
head_spot [] = None
head_spot (x ∷ xs) = Some (record { at = x.at; len = x.it.len })

-- an item that is found has a key, and ends before e
abbrev pub Fits : ℕ → ℕ → Option Spot → Type 0
Fits w e None = Unit {0}
Fits w e (Some s) = (s.at + size w s.len ≤ e) × (s.at + 8 + s.len ≤ e) × (4 ≤ s.len) × (s.len < 65536)

-- a step, as the code tells it
abbrev pub told_step : Step → Option Stepped
told_step ended = None
told_step (stepped x c) = Some (record { key = x.it.key; place = x.at + x.it.voff; len = x.it.vlen; cursor = c })

-- "later ones if Closed or PartialOpen"
abbrev pub is_listed : PageState → Bool
is_listed Open = false
is_listed PartialOpen = true
is_listed Closed = true
is_listed Corrupted = false

-- a later page's first entry, where it is listed; else r
abbrev pub page_step : Geo → List ℕ → ℕ → ℕ → Step → Step
page_step G img first q r = pick (is_listed (state G img q)) (head_step G first q (items_of G img q) r) r
