-- What the code's values stand for.
use Rattle.std.specs.Prelude.{ℕ, ◌+◌, ◌-◌, ◌≤◌, ◌<◌, Bool, true, false, List, take, drop, eqb}
use Rattle.std.specs.Prelude.{Option, None, Some, Result, Ok, Err}
use Rattle.items.specs.declared.Read.{Read}
use Rattle.items.specs.declared.Read.TheVariants.{End, Skip, Item}
use Rattle.items.specs.declared.Spot.{Spot}
use Rattle.items.specs.declared.Corrupt.{Corrupt}
use Rattle.rules.specs.Bytes.{both}
use Rattle.rules.specs.Items.{Item as TheItem, Reading, stop, skip, item, item_of, is_present, size, Scan, scan}
use Rattle.rules.specs.Fetch.{Found, corrupt, missing, found}

-- the bytes from a up to e
abbrev pub part : List ℕ → ℕ → ℕ → List ℕ
part img a e = take (e - a) (drop a img)

-- a reading of s that the code gives
abbrev pub read_of : List ℕ → Read → Reading
read_of s End = stop
read_of s Skip = skip
read_of s (Item L) = item (item_of s L)

-- a length of an item that is read
abbrev pub Fine : ℕ → ℕ → Read → Type 0
Fine w n End = Unit {0}
Fine w n Skip = 8 ≤ n
Fine w n (Item L) = (size w L ≤ n) × (8 + L ≤ n) × (L < 65536)

-- what the code says of a search: place and data length
abbrev pub told : Found → Result (Option Spot) Corrupt
told corrupt = Err (record {})
told missing = Ok None
told (found e) = Ok (Some (record { at = e.at; len = e.it.len }))

-- the scan from a place to the end of the area
abbrev pub scan_in : ℕ → List ℕ → ℕ → ℕ → Scan
scan_in w img a e = scan w (e - a) a (part img a e)

-- an item counts for a key: it is Present with it
abbrev pub counts : ℕ → TheItem → Bool
counts k i = both (is_present i.kind) (eqb i.key k)

-- a Present item has a key
abbrev pub Keyed : Bool → ℕ → Type 0
Keyed true L = 4 ≤ L
Keyed false L = Unit {0}

-- the place after what is read
abbrev pub Stays : ℕ → ℕ → ℕ → Read → Type 0
Stays w a e End = Unit {0}
Stays w a e Skip = a + w ≤ e
Stays w a e (Item L) = (a + size w L ≤ e) × (a + 8 + L ≤ e) × (L < 65536)

-- an item that is found lies before e and has a key
abbrev pub SpotIn : ℕ → Option Spot → Type 0
SpotIn e None = Unit {0}
SpotIn e (Some s) = (4 ≤ s.at) × (s.at + 8 + s.len ≤ e) × (4 ≤ s.len) × (s.len < 65536)
