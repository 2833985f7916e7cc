-- The last of each key.
use Rattle.std.specs.Prelude.{Bool, not, List, ℕ, ◌+◌, get_or, drop, eqb}
use Rattle.std.specs.List.{list_any}

-- does x stand in the list?
abbrev pub member : ℕ → List ℕ → Bool
member x ys = list_any (eqb x) ys

-- does the key at index k stand at no later index?
abbrev pub is_last : List ℕ → ℕ → Bool
is_last keys k = not (member (get_or keys k 0) (drop (k + 1) keys))
