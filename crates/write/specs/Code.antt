-- The bytes that the code writes behind an item's header.
use Rattle.std.specs.Prelude.{ℕ, ◌+◌, List, ◌++◌, length}
use Rattle.rules.specs.Bytes.{to_le}
use Rattle.rules.specs.Items.{pad}

-- an item's data and its padding
unfoldable pub data_bytes : ℕ → ℕ → List ℕ → List ℕ
data_bytes w k v = (to_le 4 k ++ v) ++ pad w (4 + length v)
