-- A walk at a cursor.
use Rattle.std.specs.Prelude.{ℕ, List}
use Rattle.std.specs.Borrow.{Bor}
use Rattle.rules.specs.declared.{Cursor.Cursor}
use Rattle.iter.specs.declared.{MapItemIter.MapItemIter}

abbrev pub walk_at : Bor (List ℕ) → Cursor → MapItemIter
walk_at img c = record { image = img; cursor = c }
