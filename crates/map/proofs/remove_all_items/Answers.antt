-- `map::remove_all_items` meets its contract: a removal of all keys with endless power.
use Rattle.map.proofs.Laws.{whole_endless}
use Rattle.map.proofs.remove_all_items.Goals as goal

pub returns : goal.returns
returns c = whole_endless _ _ _ _ _ _ c.remove_all_items_cut.ensures
