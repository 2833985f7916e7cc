-- `map::store_item` meets its contract: a store with endless power.
use Rattle.map.proofs.Laws.{whole_endless}
use Rattle.map.proofs.store_item.Goals as goal

pub returns : goal.returns
returns c = whole_endless _ _ _ _ _ _ c.store_item_cut.ensures
