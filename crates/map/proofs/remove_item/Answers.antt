-- `map::remove_item` meets its contract: a removal with endless power.
use Rattle.map.proofs.Laws.{whole_endless}
use Rattle.map.proofs.remove_item.Goals as goal

pub returns : goal.returns
returns c = whole_endless _ _ _ _ _ _ c.remove_item_cut.ensures
