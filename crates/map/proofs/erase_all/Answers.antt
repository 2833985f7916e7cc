-- `map::erase_all` meets its contract: an erase of all pages with endless power.
use Rattle.map.proofs.Laws.{whole_endless}
use Rattle.map.proofs.erase_all.Goals as goal

pub returns : goal.returns
returns c = whole_endless _ _ _ _ _ _ c.erase_all_cut.ensures
