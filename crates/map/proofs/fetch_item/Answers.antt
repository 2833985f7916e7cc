-- `map::fetch_item` meets its contract: a fetch behind its refusals, with endless power.
use Rattle.map.proofs.Laws.{whole_endless}
use Rattle.rules.specs.Calls.{called}
use Rattle.map.proofs.fetch_item.Goals as goal

pub returns : goal.returns
unfolding called
returns c = whole_endless _ _ _ _ _ _ c.behind.ensures
