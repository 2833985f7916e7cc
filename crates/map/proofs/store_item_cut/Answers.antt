-- `map::store_item_cut` meets its contract: a store behind its refusals, while the power lasts.
use Rattle.rules.specs.Calls.{called, steps_of}
use Rattle.map.proofs.store_item_cut.Goals as goal

pub returns : goal.returns
unfolding called steps_of
returns c = c.behind.ensures
