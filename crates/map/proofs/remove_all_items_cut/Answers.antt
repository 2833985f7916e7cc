-- `map::remove_all_items_cut` meets its contract: a removal of all keys behind its refusals, while the power lasts.
use Rattle.rules.specs.Calls.{called, steps_of}
use Rattle.map.proofs.remove_all_items_cut.Goals as goal

pub returns : goal.returns
unfolding called steps_of
returns c = c.behind.ensures
