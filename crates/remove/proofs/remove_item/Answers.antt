use Rattle.remove.proofs.Laws.{item_yes, item-no}
use Rattle.fetch.proofs.Laws.{same_refl}
use mathlib.Core.Path.{refl}
use Rattle.remove.proofs.remove_item.Goals as goal

pub returns-then-matches : goal.returns-then-matches
returns-then-matches c =
    item_yes _ _ _ _ _ (rw c.pages.ensures.0 at c.matches.ensures) c.if-matches.true c.program.ensures

pub returns-else-matches : goal.returns-else-matches
returns-else-matches c =
    item-no _ _ _ _ _ (rw c.pages.ensures.0 at c.matches.ensures) c.if-matches.false (same_refl _) refl refl
