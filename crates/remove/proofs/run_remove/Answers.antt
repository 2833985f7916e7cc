use Rattle.remove.proofs.Laws.{removed}
use mathlib.Core.Path.{refl}
use Rattle.remove.proofs.run_remove.Goals as goal

pub returns : goal.returns
returns c =
    removed _ _ _ _ _ c.forget.ensures.state c.forget.ensures.kept
    (rw (c.pages.ensures.1, c.pages.ensures.0) at c.start-from.ensures.0) c.remove_pages.ensures refl refl refl refl
