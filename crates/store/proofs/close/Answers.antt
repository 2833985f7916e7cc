-- The end mark, and then the rollover that the definition goes on with.
use mathlib.Core.Path.{refl}
use Rattle.rules.specs.declared.{Answer.TheVariants.Done, Answer.TheVariants.Corrupted}
use Rattle.store.proofs.Laws.{close_by}
use Rattle.store.proofs.close.Goals as goal

pub returns-in-Ok : goal.returns-in-Ok
returns-in-Ok c =
    close_by c.args.p _ _ _ c.rollover.new.storage c.mark_end.ensures refl refl refl refl
    (rw c.pages.ensures.1 at c.next-next.ensures.0) Done c.in-Ok.ensures

pub returns-in-Err : goal.returns-in-Err
returns-in-Err c =
    close_by c.args.p _ _ _ c.rollover.new.storage c.mark_end.ensures refl refl refl refl
    (rw c.pages.ensures.1 at c.next-next.ensures.0) Corrupted c.in-Err.ensures
