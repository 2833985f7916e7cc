-- The start mark, and then the migration if the page after it is not Open.
use mathlib.Core.Path.{refl, sym, ◌∙◌}
use Rattle.store.proofs.Laws.{roll_open, roll_move}
use Rattle.store.proofs.rollover.Goals as goal

pub returns-then-page_is : goal.returns-then-page_is
returns-then-page_is c =
    let g = c.pages-pages.ensures in
    let t = sym c.page_is.ensures ∙ c.if-page_is.true in
    roll_open c.args.q _ _ _ c.mark_start.ensures refl refl refl refl (rw g.1 at c.next-source.ensures.0)
    (rw g.1 at (rw g.0 at t))

pub returns : goal.returns
returns c =
    let g = c.pages-pages.ensures in
    let t = sym c.page_is.ensures ∙ c.if-page_is.false in
    roll_move c.args.q _ _ _ c.mark_start.ensures refl refl refl refl (rw g.1 at c.next-source.ensures.0)
    (rw g.1 at (rw g.0 at t)) _ _ c.migrate_items.ensures
