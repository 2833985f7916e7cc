use mathlib.Core.Path.{refl}
use Rattle.mend.proofs.Laws.{redo_run}
use Rattle.mend.proofs.redo.Goals as goal

pub returns : goal.returns
returns c =
    let g = c.pages.ensures.1 in
    redo_run c.args.p c.next-source.result c.args.storage.now c.erase_page.new.self _ c.migrate_items.new.storage _
    c.erase_page.ensures c.mark_start.ensures refl refl refl refl (rw g at c.next-source.ensures.0) c.migrate_items.ensures
