-- The item is written in the free spot, or the page is closed.
use mathlib.Core.Path.{refl, sym, ◌∙◌}
use Rattle.store.proofs.Laws.{fill_write, fill_close}
use Rattle.store.proofs.fill.Goals as goal

pub returns-then-has_free_spot : goal.returns-then-has_free_spot
returns-then-has_free_spot c =
    let a = c.args in
    let g = c.pages-pages.ensures in
    let t = sym c.if-has_free_spot.true ∙ c.has_free_spot.ensures in
    fill_write a.p a.key c.scan_end-at.result c.size-span.result a.value.now a.storage.now
    (rw g.1 at (rw g.0 at c.scan_end-at.ensures.0)) (rw g.1 at c.size-span.ensures.0) (rw g.1 at (rw g.0 at t))
    c.note.new.self _ c.note.ensures.0 c.note.ensures.1 c.write_item.ensures refl refl refl refl

pub returns : goal.returns
returns c =
    let a = c.args in
    let g = c.pages-pages.ensures in
    let t = sym c.if-has_free_spot.false ∙ c.has_free_spot.ensures in
    fill_close a.p a.key c.scan_end-at.result c.size-span.result a.value.now a.storage.now
    (rw g.1 at (rw g.0 at c.scan_end-at.ensures.0)) (rw g.1 at c.size-span.ensures.0) (rw g.1 at (rw g.0 at t))
    c.close.new.storage c.close.result c.close.ensures
