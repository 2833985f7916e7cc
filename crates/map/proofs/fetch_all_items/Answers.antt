-- It is refused, or the walk starts, with endless power.
use mathlib.Core.Path.{refl, ap, ◌∙◌}
use borrow.Author.Rules.{rules}
use Rattle.laws.specs.Through.{thr_endless}
use Rattle.rules.specs.Runs.{End}
use Rattle.rules.specs.Walk.{walk_start}
use Rattle.rules.specs.Calls.{no_cursor, start_cursor, called}
use Rattle.cache.specs.Code.{pointers}
use Rattle.fetch.specs.Code.{st_of}
use Rattle.map.specs.Code.{first_cursor}
use Rattle.map.proofs.Laws.{refused, ran, has_first}
use Rattle.map.proofs.fetch_all_items.Goals as goal

pub returns-in-Err : goal.returns-in-Err
unfolding called
returns-in-Err c =
    let a = c.args in
    let no = c.in-Err.ensures.is in
    refused a.page a.size 0 a.img.now c.in-Err.no no.0 no.1 (λ G s. walk_start G s) start_cursor no_cursor
    (pointers 32 a.cache)

pub first_cursor-cursor-requires : goal.first_cursor-cursor-requires
first_cursor-cursor-requires c =
    let g = c.pages.ensures in
    let r = c.call-answer in
    let R = r.ensures.run in
    rw (g.0, g.1, R.keeps.same.geo)
    (has_first c.in-Ok.geo _ _ r.result (st_of r.new.storage) refl (thr_endless c.in-Ok.geo _ _ _ _ _ _ R.is))

pub returns : goal.returns
unfolding called
returns c =
    let a = c.args in
    let ok = c.in-Ok.ensures.is in
    let g = c.pages.ensures in
    let r = c.call-answer in
    let R = r.ensures.run in
    let whole = thr_endless c.in-Ok.geo _ _ _ _ _ _ R.is in
    let at = rw (R.keeps.same.geo) at (rw g.1 at (rw g.0 at c.first_cursor-cursor.ensures)) in
    ran a.page a.size 0 a.img.now ok.0 c.in-Ok.geo ok.1 (λ G s. walk_start G s) c.in-Ok.ensures.fits.0 a.cache
    r.new.storage r.result whole (ap (λ x. x.count) R.keeps.slots) R.keeps.past _ (search rules) start_cursor no_cursor
    c.first_cursor-cursor.result (at ∙ ap (λ (x : End). first_cursor c.in-Ok.geo x.ans x.st.img) whole)
