use native.Mathlib.Omega.{arith}
use mathlib.Core.Path.{refl, sym, ◌∙◌}
use Rattle.migrate.proofs.Laws.{copy_no, copy_yes, blank_is}
use Rattle.migrate.proofs.copy_one.Goals as goal

pub returns-then-not-all_ff : goal.returns-then-not-all_ff
returns-then-not-all_ff c =
    let s = c.args.storage.now in
    let b = rw c.pages.ensures.0 at c.all_ff.ensures in
    copy_no c.args.key c.args.at c.args.len c.args.to s
    (sym c.if-not-all_ff.true ∙ blank_is _ c.args.to _ _ _ c.size-span.ensures.0 b)

pub returns : goal.returns
returns c =
    let s = c.args.storage.now in
    let b = rw c.pages.ensures.0 at c.all_ff.ensures in
    copy_yes c.args.key c.args.at c.args.len c.args.to s c.note.new.self _ c.note.ensures.0 c.note.ensures.1
    c.copy_item.ensures refl refl refl refl c.size-span.result c.size-span.ensures.0
    (sym c.if-not-all_ff.false ∙ blank_is _ c.args.to _ _ _ c.size-span.ensures.0 b)
    (omega (arith, s.flash.now.held.low)) (omega arith) (omega arith)
