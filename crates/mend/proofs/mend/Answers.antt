use mathlib.Core.Path.{sym, ◌∙◌}
use Rattle.mend.proofs.Laws.{mend_none, mend_open, mend_redo}
use Rattle.mend.proofs.mend.Goals as goal

pub returns-in_default : goal.returns-in_default
returns-in_default c =
    let q = c.pages-pages.ensures in
    mend_none c.args.storage.now (rw (c.in_default.is, q.0, q.1) at c.first.ensures)

pub returns-then-page_is : goal.returns-then-page_is
returns-then-page_is c =
    let q = c.pages-pages.ensures in
    let f = rw (c.in-Some.is, q.0, q.1) at c.first.ensures in
    let n = rw (c.next.ensures.0, q.0, q.1) at c.page_is.ensures in
    mend_open c.args.storage.now c.in-Some.p f.0 f.1 (sym n ∙ c.if-page_is.true)

pub returns : goal.returns
returns c =
    let q = c.pages-pages.ensures in
    let f = rw (c.in-Some.is, q.0, q.1) at c.first.ensures in
    let n = rw (c.next.ensures.0, q.0, q.1) at c.page_is.ensures in
    mend_redo c.args.storage.now c.in-Some.p f.0 f.1 c.redo.new.storage _ (sym n ∙ c.if-page_is.false) c.redo.ensures
