use Rattle.remove.proofs.Laws.{page_open, page-items}
use Rattle.remove.proofs.remove_page.Goals as goal

pub returns-then-page_is : goal.returns-then-page_is
returns-then-page_is c =
    let same = c.pages-pages.ensures in
    page_open _ _ _ _ (rw (same.1, same.0) at c.page_is.ensures) c.if-page_is.true

pub returns : goal.returns
returns c =
    let same = c.pages-pages.ensures in
    let area = rw (c.data_at-from.ensures.0, c.end_at-end.ensures.0, same.1) at c.remove_entries.ensures in
    page-items _ _ _ _ (rw (same.1, same.0) at c.page_is.ensures) _ c.if-page_is.false area
