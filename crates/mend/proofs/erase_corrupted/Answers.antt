use native.Mathlib.Omega.{arith}
use mathlib.Core.Path.{refl, sym, ◌∙◌}
use Rattle.mend.proofs.Laws.{swept_refl, swept_yes, swept_no, swept_end}
use Rattle.mend.proofs.erase_corrupted.Goals.{then-page_is, else-page_is}
use Rattle.mend.proofs.erase_corrupted.Goals as goal

pub loop-p-init : goal.loop-p-init
loop-p-init c = (refl, omega arith, swept_refl c.args.storage.now)

pub loop-p-preserved : goal.loop-p-preserved
loop-p-preserved c =
    let s = c.args.storage.now in
    let l = c.loop-p in
    let t = rw (c.pages.ensures.0, c.pages.ensures.1, l.invariant.0) at c.page_is.ensures in
    elim c.if-page_is.branch [
      | then-page_is w ↦ rw w.storage-is (
        w.erase_page.ensures.page.same.geo ∙ l.invariant.0,
        omega (arith, w.erase_page.ensures.erased),
        swept_yes s l.storage l.p c.loop-p-test.true l.invariant.2 w.erase_page.new.self w.erase_page.ensures
            (sym t ∙ w.if-page_is.true),
      )
      | else-page_is w ↦ rw w.storage-is (
        l.invariant.0,
        omega arith,
        swept_no s l.storage l.p c.loop-p-test.true l.invariant.2 (sym t ∙ w.if-page_is.false),
      )
    ]

pub returns : goal.returns
returns c = swept_end c.args.storage.now c.loop-p.storage c.loop-p.p (omega arith) c.loop-p.invariant.2
