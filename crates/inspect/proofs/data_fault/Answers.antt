use borrow.Author.Tests.{lt-ltb}
use mathlib.Core.Path.{◌≡◌, sym, ◌∙◌}
use Rattle.inspect.specs.Faults.{dirty, dirty_fault, first_dirty}
use Rattle.inspect.proofs.Laws.{dirty_here, dirty-on, told, passed}
use Rattle.inspect.proofs.data_fault.Goals as goal

pub returns-in-Some : goal.returns-in-Some
returns-in-Some c =
    let s = c.args.pages.now in
    let l = c.loop-q in
    let t = told (dirty s.geo s.img.now l.q) (dirty_fault s.geo s.img.now l.q) c.in-Some.fault
    (sym c.dirty_fault.ensures ∙ c.in-Some.is) in
    let d : first_dirty s.geo s.img.now ≡ l.q =
    sym l.invariant ∙ dirty_here s.geo s.img.now l.q c.loop-q-test.true t.0 in
    rw (d, lt-ltb _ _ c.loop-q-test.true, t.1)

pub loop-q-preserved : goal.loop-q-preserved
loop-q-preserved c =
    let s = c.args.pages.now in
    let l = c.loop-q in
    let t = passed (dirty s.geo s.img.now l.q) (dirty_fault s.geo s.img.now l.q) _
    (sym c.dirty_fault.ensures ∙ c.in_default.is) in
    sym (dirty-on s.geo s.img.now l.q c.loop-q-test.true t.0) ∙ l.invariant
