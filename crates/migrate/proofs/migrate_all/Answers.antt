use native.Mathlib.Omega.{arith}
use mathlib.Core.Path.{refl}
use mathlib.Core.Logic.{⊎_elim, inl, inr}
use Rattle.fetch.specs.Code.{st_of}
use Rattle.migrate.proofs.Laws.{run_none, run_end, run_skip, run_item, len_same, reached_refl, all_done, reached_skip}
use Rattle.migrate.proofs.Laws.{all_bad, reached_item}
use Rattle.migrate.proofs.migrate_all.Goals as goal

pub loop-at-init : goal.loop-at-init
loop-at-init c = reached_refl c.args.a c.args.e c.args.to c.args.storage.now c.requires.0 c.requires.1

pub look_at-requires : goal.look_at-requires
look_at-requires c =
    let s = c.args.storage.now in
    let l = len_same s c.loop-at.storage c.loop-at.invariant.keeps in
    (c.loop-at.invariant.high, rw c.pages.ensures.0 (omega arith), s.flash.now.held.low, s.flash.now.held.high)

pub returns-in-End : goal.returns-in-End
returns-in-End c =
    let a = c.args in
    let s = a.storage.now in
    let l = c.loop-at in
    let n = len_same s l.storage l.invariant.keeps in
    let q = rw c.pages.ensures.0 at c.look_at.ensures.0 in
    all_done a.a a.e a.to s l.at l.next l.storage l.invariant
    (run_end s.flash.now.geo (omega (arith, s.flash.now.held.low)) (st_of l.storage) l.at a.e l.next (omega arith)
    c.look_at.result c.loop-at-test.true q c.in-End.is)

pub loop-at-preserved-in-Skip : goal.loop-at-preserved-in-Skip
loop-at-preserved-in-Skip c =
    let a = c.args in
    let s = a.storage.now in
    let l = c.loop-at in
    let n = len_same s l.storage l.invariant.keeps in
    let q = rw c.pages.ensures.0 at c.look_at.ensures.0 in
    let f = rw c.in-Skip.is at c.look_at.ensures.1 in
    reached_skip a.a a.e a.to s l.at l.next l.storage l.invariant
    (run_skip s.flash.now.geo (omega (arith, s.flash.now.held.low)) (st_of l.storage) l.at a.e l.next (omega arith)
    c.look_at.result c.loop-at-test.true q c.in-Skip.is) f

pub migrate_one-requires : goal.migrate_one-requires
migrate_one-requires c =
    let a = c.args in
    let s = a.storage.now in
    let l = c.loop-at in
    let I = l.invariant in
    let n = len_same s l.storage I.keeps in
    let f = rw c.in-Item.is at c.look_at.ensures.1 in
    let q = rw c.pages.ensures.0 at (rw c.in-Item.is at c.look_at.ensures.0) in
    rw I.keeps.same.geo (
      f.2,
      I.lies,
      q,
      f.0,
      omega arith,
      omega (arith, I.room, f.0),
      ⊎_elim (λ y. inl (omega (arith, I.room, I.low, f.0, y))) (λ y. inr (omega (arith, I.grown, y))) c.requires.4,
    )

pub returns-in_err-next-in-Item : goal.returns-in_err-next-in-Item
returns-in_err-next-in-Item c =
    let a = c.args in
    let s = a.storage.now in
    let l = c.loop-at in
    let n = len_same s l.storage l.invariant.keeps in
    let q = rw c.pages.ensures.0 at c.look_at.ensures.0 in
    all_bad a.a a.e a.to s l.at l.next l.storage l.invariant c.in-Item.len c.migrate_one.new.storage c.migrate_one.result
    c.migrate_one.ensures
    (run_item s.flash.now.geo (omega (arith, s.flash.now.held.low)) (st_of l.storage) l.at a.e l.next (omega arith)
    c.look_at.result c.loop-at-test.true q c.in-Item.len c.in-Item.is)
    (rw c.in_err-next-in-Item.was refl) c.from_residual.result c.from_residual.ensures.0

pub loop-at-preserved : goal.loop-at-preserved
loop-at-preserved c =
    let a = c.args in
    let s = a.storage.now in
    let l = c.loop-at in
    let n = len_same s l.storage l.invariant.keeps in
    let q = rw c.pages.ensures.0 at c.look_at.ensures.0 in
    let f = rw c.in-Item.is at c.look_at.ensures.1 in
    rw c.size-at.ensures.0
    (reached_item a.a a.e a.to s l.at l.next l.storage l.invariant c.in-Item.len c.migrate_one.new.storage
    c.migrate_one.result c.migrate_one.ensures
    (run_item s.flash.now.geo (omega (arith, s.flash.now.held.low)) (st_of l.storage) l.at a.e l.next (omega arith)
    c.look_at.result c.loop-at-test.true q c.in-Item.len c.in-Item.is)
    c.in_ok-next-in-Item.next c.in_ok-next-in-Item.was f.0 c.requires.4)

pub returns : goal.returns
returns c =
    let a = c.args in
    let s = a.storage.now in
    let l = c.loop-at in
    let n = len_same s l.storage l.invariant.keeps in
    all_done a.a a.e a.to s l.at l.next l.storage l.invariant
    (run_none s.flash.now.geo (omega (arith, s.flash.now.held.low)) (st_of l.storage) l.at a.e l.next (omega arith)
    c.loop-at-test.false)
