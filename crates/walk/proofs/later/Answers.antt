use Prim.Native.Nat.{◌-◌, ◌+◌}
use native.Mathlib.Omega.{arith}
use mathlib.Core.Path.{◌≡◌}
use Rattle.ring.proofs.Around.{up_is}
use Rattle.walk.proofs.Laws.{later_first, later-stepped, later-ended, later-none}
use Rattle.walk.proofs.later.Goals as goal

pub loop-init : goal.loop-init
loop-init c =
    let g = c.args.pages.now.geo in
    let n : g.pages - 0 ≡ g.pages = omega arith in
    (omega arith, rw (up_is g c.args.from (omega arith), n))

pub returns-then-q-first : goal.returns-then-q-first
returns-then-q-first c =
    let s = c.args.pages.now in
    let l = c.loop in
    later_first s.geo s.img.now c.args.first l.q (s.geo.pages - l.counter) _ (omega arith) l.invariant.1
    c.if-q-first.true

pub returns-in-Some : goal.returns-in-Some
returns-in-Some c =
    let s = c.args.pages.now in
    let l = c.loop in
    later-stepped s.geo s.img.now c.args.first l.q (s.geo.pages - l.counter) _ (omega arith) l.invariant.1
    c.page_step.result c.in-Some.step c.page_step.ensures c.in-Some.is c.if-q-first.false

pub loop-preserved : goal.loop-preserved
loop-preserved c =
    let s = c.args.pages.now in
    let l = c.loop in
    let n : s.geo.pages - l.counter - 1 ≡ s.geo.pages - (l.counter + 1) = omega arith in (
      c.next-q.ensures.1,
      rw n at (later-ended s.geo s.img.now c.args.first l.q (s.geo.pages - l.counter) _ (omega arith) l.invariant.1
          c.page_step.result c.next-q.result c.page_step.ensures c.in_default.is c.if-q-first.false c.next-q.ensures.0),
    )

pub returns : goal.returns
returns c =
    let s = c.args.pages.now in
    let l = c.loop in
    later-none s.geo s.img.now c.args.first l.q (s.geo.pages - l.counter) _ (omega arith) l.invariant.1
