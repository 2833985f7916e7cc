use Prim.Native.Nat.{◌-◌, ◌+◌}
use native.Mathlib.Omega.{arith}
use mathlib.Core.Path.{◌≡◌}
use mathlib.Core.Bool.{true, false, ◌||◌}
use Rattle.std.proofs.Common.{rules}
use Rattle.rules.specs.declared.{PageState.TheVariants.Open}
use Rattle.rules.specs.Pages.{same, state}
use Rattle.ring.proofs.Around.{up_is}
use Rattle.inspect.specs.Faults.{apart, seen}
use Rattle.inspect.proofs.Laws.{apart_none, apart_here, apart-on}
use Rattle.inspect.proofs.first_open_apart.Goals as goal
use Rattle.inspect.proofs.first_open_apart.Goals.{else-closed-via-then-closed+else-eq, else-closed-via-else-closed}

pub loop-init : goal.loop-init
loop-init c =
    let g = c.args.pages.now.geo in
    let n : g.pages - 0 ≡ g.pages = omega arith in
    (omega arith, rw (up_is g c.args.p (omega arith), n))

pub returns-then-eq : goal.returns-then-eq
returns-then-eq c =
    let s = c.args.pages.now in
    let l = c.loop in
    let t : same Open c.state-state.result ≡ true = search rules in
    let t' : apart l.closed (state s.geo s.img.now l.q) ≡ true = rw (c.if-closed.true, ← c.state-state.ensures) t in
    (l.invariant.0, apart_here s.geo s.img.now l.q (s.geo.pages - l.counter) l.closed _ l.invariant.1 (omega arith) t')

pub loop-preserved : goal.loop-preserved
loop-preserved c =
    let s = c.args.pages.now in
    let l = c.loop in
    let n : s.geo.pages - l.counter - 1 ≡ s.geo.pages - (l.counter + 1) = omega arith in
    let f : apart l.closed (state s.geo s.img.now l.q) ≡ false =
    rw (← c.state-state.ensures) (elim c.else-closed.branch [
      | else-closed-via-then-closed+else-eq w ↦ rw w.if-closed.true (search rules)
      | else-closed-via-else-closed w ↦ rw w.if-closed.false
    ]) in
    let t : l.closed || c.eq-closed.result ≡ seen l.closed (state s.geo s.img.now l.q) =
    rw (← c.state-state.ensures) (search rules) in (
      c.next-q.ensures.1,
      rw n at (apart-on s.geo s.img.now l.q (s.geo.pages - l.counter) l.closed _ l.invariant.1 (omega arith) f _
          c.next-q.result t c.next-q.ensures.0),
    )

pub returns : goal.returns
returns c =
    let s = c.args.pages.now in
    let l = c.loop in
    apart_none s.geo s.img.now l.q (s.geo.pages - l.counter) l.closed _ l.invariant.1 (omega arith)
