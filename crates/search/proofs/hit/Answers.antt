use Rattle.search.proofs.Laws.{hit_in}
use Rattle.ring.proofs.Laws.{spot_mono}
use Rattle.rules.specs.Items.{read}
use Rattle.rules.specs.Fetch.{hit, hit_item}
use Rattle.items.specs.Code.{part, told}
use Rattle.std.specs.Prelude.{Ok}
use mathlib.Core.Path.{◌≡◌}
use Prim.Native.Nat.{◌+◌, ◌-◌, ◌%◌}
use lib.ListN.{length}
use borrow.Author.Tests.{lt-ltb, le-ltb, le-leb, lt-leb, eq-eqb, ne_eqb}
use native.Mathlib.Omega.{arith}
use Rattle.search.proofs.hit.Goals as goal

pub returns-then-geo-a : goal.returns-then-geo-a
unfolding hit
returns-then-geo-a c = (rw (le-ltb _ _ c.if-geo-a.true), tt)

pub returns-then-r-geo : goal.returns-then-r-geo
unfolding hit
returns-then-r-geo c = (rw (lt-ltb _ _ c.if-geo-a.false, lt-leb _ _ c.if-r-geo.true), tt)

pub returns-then-geo-r : goal.returns-then-geo-r
unfolding hit
returns-then-geo-r c = (rw (lt-ltb _ _ c.if-geo-a.false, le-leb _ _ c.if-r-geo.false, lt-leb _ _ c.if-geo-r.true), tt)

pub returns-then-r-geo-ne0 : goal.returns-then-r-geo-ne0
unfolding hit
returns-then-r-geo-ne0 c = (
  rw (
    lt-ltb _ _ c.if-geo-a.false,
    le-leb _ _ c.if-r-geo.false,
    le-leb _ _ c.if-geo-r.false,
    ne_eqb _ _ c.if-r-geo-ne0.true,
  ),
  tt,
)

pub returns : goal.returns
unfolding hit
returns c =
    let s = c.args.pages.now in
    let a = c.args in
    let h = hit_in s.geo (length s.img.now) a.a s.held c.if-geo-a.false c.if-geo-r.false in
    let r = a.a % s.geo.page in
    let here : Ok c.hit_at.result
    ≡ told (hit_item a.key a.a (read s.geo.word (part s.img.now a.a (a.a + (s.geo.page - s.geo.word - r))))) =
    c.hit_at.ensures.0 in
    let q : a.a + (s.geo.page - s.geo.word - r) - a.a ≡ s.geo.page - s.geo.word - r = omega arith in (
      rw (
        lt-ltb _ _ c.if-geo-a.false,
        le-leb _ _ c.if-r-geo.false,
        le-leb _ _ c.if-geo-r.false,
        eq-eqb _ _ c.if-r-geo-ne0.false,
      ) (rw q at here),
      spot_mono _ _ c.hit_at.result (omega arith) c.hit_at.ensures.1,
    )
