use Rattle.rules.specs.Fetch.{newest}
use borrow.Author.Tests.{lt-ltb, le-ltb}
use native.Mathlib.Omega.{arith}
use Rattle.search.proofs.newest.Goals as goal

pub returns-in-Some-clause-is : goal.returns-in-Some-clause-is
unfolding newest
returns-in-Some-clause-is c =
    let p = c.in-Some.ensures in
    rw (← p.1, lt-ltb _ _ p.0) c.search_from.ensures.0

pub returns-in_default-first-clause-is : goal.returns-in_default-first-clause-is
unfolding newest
returns-in_default-first-clause-is c =
    let g = c.args.pages.now.geo.pages in
    rw (c.in_default.ensures, c.in_default-first.ensures, le-ltb g g (omega arith))

pub returns-then-page_is-clause-is : goal.returns-then-page_is-clause-is
unfolding newest
returns-then-page_is-clause-is c =
    let g = c.args.pages.now.geo.pages in
    let o = c.in-Some-first.ensures in
    rw (
      c.in_default.ensures,
      le-ltb g g (omega arith),
      ← o.1,
      lt-ltb _ _ o.0,
      ← c.prev-q.ensures.0,
      ← c.page_is.ensures,
      c.if-page_is.true,
    ) c.search_from-then-page_is.ensures.0

pub returns-clause-is : goal.returns-clause-is
unfolding newest
returns-clause-is c =
    let g = c.args.pages.now.geo.pages in
    let o = c.in-Some-first.ensures in
    rw (
      c.in_default.ensures,
      le-ltb g g (omega arith),
      ← o.1,
      lt-ltb _ _ o.0,
      ← c.prev-q.ensures.0,
      ← c.page_is.ensures,
      c.if-page_is.false,
    )
