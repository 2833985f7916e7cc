use Rattle.search.proofs.Laws.{from_is}
use Rattle.search.proofs.search_from.Goals as goal

pub returns-in-Some : goal.returns-in-Some
returns-in-Some c =
    let s = c.args.pages.now in (
      rw (from_is s.geo s.img.now c.args.key c.args.p c.requires, ← c.last_item.ensures.0, c.in-Some.is),
      rw c.in-Some.is at c.last_item.ensures.1,
    )

pub returns : goal.returns
returns c =
    let s = c.args.pages.now in (
      rw (
        from_is s.geo s.img.now c.args.key c.args.p c.requires,
        ← c.last_item.ensures.0,
        c.in_default.is,
        ← c.prev.ensures.0,
      ) c.search_closed.ensures.0,
      c.search_closed.ensures.1,
    )
