-- Where the cache has the item's own place, the fetch finds the item there.
use mathlib.Core.Path.{sym}
use Rattle.fetch.specs.Code.{st_of}
use Rattle.fetch.proofs.Laws.{fetch-hit}
use Rattle.fetch.proofs.storage.Storage.fetch_own.Goals as goal

pub returns-in-Some-clause-found : goal.returns-in-Some-clause-found
returns-in-Some-clause-found c =
    let s = c.args.self.now in
    sym (fetch-hit s.flash.now.geo c.args.key (st_of s) c.in-Some.place c.in-Some.ensures.0 c.in-Some.ensures.1 c.args.own
    (rw c.if-place-own.true c.requires)).0

pub returns-in-Some-clause-state : goal.returns-in-Some-clause-state
returns-in-Some-clause-state c =
    let s = c.args.self.now in
    sym (fetch-hit s.flash.now.geo c.args.key (st_of s) c.in-Some.place c.in-Some.ensures.0 c.in-Some.ensures.1 c.args.own
    (rw c.if-place-own.true c.requires)).1
