-- `index_of` meets its contract: what the search of both lists gives is the index.
use Rattle.std.proofs.Common.{rules}
use Rattle.std.proofs.lemmas.Iterator.{YieldsList-from_slice, YieldsList-from_zip}
use Rattle.std.proofs.lemmas.Iterator.Search.{position_from_yields_List}
use borrow.Author.Tests.{tests}
use Rattle.cache.proofs.Seek.{fits, sought}
use Rattle.cache.proofs.index_of.Goals as goal

pub returns : goal.returns
returns c =
    let a = c.args in
    sought a.key a.keys.now a.places.now c.requires c.position.result
    (position_from_yields_List (fits a.key) c.position.new.self _ c.position.result c.position.ensures.ran
    (YieldsList-from_zip (YieldsList-from_slice a.keys.now cc) (YieldsList-from_slice a.places.now cc))
    (λ x b q k. search (rules, tests)))
