-- `capi::fetch_copied` meets its contract.
use mathlib.Core.Path.{◌≡◌}
use lib.ListN.{length}
use Rattle.std.proofs.Common.{rules}
use Rattle.rules.specs.Calls.{fetch_item}
use Rattle.map.specs.Code.{lent_of, told_of}
use Rattle.capi.proofs.Small.{told-fits}
use Rattle.capi.proofs.Ends.{told}
use Rattle.capi.proofs.fetch_copied.Goals as goal

pub finish-requires : goal.finish-requires
finish-requires c =
    let a = c.args in
    let r = c.fetch_item-told in
    told-fits a.page a.size (fetch_item a.key) (lent_of a.img.now c.cache_of.result) (told_of r.new.img r.result)
    r.ensures

pub returns : goal.returns
returns c =
    let a = c.args in
    let g : length a.cache.now ≡ 64 = search rules in
    let h : length a.out.now ≡ 5 = search rules in
    let r = c.fetch_item-told in
    let f = c.finish in
    told a.page a.size (fetch_item a.key) a.img.now a.cache.now a.out.now g h c.cache_of.result
    c.cache_of.ensures r.new.img r.result r.ensures f.result f.new.cache f.new.out f.ensures
