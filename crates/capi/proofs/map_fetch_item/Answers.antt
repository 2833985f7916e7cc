-- `capi::map_fetch_item` meets its contract.
use Rattle.rules.specs.Calls.{fetch_item}
use Rattle.capi.proofs.Ends.{no_cache, no-out}
use Rattle.capi.proofs.Still.{still_told, still_fits}
use Rattle.capi.proofs.map_fetch_item.Goals as goal

pub returns-in_default : goal.returns-in_default
returns-in_default c =
    let a = c.args in
    no_cache a.page a.size (fetch_item a.key) a.img.now a.cache.now a.out.now c.in_default.ensures.cases

pub returns-in_default-as_mut_array : goal.returns-in_default-as_mut_array
returns-in_default-as_mut_array c =
    let a = c.args in
    let w = c.in-Some.ensures.cases in
    rw w.same (no-out a.page a.size (fetch_item a.key) a.img.now a.cache.now a.out.now w.long
    c.in_default-as_mut_array.ensures.cases)

pub put_out-requires : goal.put_out-requires
put_out-requires c =
    let a = c.args in
    let t = c.in-Some-fetch_still in
    still_fits a.page a.size a.key a.img.now c.in-Some.cache.now t.a t.ensures

pub returns : goal.returns
returns c =
    let a = c.args in
    let w = c.in-Some.ensures.cases in
    let t = c.in-Some-fetch_still in
    let S = rw w.same at t.ensures in
    rw w.same (still_told a.page a.size a.key a.img.now a.cache.now a.out.now w.long
    c.in-Some-as_mut_array.ensures.cases.long t.a S c.number.result c.put_out.new.out c.number.ensures
    c.put_out.ensures)
