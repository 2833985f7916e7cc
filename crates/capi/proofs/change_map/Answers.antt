-- `capi::change_map` meets its contract: a wrong length is told by 255, and nothing changes; else the change runs.
use Rattle.map.specs.Code.{lent_of, told_of}
use Rattle.capi.specs.Code.{change_call}
use Rattle.capi.proofs.Small.{told-fits}
use Rattle.capi.proofs.Ends.{no_cache, no-out, told}
use Rattle.capi.proofs.change_map.Goals as goal

pub returns-in_default : goal.returns-in_default
returns-in_default c =
    let a = c.args in
    no_cache a.page a.size (change_call a.job) a.img.now a.cache.now a.out.now c.in_default.ensures.cases

pub returns-in_default-as_mut_array : goal.returns-in_default-as_mut_array
returns-in_default-as_mut_array c =
    let a = c.args in
    let w = c.in-Some.ensures.cases in
    rw w.same (no-out a.page a.size (change_call a.job) a.img.now a.cache.now a.out.now w.long
    c.in_default-as_mut_array.ensures.cases)

pub finish-requires : goal.finish-requires
finish-requires c =
    let a = c.args in
    let r = c.run-told in
    told-fits a.page a.size (change_call a.job) (lent_of a.img.now c.cache_of.result) (told_of r.new.img r.result)
    r.ensures

pub returns : goal.returns
returns c =
    let a = c.args in
    let w = c.in-Some.ensures.cases in
    let held = rw w.same at c.cache_of.ensures in
    let r = c.run-told in
    let f = c.finish in
    told a.page a.size (change_call a.job) a.img.now a.cache.now a.out.now w.long
    c.in-Some-as_mut_array.ensures.cases.long c.cache_of.result held r.new.img r.result r.ensures f.result f.new.cache
    f.new.out f.ensures
