-- `capi::map_walk_start` meets its contract.
use Rattle.rules.specs.Calls.{fetch_all_items}
use Rattle.map.specs.Code.{lent_of, started_of}
use Rattle.capi.proofs.Small.{told-fits, start_fits}
use Rattle.capi.proofs.Ends.{start_no_cache, start_no_cursor, start_no_out, start_told}
use Rattle.capi.proofs.map_walk_start.Goals as goal

pub returns-in_default : goal.returns-in_default
returns-in_default c =
    let a = c.args in
    start_no_cache a.page a.size a.img.now a.cache.now a.cursor.now a.out.now c.in_default.ensures.cases

pub returns-in_default-as_mut_array : goal.returns-in_default-as_mut_array
returns-in_default-as_mut_array c =
    let a = c.args in
    let w = c.in-Some.ensures.cases in
    rw w.same (start_no_cursor a.page a.size a.img.now a.cache.now a.cursor.now a.out.now w.long
    c.in_default-as_mut_array.ensures.cases)

pub returns-in_default-as_mut_array-2 : goal.returns-in_default-as_mut_array-2
returns-in_default-as_mut_array-2 c =
    let a = c.args in
    let w = c.in-Some.ensures.cases in
    let v = c.in-Some-as_mut_array.ensures.cases in
    rw (w.same, v.same) (start_no_out a.page a.size a.img.now a.cache.now a.cursor.now a.out.now w.long v.long
    c.in_default-as_mut_array-2.ensures.cases)

pub keep_cursor-requires : goal.keep_cursor-requires
keep_cursor-requires c =
    let a = c.args in
    let r = c.fetch_all_items-s in
    start_fits a.page a.size (lent_of a.img.now c.cache_of.result) (started_of r.new.img r.result) r.ensures

pub finish-requires : goal.finish-requires
finish-requires c =
    let a = c.args in
    let r = c.fetch_all_items-s in
    told-fits a.page a.size fetch_all_items (lent_of a.img.now c.cache_of.result) (started_of r.new.img r.result)
    r.ensures

pub returns : goal.returns
returns c =
    let a = c.args in
    let w = c.in-Some.ensures.cases in
    let v = c.in-Some-as_mut_array.ensures.cases in
    let held = rw w.same at c.cache_of.ensures in
    let r = c.fetch_all_items-s in
    let k = rw v.same at c.keep_cursor.ensures in
    let f = c.finish in
    start_told a.page a.size a.img.now a.cache.now a.cursor.now a.out.now w.long v.long
    c.in-Some-as_mut_array-2.ensures.cases.long c.cache_of.result held r.new.img r.result r.ensures
    c.keep_cursor.new.words k f.result f.new.cache f.new.out f.ensures
