-- `capi::cut_map` meets its contract: a wrong length is told by 255, and nothing changes; else the change runs with the
-- power that is lent, and what is left of it is written back.
use Rattle.capi.specs.Code.{change_call}
use Rattle.capi.proofs.Ends.{cut_wrong, cut-told, no_cache_length, no_power_length, no_out_length}
use Rattle.capi.proofs.cut_map.Goals as goal

pub returns-in_default : goal.returns-in_default
returns-in_default c =
    let a = c.args in
    cut_wrong a.page a.size (change_call a.job) a.img.now a.cache.now a.power.now a.out.now
    (no_cache_length _ _ _ c.in_default.ensures.cases)

pub returns-in_default-as_mut_array : goal.returns-in_default-as_mut_array
returns-in_default-as_mut_array c =
    let a = c.args in
    let w = c.in-Some.ensures.cases in
    rw w.same (cut_wrong a.page a.size (change_call a.job) a.img.now a.cache.now a.power.now a.out.now
    (no_power_length _ _ _ c.in_default-as_mut_array.ensures.cases))

pub returns-in_default-as_mut_array-2 : goal.returns-in_default-as_mut_array-2
returns-in_default-as_mut_array-2 c =
    let a = c.args in
    let w = c.in-Some.ensures.cases in
    let v = c.in-Some-as_mut_array.ensures.cases in
    rw (w.same, v.same) (cut_wrong a.page a.size (change_call a.job) a.img.now a.cache.now a.power.now a.out.now
    (no_out_length _ _ _ c.in_default-as_mut_array-2.ensures.cases))

pub returns : goal.returns
returns c =
    let a = c.args in
    let w = c.in-Some.ensures.cases in
    let v = c.in-Some-as_mut_array.ensures.cases in
    let held = rw w.same at c.cache_of.ensures in
    let r = c.run_cut-told in
    let cut = rw v.same at r.ensures in
    let f = c.finish in
    rw v.same (cut-told a.page a.size (change_call a.job) a.img.now a.cache.now a.power.now a.out.now
    (record { cache = w.long; power = v.long; out = c.in-Some-as_mut_array-2.ensures.cases.long })
    c.cache_of.result held r.new.img r.new.power r.result cut c.in_words.result c.in_words.ensures
    f.result f.new.cache f.new.out f.ensures)
