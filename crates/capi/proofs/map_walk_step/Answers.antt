-- `capi::map_walk_step` meets its contract.
use mathlib.Core.List.{[]}
use Rattle.rules.specs.Calls.{next_item}
use Rattle.map.specs.Code.{answered}
use Rattle.capi.proofs.Small.{told-fits, step_fits}
use Rattle.capi.proofs.Ends.{step_no_cursor, step_no_out, step_told}
use Rattle.capi.proofs.map_walk_step.Goals as goal

pub returns-in_default : goal.returns-in_default
returns-in_default c =
    let a = c.args in
    step_no_cursor a.page a.img.now a.cursor.now a.out.now c.in_default.ensures.cases

pub returns-in_default-as_mut_array : goal.returns-in_default-as_mut_array
returns-in_default-as_mut_array c =
    let a = c.args in
    let w = c.in-Some.ensures.cases in
    rw w.same (step_no_out a.page a.img.now a.cursor.now a.out.now w.long c.in_default-as_mut_array.ensures.cases)

pub keep_cursor-requires : goal.keep_cursor-requires
keep_cursor-requires c =
    let a = c.args in
    let at = c.cursor_of in
    let r = c.next_item-s in
    step_fits a.page 0 at.result (record { image = a.img.now; cache = [] })
    (answered r.result.answer r.result.cursor (record { image = a.img.now; cache = [] })) (r.ensures.is 0 [])
    at.ensures.1

pub put_out-requires : goal.put_out-requires
put_out-requires c =
    let a = c.args in
    let at = c.cursor_of in
    let r = c.next_item-s in
    told-fits a.page 0 (next_item at.result) (record { image = a.img.now; cache = [] })
    (answered r.result.answer r.result.cursor (record { image = a.img.now; cache = [] })) (r.ensures.is 0 [])

pub returns : goal.returns
returns c =
    let a = c.args in
    let w = c.in-Some.ensures.cases in
    let at = rw w.same at c.cursor_of.ensures in
    let k = rw w.same at c.keep_cursor.ensures in
    let r = c.next_item-s in
    step_told a.page a.img.now a.cursor.now a.out.now w.long c.in-Some-as_mut_array.ensures.cases.long
    c.cursor_of.result at.0 r.result r.ensures c.keep_cursor.new.words k c.number.result _ c.number.ensures
    c.put_out.ensures
