-- `capi::map_fetch_plain` meets its contract.
use mathlib.Core.List.{[]}
use Rattle.rules.specs.Calls.{no_cursor, fetch_plain}
use Rattle.map.specs.Code.{answered}
use Rattle.capi.proofs.Small.{told-fits}
use Rattle.capi.proofs.Ends.{plain_wrong, plain-told}
use Rattle.capi.proofs.map_fetch_plain.Goals as goal

pub returns-in_default : goal.returns-in_default
returns-in_default c = let a = c.args in plain_wrong a.page a.key a.img.now a.out.now c.in_default.ensures.cases

pub put_out-requires : goal.put_out-requires
put_out-requires c =
    let a = c.args in
    let r = c.fetch_plain-a in
    told-fits a.page 0 (fetch_plain a.key) (record { image = a.img.now; cache = [] })
    (answered r.result no_cursor (record { image = a.img.now; cache = [] })) (r.ensures.is 0 [])

pub returns : goal.returns
returns c =
    let a = c.args in
    let r = c.fetch_plain-a in
    plain-told a.page a.key a.img.now a.out.now c.in-Some.ensures.cases.long r.result r.ensures c.number.result _
    c.number.ensures c.put_out.ensures
