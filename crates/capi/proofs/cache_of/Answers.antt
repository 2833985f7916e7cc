-- `capi::cache_of` meets its contract: the first 32 words and the last 32 are all.
use mathlib.Core.Path.{◌≡◌, sym, ◌∙◌}
use Prim.Native.Nat.{◌-◌}
use lib.ListN.{length, drop, length-drop}
use lib.Seq.{take_all}
use native.Mathlib.Omega.{arith}
use Rattle.std.proofs.Common.{rules}
use Rattle.capi.proofs.Words.{cache_in}
use Rattle.capi.proofs.cache_of.Goals as goal

pub returns-in-Some-Some : goal.returns-in-Some-Some
returns-in-Some-Some c =
    let ws = c.args.words.now in
    let h : length ws ≡ 64 = search rules in
    let half : length ws - 32 ≡ 32 = omega arith in
    let last = rw half at c.in-Some-Some.ensures'.cases.1.same in
    cache_in ws _ _ h c.in-Some-Some.ensures.cases.same
    (last ∙ sym (take_all 32 (drop 32 ws) (omega (arith, length-drop 32 ws))))
