-- `capi::find_words` meets its contract: the words hold the first entries of the lent cache.
use mathlib.Core.Path.{◌≡◌}
use Prim.Native.Nat.{◌+◌, ◌-◌}
use lib.ListN.{length}
use native.Mathlib.Omega.{arith}
use Rattle.std.proofs.Common.{rules}
use Rattle.capi.proofs.Still.{find_none, find_some}
use Rattle.capi.proofs.find_words.Goals as goal

pub returns-in_err-i : goal.returns-in_err-i
returns-in_err-i c =
    let a = c.args in
    let h : length a.words.now ≡ 64 = search rules in
    let n : 32 + a.size - 32 ≡ a.size = omega arith in
    rw c.from_residual.ensures (find_none a.words.now h a.size c.requires a.key (rw n at c.in_err-i.ensures))

pub returns : goal.returns
returns c =
    let a = c.args in
    let h : length a.words.now ≡ 64 = search rules in
    let n : 32 + a.size - 32 ≡ a.size = omega arith in
    rw n (find_some a.words.now h a.size c.requires a.key c.in_ok-i.i (rw n at c.in_ok-i.ensures))
