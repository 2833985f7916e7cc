-- A word of four, byte by byte.
use mathlib.Core.Path.{◌≡◌}
use native.Mathlib.Nat.{add-zero}
use Rattle.std.proofs.Common.{length}
use native.Mathlib.Omega.{arith}
use Rattle.words.proofs.Laws.{program_four}
use Rattle.words.proofs.and_bytes.Goals as goal

pub returns-in-len4 : goal.returns-in-len4
returns-in-len4 c =
    let a = c.args in
    let n : length a.bytes.now ≡ 4 = omega (arith, c.in-len4.len_at_least, c.in-len4.len_below) in
    rw add-zero at (program_four a.img.now a.bytes.now a.at n (omega arith))
