-- `map::view` meets its contract: the part lies in the image, or it does not.
use Prim.Native.Nat.{◌+◌, ◌-◌, ◌<◌}
use mathlib.Core.Path.{◌≡◌}
use lib.ListN.{length}
use Rattle.rules.specs.Fetch.{view}
use borrow.Author.Tests.{le-leb, lt-leb}
use native.Mathlib.Omega.{arith}
use Rattle.map.proofs.view.Goals as goal
use Rattle.map.proofs.view.Goals.{else-place-img, then-place-img+else-len-img}

pub returns-then-len-img : goal.returns-then-len-img
unfolding view
returns-then-len-img c =
    let a = c.args in
    let d : a.place + a.len - a.place ≡ a.len = omega arith in
    rw (le-leb (a.place + a.len) (length a.img.now) (omega arith), d)

pub returns : goal.returns
unfolding view
returns c =
    let a = c.args in
    let out : length a.img.now < a.place + a.len = elim c.if-place-img.branch
    [ then-place-img+else-len-img w ↦ omega arith | else-place-img w ↦ omega arith ] in
    rw (lt-leb (a.place + a.len) (length a.img.now) out)
