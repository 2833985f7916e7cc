-- `capi::fetch_hit` meets its contract: refused, or a hit is what the fetch answers.
use mathlib.Core.Path.{◌≡◌}
use lib.ListN.{length}
use Rattle.std.proofs.Common.{rules}
use Rattle.capi.proofs.Still.{still_refused, still_hit}
use Rattle.capi.proofs.fetch_hit.Goals as goal

pub returns-in-Err : goal.returns-in-Err
returns-in-Err c =
    let a = c.args in
    still_refused a.page a.size a.key a.img.now a.words.now c.in-Err.no c.in-Err.ensures.is

pub returns : goal.returns
returns c =
    let a = c.args in
    let h : length a.words.now ≡ 64 = search rules in
    let spot = c.in_ok-spot in
    still_hit a.page a.size a.key a.img.now a.words.now c.in-Ok.geo c.in-Ok.ensures.is h c.in-Ok.ensures.fits.0
    c.in_ok-place.place c.in_ok-place.ensures spot.spot spot.ensures.0
