-- `capi::put_cache` meets its contract.
use mathlib.Core.Path.{◌≡◌, refl, sym, ◌∙◌}
use lib.ListN.{length}
use Rattle.std.proofs.Common.{rules}
use Rattle.capi.proofs.Words.{both, cache_out}
use Rattle.capi.proofs.put_cache.Goals as goal

pub returns : goal.returns
returns c =
    let a = c.args in
    let h : length a.cache.keys ≡ 32 = search rules in
    let g : length a.cache.places ≡ 32 = search rules in
    let n : length a.words.now ≡ 64 = search rules in
    rw (c.copy_from_slice-2.ensures.after, c.copy_from_slice.ensures.after)
    (both a.words.now _ _ a.cache.keys a.cache.places h n refl refl ∙ sym (cache_out a.cache h g))
