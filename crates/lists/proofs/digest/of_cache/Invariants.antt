-- `lists::digest::of_cache`: the digest of the entries that are read, and of those left, is that of all.
use Rattle.cache.specs.Code.{entries, pointers}
use Rattle.lists.specs.Says.{digest_entries}
use Rattle.std.proofs.Common.{◌≡◌, ◌<◌}
use Rattle.lists.proofs.digest.of_cache.Given as goal

abbrev pub invariant-loop-key : goal.invariant-loop-key
invariant-loop-key l =
    record {
      small : l.h < 4294967291;
      rest : digest_entries l.h (entries l.key-iterator.a.rest.now l.key-iterator.b.rest.now)
          ≡ digest_entries 1 (pointers 32 l.fn.cache);
    }
