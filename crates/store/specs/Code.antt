-- What the store's code says of its runs.
use Rattle.std.specs.Prelude.{ℕ, ◌+◌, List, length}
use Rattle.rules.specs.declared.{Geo.Geo, Answer.TheVariants.Done, Answer.TheVariants.FullStorage}
use Rattle.rules.specs.Bytes.{pick}
use Rattle.rules.specs.Items.{size, encode}
use Rattle.rules.specs.Pages.{scan_of, has_free_spot, next, end_at, zero_word}
use Rattle.rules.specs.Runs.{St, Out, out, on_done, programming, noting}
use Rattle.rules.specs.Store.{rollover}

-- a turn's part that closes page p
abbrev pub roll_of : Geo → ℕ → St → Out
roll_of G p s = programming (end_at G p) (zero_word G) s (λ s'. on_done (rollover G (next G p) s') (out FullStorage))

-- a turn's part on the PartialOpen page p
abbrev pub fill_of : Geo → ℕ → ℕ → List ℕ → St → Out
fill_of G p k v s =
    let a = (scan_of G s.img p).end in
    let write = programming a (encode G.word k v) (noting k a s) (out Done) in
    pick (has_free_spot G s.img p (size G.word (4 + length v))) write (roll_of G p s)
