-- The words of a typed line.
use Rattle.std.specs.Prelude.{not, List, ℕ, length, ◌==◌, nat_le}
use Rattle.std.specs.List.{filter, slice_split}

-- what stands between bytes up to 32, where there is something
abbrev pub words_of : List ℕ → List (List ℕ)
words_of s = filter (λ w. not (length w == 0)) (slice_split (λ b. nat_le b 32) s)
