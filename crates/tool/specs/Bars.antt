-- A bar of 32 cells.
use Rattle.std.specs.Prelude.{Bool, cond, ℕ, ◌+◌, ◌*◌, ◌/◌, min, max, ltb}

-- have the numbers from a up to b and those from lo up to hi one in common?
abbrev pub touches : ℕ → ℕ → ℕ → ℕ → Bool
touches a b lo hi = ltb (max a lo) (min b hi)

-- Cell k has the bytes from k parts of 32 on up to k + 1 parts, one byte at least. It shows x where a damaged byte is among
-- them, else - for a removed one, else # for a present one, else . for free ones.
abbrev pub cell_of : ℕ → ℕ → ℕ → ℕ → ℕ → ℕ
cell_of k present removed damaged free =
    let b = present + removed in
    let c = b + damaged in
    let all = c + free in
    let lo = k * all / 32 in
    let hi = max (lo + 1) ((k + 1) * all / 32) in
    cond (touches b c lo hi) 120 (cond (touches present b lo hi) 45 (cond (touches 0 present lo hi) 35 46))
