-- How a line of a list is read, byte by byte.
use Rattle.std.specs.Prelude.{◌≡◌, ℕ, ◌+◌, ◌-◌, ◌*◌, true, false, List, [], ◌∷◌, replicate, ◌==◌, nat_le, nat_lt}
use Rattle.std.specs.Prelude.{slice_index, slice_set, Option, Some, None, refl}
use Rattle.rules.specs.Bytes.{pick}
use Rattle.lists.specs.declared.{line.Call.Call, line.Line.Line, line.Line.TheVariants.Blank}
use Rattle.lists.specs.declared.{line.Line.TheVariants.Comment, line.Line.TheVariants.Broken}
use Rattle.lists.specs.declared.line.Line.TheVariants.{Call as Calling}

-- a call with this letter alone
abbrev pub lettered : ℕ → Call
lettered a = record { letter = a; count = 0; numbers = replicate 8 0; due = false }

-- a line with this letter alone: a line end begins nothing, # a comment, ? no line of a list
abbrev pub opened : ℕ → Line
opened a = pick (a == 10) Blank (pick (a == 35) Comment (pick (a == 63) Broken (Calling (lettered a))))

-- a space begins a number: not two spaces, not a ninth number
abbrev pub begun : Call → Option Call
begun c =
    let more : Call = record { letter = c.letter; count = c.count + 1; numbers = c.numbers; due = true } in
    pick c.due None (pick (nat_le 8 c.count) None (Some more))

-- a digit goes on with the last number, of 32 bits
abbrev pub grown : Call → ℕ → Option Call
grown c d =
    let last = c.count - 1 in
    let x = slice_index c.numbers last * 10 + d in
    let more : Call = record { letter = c.letter; count = c.count; numbers = slice_set c.numbers last x; due = false } in
    pick (c.count == 0) None (pick (nat_lt 8 c.count) None (pick (nat_lt 4294967295 x) None (Some more)))

-- a call's line, where it goes on
abbrev pub going_on : Option Call → Line
going_on None = Broken
going_on (Some c) = Calling c

-- a byte that is no line end
abbrev pub read_byte : Line → ℕ → Line
read_byte Blank b = opened b
read_byte Comment b = Comment
read_byte Broken b = Broken
read_byte (Calling c) b =
    let digit = pick (nat_lt b 48) None (pick (nat_lt 57 b) None (grown c (b - 48))) in
    going_on (pick (b == 32) (begun c) digit)

-- a line's bytes
abbrev pub read_all : Line → List ℕ → Line
read_all l [] = l
read_all l (b ∷ bs) = read_all (read_byte l b) bs

-- "f 12 0", the largest number, and one more
pub examples : (read_all Blank (102 ∷ 32 ∷ 49 ∷ 50 ∷ 32 ∷ 48 ∷ [])
    ≡ Calling (record { letter = 102; count = 2; numbers = 12 ∷ replicate 7 0; due = false }))
    × (read_all Blank (114 ∷ 32 ∷ 52 ∷ 50 ∷ 57 ∷ 52 ∷ 57 ∷ 54 ∷ 55 ∷ 50 ∷ 57 ∷ 53 ∷ [])
    ≡ Calling (record { letter = 114; count = 1; numbers = 4294967295 ∷ replicate 7 0; due = false }))
    × (read_all Blank (114 ∷ 32 ∷ 52 ∷ 50 ∷ 57 ∷ 52 ∷ 57 ∷ 54 ∷ 55 ∷ 50 ∷ 57 ∷ 54 ∷ []) ≡ Broken)
examples = (refl, refl, refl)
