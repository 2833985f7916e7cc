-- Each fault, and tallies, by computation.
use Rattle.std.specs.Prelude.{◌≡◌, refl, ℕ, List, [], ◌∷◌, ◌++◌, None, Some, replicate}
use Rattle.rules.specs.declared.{PageState.TheVariants.PartialOpen, PageState.TheVariants.Closed}
use Rattle.rules.specs.declared.Answer.TheVariants.{EndRangeNotAtPageBoundary, RangeTooSmall, PagesTooSmall, Geometry}
use Rattle.rules.specs.Bytes.{zeros_in, zero_bits, round_up}
use Rattle.rules.specs.Items.{read_by, read, size, pad, encode, encode_data, scan}
use Rattle.rules.specs.Pages.{state, scan_of, ring_up}
use Rattle.rules.specs.Answers.{refusal}
use Rattle.inspect.specs.declared.{Fault.TheVariants.Refused, Fault.TheVariants.CorruptedPage}
use Rattle.inspect.specs.declared.{Fault.TheVariants.NoPartialOpen, Fault.TheVariants.SecondPartialOpen}
use Rattle.inspect.specs.declared.{Fault.TheVariants.NextNotOpen, Fault.TheVariants.OpenApart}
use Rattle.inspect.specs.declared.{Fault.TheVariants.DataNotBlank, Fault.TheVariants.TailNotBlank}
use Rattle.inspect.specs.Faults.{blank_fault, used_fault, page_fault, first_fault}
use Rattle.inspect.specs.Tallies.{no_tally, tally_by, tally_of}

-- a page of 32 bytes: the bytes of its start word, its data, the bytes of its end word
abbrev page : ℕ → List ℕ → ℕ → List ℕ
page s d e = replicate 4 s ++ d ++ replicate 4 e

abbrev opened : List ℕ
opened = page 255 (replicate 24 255) 255

abbrev partial : List ℕ
partial = page 0 (replicate 24 255) 255

abbrev closed : List ℕ
closed = page 0 (replicate 24 255) 0

abbrev broken : List ℕ
broken = page 255 (replicate 24 255) 0

-- eight blank bytes and then one that is not
abbrev late : List ℕ
late = replicate 8 255 ++ 254 ∷ replicate 15 255

-- sound, refused, and each further fault; where two are there the first is told
faults : (first_fault 4 32 (opened ++ opened ++ opened ++ opened) ≡ None)
    × (first_fault 4 32 (closed ++ partial ++ opened ++ closed) ≡ None)
    × (first_fault 4 48 (opened ++ opened ++ opened ++ opened) ≡ Some (Refused EndRangeNotAtPageBoundary))
    × (first_fault 4 32 broken ≡ Some (Refused RangeTooSmall))
    × (first_fault 4 0 [] ≡ Some (Refused PagesTooSmall))
    × (first_fault 4 22 (replicate 44 0) ≡ Some (Refused Geometry))
    × (first_fault 4 32 (closed ++ broken ++ partial ++ broken) ≡ Some (CorruptedPage 1))
    × (first_fault 4 32 (page 255 late 255 ++ opened ++ closed ++ closed) ≡ Some (NoPartialOpen 2))
    × (first_fault 4 32 (closed ++ partial ++ closed ++ partial) ≡ Some (SecondPartialOpen 3))
    × (first_fault 4 32 (closed ++ opened ++ opened ++ partial) ≡ Some (NextNotOpen 0))
    × (first_fault 4 32 (opened ++ partial ++ page 255 late 255 ++ closed) ≡ Some (OpenApart 0))
    × (first_fault 4 32 (closed ++ page 0 late 255 ++ page 255 late 255 ++ closed) ≡ Some (DataNotBlank 2 76))
    × (first_fault 4 32 (closed ++ page 0 late 255 ++ opened ++ closed) ≡ Some (TailNotBlank 1 44))
unfolding first_fault refusal page_fault used_fault blank_fault state zeros_in zero_bits ring_up scan_of scan read read_by size round_up
faults = (refl, refl, refl, refl, refl, refl, refl, refl, refl, refl, refl, refl, refl)

-- page 0: an item with two value bytes, a word to skip, four bytes; page 1: a removed item, and one whose check is wrong
abbrev items : List ℕ
items =
    page 0 (encode 4 7 (1 ∷ 2 ∷ []) ++ (3 ∷ 0 ∷ 0 ∷ 0 ∷ replicate 4 255)) 255
    ++ page 0 ((4 ∷ 0 ∷ 251 ∷ 255 ∷ replicate 8 0) ++ (4 ∷ 0 ∷ 251 ∷ 255 ∷ 1 ∷ replicate 7 0)) 0

tallies : (tally_of 4 32 items 0 ≡ record { state = PartialOpen; present = 16; removed = 0; damaged = 4; free = 4 })
    × (tally_of 4 32 items 1 ≡ record { state = Closed; present = 0; removed = 12; damaged = 12; free = 0 })
    × (tally_of 4 32 items 2 ≡ no_tally)
unfolding tally_of tally_by refusal state zeros_in zero_bits scan_of scan read read_by size round_up encode encode_data pad
tallies = (refl, refl, refl)
