-- Document 01's examples marked (P), and what its rules say at their borders: one table, proved together by computation.
use Rattle.std.specs.Prelude.{◌≡◌, refl, ℕ, zero, suc, Bool, true, false, not, List, [], ◌∷◌, ◌++◌, take, drop, replicate, eqb}
use Rattle.rules.specs.declared.{Geo.Geo, Answer.Answer, PageState.TheVariants.Open, PageState.TheVariants.PartialOpen}
use Rattle.rules.specs.Bytes.{both, FlashStep, splice, program, erase, zeros_in, zero_bits, round_up}
use Rattle.rules.specs.Items.{read_by, read, size, pad, encode, encode_data, scan}
use Rattle.rules.specs.Pages.{same, state, scan_of, ring_up, ring_down}
use Rattle.rules.specs.Cache.{Cache, empty_pointer, note, forget, clear}
use Rattle.rules.specs.Answers.{paper, number, refusal}
use Rattle.rules.specs.Runs.{on}
use Rattle.rules.specs.Fetch.{view, newest, hit, fetch_in, plain_fetch}
use Rattle.rules.specs.Store.{migrate_all, migrate, rolled, rollover, turn, turns, erase_corrupted, mend, repair, auto_repair, fetch, store}
use Rattle.rules.specs.Remove.{remove_entries, remove_pages, remove}
use Rattle.rules.specs.Walk.{walk_start, walk_step}
use Rattle.rules.specs.Calls.{Call, fetch_item, store_item, remove_item, fetch_all_items, next_item, Lent, Told, behind, called, geo_of, steps_behind, steps_of}
use Rattle.rules.specs.Power.{endless, lasts, spend, taken, units, cut_image}

-- ---- words of the rows

abbrev eq_list : List ℕ → List ℕ → Bool
eq_list [] [] = true
eq_list [] (y ∷ ys) = false
eq_list (x ∷ xs) [] = false
eq_list (x ∷ xs) (y ∷ ys) = both (eqb x y) (eq_list xs ys)

abbrev pub all : List Bool → Bool
all [] = true
all (b ∷ bs) = both b (all bs)

-- the answer has this number and these values
abbrev says : Answer → ℕ → List ℕ → Bool
says a n vs = both (eqb (number a) n) (eq_list (paper a).values vs)

-- the call's number, its erased pages, the image it leaves
abbrev leaves : Told → ℕ → ℕ → List ℕ → Bool
leaves t n er img = both (eqb (number t.answer) n) (both (eqb t.erased er) (eq_list t.image img))

-- a blank image of m bytes and an empty cache
abbrev blank : ℕ → Lent
blank m = record { image = replicate m 255; cache = replicate 32 empty_pointer }

-- what a call hands back, lent again
abbrev again : Told → Lent
again t = record { image = t.image; cache = t.cache }

abbrev keys : Cache → List ℕ
keys [] = []
keys (e ∷ es) = e.key ∷ keys es

G32 : Geo
G32 = geo_of 4 32 64

-- calls at E 32 without a cache, their flash steps, what these leave with power p; calls at E 64 without one, at E 64 with a cache of 2
abbrev call32 : Call → Lent → Told
call32 c l = called 4 32 0 c l

abbrev steps32 : Call → Lent → List FlashStep
steps32 c l = steps_of 4 32 0 c l

abbrev cut32 : ℕ → Call → Lent → List ℕ
cut32 p c l = cut_image 32 l.image p (steps32 c l)

abbrev call64 : Call → Lent → Told
call64 c l = called 4 64 0 c l

abbrev cached64 : Call → Lent → Told
cached64 c l = called 4 64 2 c l

-- ---- what the rows look at

-- page 0 with key 1 value AA, its padding's first byte being x; page 1 blank
abbrev page_aa : ℕ → List ℕ
page_aa x =
    0x00 ∷ 0x00 ∷ 0x00 ∷ 0x00 ∷ 0x05 ∷ 0x00 ∷ 0xFA ∷ 0xFF ∷ 0x24 ∷ 0x00 ∷ 0x00 ∷ 0x00 ∷ 0x01 ∷ 0x00 ∷ 0x00 ∷ 0x00
    ∷ 0xAA ∷ x ∷ 0xFF ∷ 0xFF ∷ replicate 12 0xFF ++ replicate 32 0xFF

-- the item of key 1 with the empty value
abbrev item1 : List ℕ
item1 = 0x04 ∷ 0x00 ∷ 0xFB ∷ 0xFF ∷ 0x20 ∷ 0x00 ∷ 0x00 ∷ 0x00 ∷ 0x01 ∷ 0x00 ∷ 0x00 ∷ 0x00 ∷ []

stored_aa : Told
stored_aa = call32 (store_item 1 (0xAA ∷ [])) (blank 64)

-- key 1 empty, five times
five : Told
five = more 4 (call64 (store_item 1 []) (blank 128))
  where
    more : ℕ → Told → Told
    more zero t = t
    more (suc m) t = more m (call64 (store_item 1 []) (again t))

-- note 1, note 2, hit 1, note 3
noted : Told
noted =
    let one = cached64 (store_item 1 []) (blank 128) in
    let two = cached64 (store_item 2 []) (again one) in
    let hits = cached64 (fetch_item 1) (again two) in
    cached64 (store_item 3 []) (again hits)

-- keys stored one after the other, with empty values
stores : List ℕ → Lent
stores ks = more ks (blank 128)
  where
    more : List ℕ → Lent → Lent
    more [] l = l
    more (k ∷ ks) l = more ks (again (call64 (store_item k []) l))

-- a walk over key 1 value AA: its start, its step, its end
walk : Told
walk = call32 fetch_all_items (again stored_aa)

step : Told
unfolding walk
step = call32 (next_item walk.cursor) (again walk)

last : Told
unfolding step
last = call32 (next_item step.cursor) (again step)

-- where the values of keys 1, 2 and 3 stand
abbrev values : Lent → List ℕ
values l = place_of 1 ++ place_of 2 ++ place_of 3
  where
    place_of : ℕ → List ℕ
    place_of k = take 1 (paper (call64 (fetch_item k) l).answer).values

-- page 0 with an item of the data bytes 01 00 00, whose check matches; page 1 blank
abbrev three : List ℕ
three = replicate 4 0x00 ++ 0x03 ∷ 0x00 ∷ 0xFC ∷ 0xFF ∷ 0x18 ∷ 0x00 ∷ 0x00 ∷ 0x00 ∷ 0x01 ∷ 0x00 ∷ 0x00 ∷ replicate 49 0xFF

-- an image whose first word is this, else blank
abbrev marks : List ℕ → List ℕ
marks ws = ws ++ replicate 60 0xFF

-- ---- the table

pub table : List Bool
unfolding G32 stored_aa five noted stores walk step last
table =
    -- (P) E 20: image 40 accepted, 39 no. 1, 20 no. 2. E 16, image 32: no. 3. E 22, image 44: no. 4.
    eqb (number (refusal 4 20 40 0 0)) 0
    ∷ eqb (number (refusal 4 20 39 0 0)) 1
    ∷ eqb (number (refusal 4 20 20 0 0)) 2
    ∷ eqb (number (refusal 4 16 32 0 0)) 3
    ∷ eqb (number (refusal 4 22 44 0 0)) 4
    -- (P) E 32: value of 12 bytes accepted, 13 ItemTooBig.
    ∷ eqb (number (call32 (store_item 1 (replicate 12 0)) (blank 64)).answer) 0
    ∷ leaves (call32 (store_item 1 (replicate 13 0)) (blank 64)) 6 0 (replicate 64 0xFF)
    -- (P) E 32, image 64 blank, store key 1 value AA: the page's bytes
    ∷ leaves stored_aa 0 0 (page_aa 0xFF)
    -- (P) Then key 2 empty: FullStorage, 2 erased, image as before. Key 1 value BB instead: FullStorage too.
    ∷ leaves (call32 (store_item 2 []) (again stored_aa)) 7 2 (page_aa 0xFF)
    ∷ leaves (call32 (store_item 1 (0xBB ∷ [])) (again stored_aa)) 7 2 (page_aa 0xFF)
    -- (P) Key FFFFFFFF hex, empty: 04 00 FB FF 01 00 00 00 FF FF FF FF.
    ∷ eq_list (encode 4 0xFFFFFFFF []) (0x04 ∷ 0x00 ∷ 0xFB ∷ 0xFF ∷ 0x01 ∷ 0x00 ∷ 0x00 ∷ 0x00 ∷ 0xFF ∷ 0xFF ∷ 0xFF ∷ 0xFF ∷ [])
    -- (P) E 64, image 128, key 1 empty five times: the fifth erases 1 page and stands at 80; the copy stands at 68.
    ∷ both (eqb (number five.answer) 0) (eqb five.erased 1)
    ∷ says (call64 (fetch_item 1) (again five)).answer 0 (92 ∷ 0 ∷ [])
    ∷ eq_list (take 28 (drop 64 five.image)) (replicate 4 0 ++ item1 ++ item1)
    -- (P) Cache of 2: note 1, note 2, hit 1, note 3 leaves 3, 2.
    ∷ eq_list (keys noted.cache) (3 ∷ 2 ∷ replicate 30 0)
    -- (P) Store, remove, fetch: none.
    ∷ says (call32 (fetch_item 1) (again (call32 (remove_item 1) (again stored_aa)))).answer 0 []
    -- a migration copies the newest item of each key: keys 1 and 2 of a full page stand before key 3
    ∷ eq_list (values (stores (1 ∷ 2 ∷ 1 ∷ 1 ∷ 3 ∷ []))) (92 ∷ 80 ∷ 104 ∷ [])
    -- a cached place that holds the key answers, though the item is older
    ∷ says (called 4 64 1 (fetch_item 1) (record { image = (stores (1 ∷ 1 ∷ [])).image; cache = record { key = 1; place = 4 } ∷ [] })).answer 0 (16 ∷ 0 ∷ [])
    -- a walk lists the item and hands the cursor back at its end
    ∷ says step.answer 0 (1 ∷ 16 ∷ 1 ∷ [])
    ∷ both (says last.answer 0 []) (eqb last.cursor.place step.cursor.place)
    -- a word of 15 zero bits is not marked, one of 16 is
    ∷ same Open (state G32 (marks (0x00 ∷ 0x01 ∷ 0xFF ∷ 0xFF ∷ [])) 0)
    ∷ same PartialOpen (state G32 (marks (0x00 ∷ 0x00 ∷ 0xFF ∷ 0xFF ∷ [])) 0)
    -- an item of three data bytes is Damaged, so it has no key
    ∷ says (call32 (fetch_item 1) (record { image = three; cache = [] })).answer 0 []
    -- a worn padding bit does not lose the item
    ∷ says (call32 (fetch_item 1) (record { image = page_aa 0xFE; cache = [] })).answer 0 (16 ∷ 1 ∷ [])
    -- a part that does not lie in the image is its empty start
    ∷ both (eq_list (view (page_aa 0xFF) 16 1) (0xAA ∷ [])) (eq_list (view (page_aa 0xFF) 64 1) [])
    -- a byte takes one unit, 0xFF too, a mark its whole word; a refusal takes none
    ∷ eqb (units (steps32 (store_item 1 (0xAA ∷ [])) (blank 64))) 20
    ∷ eqb (units (steps32 (store_item 1 (replicate 13 0)) (blank 64))) 0
    -- bytes are programmed in order of place while the power lasts
    ∷ eq_list (cut32 4 (store_item 1 (0xAA ∷ [])) (blank 64)) (replicate 4 0 ++ replicate 60 0xFF)
    ∷ eq_list (cut32 13 (store_item 1 (0xAA ∷ [])) (blank 64)) (take 13 (page_aa 0xFF) ++ replicate 51 0xFF)
    -- an erase takes one unit: after 24 of them page 0 is closed and its item copied, with one more it is erased
    ∷ eqb (units (steps32 (store_item 2 []) (again stored_aa))) 50
    ∷ eq_list (cut32 24 (store_item 2 []) (again stored_aa)) (take 28 (page_aa 0xFF) ++ replicate 4 0 ++ take 32 (page_aa 0xFF))
    ∷ eq_list (cut32 25 (store_item 2 []) (again stored_aa)) (replicate 32 0xFF ++ take 32 (page_aa 0xFF))
    -- exactly enough is enough, and leaves none; 2^64 - 1 never runs out
    ∷ both (lasts 20 20) (both (not (lasts 19 20)) (eqb (spend 20 20) 0))
    ∷ both (lasts endless 20) (eqb (spend endless 20) endless)
    ∷ []

pub table_holds : all table ≡ true
unfolding table G32 stored_aa five noted stores walk step last zeros_in zero_bits round_up splice program erase read_by read size pad encode encode_data scan state scan_of ring_up ring_down note forget clear refusal on view newest hit fetch_in plain_fetch migrate_all migrate rolled rollover turn turns erase_corrupted mend repair auto_repair fetch store remove_entries remove_pages remove walk_start walk_step behind called steps_behind steps_of lasts spend taken
table_holds = refl
