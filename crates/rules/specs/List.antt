-- The latest-wins list: "Key and value pairs, one for each key".
use Rattle.std.specs.Prelude.{ℕ, ◌+◌, Bool, true, false, List, [], ◌∷◌, take, drop, eqb}
use Rattle.std.proofs.Math.Option.{Option, some, none}
use Rattle.rules.specs.declared.{Answer.Answer}
use Rattle.rules.specs.Bytes.{pick}
use Rattle.rules.specs.Items.{Entry}
use Rattle.rules.specs.Answers.{is_no}
use Rattle.rules.specs.Calls.{Call, fetch_item, fetch_plain, store_item, remove_item, remove_all_items, erase_all_pages, fetch_all_items, next_item}

pub record Pair : Type 0 where
  pub key : ℕ
  pub val : List ℕ

-- the value that the list has for a key
abbrev pub in_list : ℕ → List Pair → Option (List ℕ)
in_list k [] = none
in_list k (p ∷ ps) = pick (eqb p.key k) (some p.val) (in_list k ps)

abbrev pub drop_key : ℕ → List Pair → List Pair
drop_key k [] = []
drop_key k (p ∷ ps) = pick (eqb p.key k) (drop_key k ps) (p ∷ drop_key k ps)

abbrev pub put_key : ℕ → List ℕ → List Pair → List Pair
put_key k v ps = record { key = k; val = v } ∷ drop_key k ps

-- the key comes in these pairs
abbrev pub has_key : ℕ → List Pair → Bool
has_key k [] = false
has_key k (p ∷ ps) = pick (eqb p.key k) true (has_key k ps)

-- "what the walk lists last for each key": a pair stays if its key does not come again
abbrev pub latest : List Pair → List Pair
latest [] = []
latest (p ∷ ps) = let r = latest ps in pick (has_key p.key ps) r (p ∷ r)

-- an entry's key, and its value's bytes on the image
abbrev pub pair_of : List ℕ → Entry → Pair
pair_of img e = record { key = e.it.key; val = take e.it.vlen (drop (e.at + e.it.voff) img) }

abbrev pub pairs : List ℕ → List Entry → List Pair
pairs img [] = []
pairs img (e ∷ es) = pair_of img e ∷ pairs img es

-- "A store that is done puts its pair, a removal drops it, removal of all and erase all empty it, and a refusal on a sound image leaves
-- it.": the list after a call that answered so
abbrev pub list_after : Call → Answer → List Pair → List Pair
list_after (fetch_item k) a l = l
list_after (fetch_plain k) a l = l
list_after (store_item k v) a l = pick (is_no 0 a) (put_key k v l) l
list_after (remove_item k) a l = pick (is_no 0 a) (drop_key k l) l
list_after remove_all_items a l = pick (is_no 0 a) [] l
list_after erase_all_pages a l = pick (is_no 0 a) [] l
list_after fetch_all_items a l = l
list_after (next_item c) a l = l
