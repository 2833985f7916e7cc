-- Items: their bytes, how they are read, and the scan of a data area.
use Rattle.std.specs.Prelude.{ℕ, zero, suc, ◌+◌, ◌-◌, Bool, true, false, List, [], ◌∷◌, ◌++◌, length, take, drop, replicate, leb, ltb, eqb}
use Rattle.rules.specs.declared.{Kind.Kind, Kind.TheVariants.Present, Kind.TheVariants.Removed, Kind.TheVariants.Damaged}
use Rattle.rules.specs.Bytes.{pick, both, zeros, all_ff, to_le, of_le, round_up}

-- the only question that is asked of a kind
abbrev pub is_present : Kind → Bool
is_present Present = true
is_present Removed = false
is_present Damaged = false

-- an item as read: data length, key, and its value: how far from the item's place, how long, which bytes
pub record Item : Type 0 where
  pub kind : Kind
  pub len : ℕ
  pub key : ℕ
  pub voff : ℕ
  pub vlen : ℕ
  pub val : List ℕ

-- "Size is 8 plus L rounded up to 4", to a word of w bytes
unfoldable pub size : ℕ → ℕ → ℕ
size w L = 8 + round_up w L

-- "zero bits in the L data bytes, plus 1"
abbrev pub check_of : List ℕ → ℕ
check_of d = zeros d + 1

-- "Removed if the check word is 0; Present if the check matches and L is at least 4; else Damaged": check word, data bytes
abbrev pub kind_of : ℕ → List ℕ → Kind
kind_of c d =
    pick (eqb c 0) Removed
    (pick (both (eqb c (check_of d)) (leb 4 (length d))) Present Damaged)

-- In what follows s is the bytes from a place to the end of its data area.

-- bytes 0-1: the data length
abbrev pub len_of : List ℕ → ℕ
len_of s = of_le (take 2 s)

-- bytes 8 and on: the L data bytes
abbrev pub data_of : List ℕ → ℕ → List ℕ
data_of s L = take L (drop 8 s)

-- the item of data length L: check word in bytes 4-7, key in the first four data bytes, then the value
abbrev pub item_of : List ℕ → ℕ → Item
item_of s L = record {
  kind = kind_of (of_le (take 4 (drop 4 s))) (data_of s L);
  len = L;
  key = of_le (take 4 (data_of s L));
  voff = 12;
  vlen = L - 4;
  val = drop 4 (data_of s L);
}

-- what stands at a place
pub data Reading : Type 0 where
  stop skip : Reading
  item : Item → Reading

-- fewer than 8 bytes, eight bytes 0xFF, length and complement agree, the item stays in the data area
unfoldable pub read_by : Bool → Bool → Bool → Bool → Item → Reading
read_by true blank agree fit i = stop
read_by false true agree fit i = stop
read_by false false false fit i = skip
read_by false false true false i = skip
read_by false false true true i = item i

-- "Reading at place a of a page"; bytes 2-3 are the complement of the length
unfoldable pub read : ℕ → List ℕ → Reading
read w s =
    read_by (ltb (length s) 8) (all_ff (take 8 s)) (eqb (len_of s + of_le (take 2 (drop 2 s))) 65535)
    (leb (size w (len_of s)) (length s)) (item_of s (len_of s))

-- "0xFF up to a word"
unfoldable pub pad : ℕ → ℕ → List ℕ
pad w L = replicate (round_up w L - L) 255

-- the bytes of an item with these data bytes, in order of place
unfoldable pub encode_data : ℕ → List ℕ → List ℕ
encode_data w d =
    to_le 2 (length d) ++ to_le 2 (65535 - length d) ++ to_le 4 (check_of d) ++ d ++ pad w (length d)

-- "key (4 bytes), then value"
unfoldable pub encode : ℕ → ℕ → List ℕ → List ℕ
encode w k v = encode_data w (to_le 4 k ++ v)

-- ---- The scan

-- an item and its place
pub record Entry : Type 0 where
  pub at : ℕ
  pub it : Item

-- the items in order, and where the scan ends
pub record Scan : Type 0 where
  pub items : List Entry
  pub end : ℕ

-- a scan with one item before it
abbrev pub cons_e : Entry → Scan → Scan
cons_e e r = record { items = e ∷ r.items; end = r.end }

-- "the scan ends at a", "skip one word", "go on after it": k is the rest of the scan from a place and its bytes
abbrev pub scan_go : ℕ → Reading → ℕ → List ℕ → (ℕ → List ℕ → Scan) → Scan
scan_go w stop a s k = record { items = []; end = a }
scan_go w skip a s k = k (a + w) (drop w s)
scan_go w (item i) a s k = cons_e (record { at = a; it = i }) (k (a + size w i.len) (drop (size w i.len) s))

-- the scan from place a; a count of its bytes is steps enough
unfoldable pub scan : ℕ → ℕ → ℕ → List ℕ → Scan
scan w zero a s = record { items = []; end = a }
scan w (suc f) a s = scan_go w (read w s) a s (scan w f)

-- the Present ones
abbrev pub presents : List Entry → List Entry
presents [] = []
presents (e ∷ es) = pick (is_present e.it.kind) (e ∷ presents es) (presents es)
