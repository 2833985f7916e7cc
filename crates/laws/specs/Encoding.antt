-- Encoding: what is written as an item reads back as that item.
use Rattle.std.specs.Prelude.{◌≡◌, refl, ℕ, ◌+◌, ◌-◌, ◌/◌, ◌%◌, ◌≤◌, ◌<◌, Bool, true, false, List, ◌++◌, take, drop, eqb}
use Rattle.std.proofs.Common.{append_assoc, length-append, take_at, arith, le-ltb, le-leb, eq-eqb, ne_eqb}
use Rattle.std.proofs.Math.ListN.{length}
use Rattle.std.proofs.lemmas.List.{length-replicate}
use Rattle.rules.specs.Bytes.{all_ff, to_le, of_le, round_up}
use Rattle.rules.specs.declared.Kind.TheVariants.{Present}
use Rattle.rules.specs.Items.{Item, item, read, read_by, size, len_of, item_of, data_of, kind_of, check_of, encode_data, pad}
use Rattle.laws.specs.Lists.{both_false_r}
use Rattle.laws.specs.ByteLaws.{zeros_le}
use Rattle.laws.specs.Words.{le_round_up}
use Rattle.laws.specs.Reading.{le_size}

pub of_le_to_le2 : (x : ℕ) → x < 65536 → of_le (to_le 2 x) ≡ x
of_le_to_le2 x h = omega arith

pub of_le_to_le4 : (x : ℕ) → x < 4294967296 → of_le (to_le 4 x) ≡ x
of_le_to_le4 x h = omega arith

pub length-pad : (w L : ℕ) → 0 < w → length (pad w L) + L ≡ round_up w L
unfolding pad
length-pad w L h = omega (arith, length-replicate {A = ℕ} (round_up w L - L) 255, le_round_up w L h)

pub length-encode : (w : ℕ) (d : List ℕ) → 0 < w → length (encode_data w d) ≡ size w (length d)
unfolding encode_data size
length-encode w d h = omega (arith, length-append d (pad w (length d)), length-pad w (length d) h)

pub all-item : (a b c d : Bool) (i j : Item) → a ≡ false → b ≡ false → c ≡ true → d ≡ true → i ≡ j → read_by a b c d i ≡ item j
unfolding read_by
all-item a b c d i j ea eb ec ed ei = rw (ea, eb, ec, ed, ei)

abbrev pub present_item : List ℕ → Item
present_item d = record { kind = Present; len = length d; key = of_le (take 4 d); voff = 12; vlen = length d - 4; val = drop 4 d }

pub kind_present : (d : List ℕ) → 4 ≤ length d → kind_of (check_of d) d ≡ Present
kind_present d h =
    rw (ne_eqb (check_of d) 0 (omega arith), eq-eqb (check_of d) (check_of d) refl, le-leb 4 (length d) h)

module _ (w : ℕ) (d rest : List ℕ) (hw : 0 < w) (h4 : 4 ≤ length d) (hd : length d ≤ 32768) where
  s : List ℕ
  s = encode_data w d ++ rest

  L_is : len_of s ≡ length d
  unfolding s encode_data
  L_is = of_le_to_le2 (length d) (omega arith)

  C_is : of_le (take 2 (drop 2 s)) ≡ 65535 - length d
  unfolding s encode_data
  C_is = of_le_to_le2 (65535 - length d) (omega arith)

  c_is : of_le (take 4 (drop 4 s)) ≡ check_of d
  unfolding s encode_data
  c_is = of_le_to_le4 (check_of d) (omega (arith, zeros_le d))

  d_is : data_of s (length d) ≡ d
  unfolding s encode_data
  d_is = rw (append_assoc d (pad w (length d)) rest) (take_at d (pad w (length d) ++ rest) (length d) refl)

  length_is : length s ≡ size w (length d) + length rest
  unfolding s
  length_is = simp (length-append, length-encode w d hw)

  not_blank : all_ff (take 8 s) ≡ false
  unfolding s encode_data
  not_blank = rw (ne_eqb (length d / 256 % 256) 255 (omega arith)) (both_false_r (eqb (length d % 256) 255))

  item_is : item_of s (length d) ≡ present_item d
  item_is = rw (c_is, d_is, kind_present d h4)

  read-s : read w s ≡ item (present_item d)
  unfolding read
  read-s =
      let hs = le_size w (length d) hw in
      all-item _ _ _ _ _ _
      (le-ltb (length s) 8 (omega (arith, length_is)))
      not_blank
      (eq-eqb (len_of s + of_le (take 2 (drop 2 s))) 65535 (omega (arith, L_is, C_is)))
      (rw L_is (le-leb (size w (length d)) (length s) (omega (arith, length_is))))
      (rw L_is item_is)

  pub read-encode : read w (encode_data w d ++ rest) ≡ item (present_item d)
  unfolding s
  read-encode = read-s
