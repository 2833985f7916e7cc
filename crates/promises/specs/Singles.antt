-- The list has one pair for each key, whatever the calls answer.
use Rattle.std.specs.Prelude.{◌≡◌, refl, ℕ, Bool, true, false, List, [], ◌∷◌, eqb}
use Rattle.std.proofs.Common.{◌∙◌, arith}
use Rattle.std.proofs.Math.Option.{none}
use Rattle.std.proofs.lemmas.Bool.{eqb-false}
use Rattle.rules.specs.declared.{Answer.Answer}
use Rattle.rules.specs.Bytes.{pick}
use Rattle.rules.specs.Answers.{is_no}
use Rattle.rules.specs.Calls.{Call, fetch_item, fetch_plain, store_item, remove_item, remove_all_items, erase_all_pages, fetch_all_items, next_item}
use Rattle.rules.specs.List.{Pair, in_list, drop_key, put_key, has_key, latest, list_after}
use Rattle.theory.specs.Listed.{drop-same, drop_other}
use Rattle.promises.specs.Promise.{Single}

drop-single : (k : ℕ) (l : List Pair) → Single l → Single (drop_key k l)
drop-single k [] h = tt
drop-single k (p ∷ l) h = go (eqb p.key k) refl (drop-single k l h.1)
  where
    go : (b : Bool) → eqb p.key k ≡ b → Single (drop_key k l) → Single (pick b (drop_key k l) (p ∷ drop_key k l))
    go true q ih = ih
    go false q ih = (drop_other k p.key l (eqb-false p.key k q) ∙ h.0, ih)

put_single : (k : ℕ) (v : List ℕ) (l : List Pair) → Single l → Single (put_key k v l)
put_single k v l h = (drop-same k l, drop-single k l h)

has_none : (k : ℕ) (l : List Pair) → has_key k l ≡ false → in_list k (latest l) ≡ none
has_none k [] h = refl
has_none k (p ∷ l) h = go (eqb p.key k) refl (has_key p.key l) h (has_none k l)
  where
    go : (b : Bool) → eqb p.key k ≡ b → (c : Bool) → pick b true (has_key k l) ≡ false → (has_key k l ≡ false → in_list k (latest l) ≡ none)
        → in_list k (pick c (latest l) (p ∷ latest l)) ≡ none
    go true q c h ih = let z : ◌≡◌ {A = ℕ} 0 1 = cc in absurd (omega arith)
    go false q true h ih = ih h
    go false q false h ih = rw q (ih h)

pub latest-single : (l : List Pair) → Single (latest l)
latest-single [] = tt
latest-single (p ∷ l) = go (has_key p.key l) refl (latest-single l)
  where
    go : (b : Bool) → has_key p.key l ≡ b → Single (latest l) → Single (pick b (latest l) (p ∷ latest l))
    go true q ih = ih
    go false q ih = (has_none p.key l q, ih)

one_of : (b : Bool) (x y : List Pair) → Single x → Single y → Single (pick b x y)
one_of true x y h k = h
one_of false x y h k = k

pub single-after : (c : Call) (a : Answer) (l : List Pair) → Single l → Single (list_after c a l)
single-after (fetch_item k) a l h = h
single-after (fetch_plain k) a l h = h
single-after (store_item k v) a l h = one_of (is_no 0 a) (put_key k v l) l (put_single k v l h) h
single-after (remove_item k) a l h = one_of (is_no 0 a) (drop_key k l) l (drop-single k l h) h
single-after remove_all_items a l h = one_of (is_no 0 a) [] l tt h
single-after erase_all_pages a l h = one_of (is_no 0 a) [] l tt h
single-after fetch_all_items a l h = h
single-after (next_item c) a l h = h
