-- Removal of one key and of all, and erase all.
use Rattle.std.specs.Prelude.{ℕ, ◌+◌, Bool, true, List, [], ◌∷◌, replicate, eqb}
use Rattle.rules.specs.declared.{Geo.Geo, PageState.TheVariants.Open, PageState.TheVariants.PartialOpen, PageState.TheVariants.Closed, Answer.TheVariants.Done}
use Rattle.rules.specs.Bytes.{pick}
use Rattle.rules.specs.Items.{Entry}
use Rattle.rules.specs.Pages.{same, state, items_of, ring_up, first_page, last_page, is_page, next, all_pages}
use Rattle.rules.specs.Cache.{forget}
use Rattle.rules.specs.Runs.{St, Out, out, programming, erasing, cleared}
use Rattle.rules.specs.Store.{auto_repair}

-- what is to be removed: every key, or one
pub data Which : Type 0 where
  every : Which
  only : ℕ → Which

abbrev pub matches : Which → Entry → Bool
matches every e = true
matches (only k) e = eqb e.it.key k

-- "The key's cache entry is erased first. Removal of all .. empties the cache first."
abbrev pub forgetting : Which → St → St
forgetting every s = cleared s
forgetting (only k) s = record { img = s.img; cache = forget k s.cache; erased = s.erased }

-- "Removal programs the check word to 0.": the matching ones of these entries; k goes on
unfoldable pub remove_entries : Which → List Entry → St → (St → Out) → Out
remove_entries t [] s k = k s
remove_entries t (e ∷ es) s k =
    let r = programming (e.at + 4) (replicate 4 0) s (λ s'. remove_entries t es s' k) in
    let r' = remove_entries t es s k in
    pick (matches t e) r r'

module _ (G : Geo) where
  -- "Every Present item with the key is marked Removed, on all pages not Open": of the pages ps
  unfoldable pub remove_pages : Which → List ℕ → St → Out
  remove_pages t [] s = out Done s
  remove_pages t (p ∷ ps) s =
      let r = remove_pages t ps s in
      pick (same Open (state G s.img p)) r (remove_entries t (items_of G s.img p) s (remove_pages t ps))

  -- "from the page after the PartialOpen one around to it. Without a PartialOpen page, the start is the page after the highest-numbered
  -- Closed page, or page 1 if none."
  abbrev pub remove_start : List ℕ → ℕ
  remove_start img =
      let p = first_page G PartialOpen img in
      let c = last_page G Closed img in
      next G (pick (is_page G p) p (pick (is_page G c) c 0))

  abbrev pub run_remove : Which → St → Out
  run_remove t s = remove_pages t (ring_up G (remove_start s.img)) (forgetting t s)

  unfoldable pub remove : Which → St → Out
  remove t s = auto_repair G (run_remove t) s

  -- the pages ps erased
  unfoldable pub erase_pages : List ℕ → St → Out
  erase_pages [] s = out Done s
  erase_pages (p ∷ ps) s = erasing G p s (erase_pages ps)

  -- "Erase all (ours) erases all n pages and empties the cache."
  unfoldable pub erase_all : St → Out
  erase_all s = erase_pages (all_pages G) (cleared s)
