-- Store and repair: migration, rollover, turns, and runs that repair once.
use Rattle.std.specs.Prelude.{ℕ, zero, suc, ◌+◌, List, [], ◌∷◌, ◌++◌, length, take, drop, eqb}
use Rattle.rules.specs.declared.{Geo.Geo, PageState.TheVariants.Open, PageState.TheVariants.PartialOpen, PageState.TheVariants.Corrupted as CorruptedPage, Answer.TheVariants.Done, Answer.TheVariants.FullStorage, Answer.TheVariants.Corrupted}
use Rattle.rules.specs.Bytes.{pick}
use Rattle.rules.specs.Items.{Entry, size, pad, encode}
use Rattle.rules.specs.Pages.{same, state, items_of, scan_of, blank_at, has_free_spot, first_page, is_page, next, start_at, data_at, end_at, zero_word, all_pages, any_corrupted}
use Rattle.rules.specs.Runs.{St, Out, out, on_done, on_full, on_corrupted, programming, erasing, noting, cleared, clear_corrupted}
use Rattle.rules.specs.Fetch.{Found, corrupt, missing, found, fetch_in, answer_of, run_fetch, served_by}

module _ (G : Geo) where
  -- the bytes that an entry takes
  abbrev pub span_of : Entry → ℕ
  span_of e = size G.word e.it.len

  -- a copy: header and data as they stand, "padding 0xFF"
  abbrev pub copy_of : List ℕ → Entry → List ℕ
  copy_of img e = take (8 + e.it.len) (drop e.at img) ++ pad G.word e.it.len

  -- "copy it .. if the found place is its own", to place a, noted before the write; "An item whose key isn't found, or a target byte
  -- that isn't 0xFF, seen before any word of that item is written: Corrupted". k goes on from the next place to write.
  abbrev pub migrate_one : Entry → ℕ → St → (ℕ → St → Out) → Found → Out
  migrate_one e a s k corrupt = out Corrupted s
  migrate_one e a s k missing = out Corrupted s
  migrate_one e a s k (found f) =
      let copied = programming a (copy_of s.img e) (noting e.it.key a s) (k (a + span_of e)) in
      let moved = pick (blank_at s.img a (span_of e)) copied (out Corrupted s) in
      let kept = k a s in
      pick (eqb f.at e.at) moved kept

  -- "for each Present item of the source, in order, fetch its key"
  unfoldable pub migrate_all : List Entry → ℕ → St → Out
  migrate_all [] a s = out Done s
  migrate_all (e ∷ es) a s =
      let g = fetch_in G e.it.key s in
      migrate_one e a g.st (migrate_all es) g.res

  -- "Migrate source to target", "then erase the source"
  unfoldable pub migrate : ℕ → ℕ → St → Out
  migrate source target s =
      on_done (migrate_all (items_of G s.img source) (data_at G target) s) (λ s'. erasing G source s' (out Done))

  -- "if the page after that isn't Open, migrate it": the page after q, into q
  unfoldable pub rolled : ℕ → St → Out
  rolled q s = let m = migrate (next G q) q s in pick (same Open (state G s.img (next G q))) (out Done s) m

  -- "Rollover: mark the next page", which is q
  unfoldable pub rollover : ℕ → St → Out
  rollover q s = programming (start_at G q) (zero_word G) s (rolled q)

  -- "A turn": Done where the item is written, FullStorage where the store must go on. "if a PartialOpen page exists, its next page must
  -- be Open, else Corrupted; write in its free spot and finish, or close it and roll over. .. If no page is PartialOpen, mark the first
  -- Open page; none: Corrupted."
  unfoldable pub turn : ℕ → List ℕ → St → Out
  turn k v s =
      let p = first_page G PartialOpen s.img in
      let o = first_page G Open s.img in
      let a = (scan_of G s.img p).end in
      let write = programming a (encode G.word k v) (noting k a s) (out Done) in
      let roll = programming (end_at G p) (zero_word G) s (λ s'. on_done (rollover (next G p) s') (out FullStorage)) in
      let mark = programming (start_at G o) (zero_word G) s (out FullStorage) in
      pick (is_page G p)
      (pick (same Open (state G s.img (next G p)))
      (pick (has_free_spot G s.img p (size G.word (4 + length v))) write roll)
      (out Corrupted s))
      (pick (is_page G o) mark (out Corrupted s))

  -- "After n turns: FullStorage."
  unfoldable pub turns : ℕ → ℕ → List ℕ → St → Out
  turns zero k v s = out FullStorage s
  turns (suc t) k v s = on_full (turn k v s) (turns t k v)

  -- "erase each corrupted page", of the pages ps; k goes on
  unfoldable pub erase_corrupted : List ℕ → St → (St → Out) → Out
  erase_corrupted [] s k = k s
  erase_corrupted (p ∷ ps) s k =
      let r = erasing G p s (λ s'. erase_corrupted ps s' k) in
      let r' = erase_corrupted ps s k in
      pick (same CorruptedPage (state G s.img p)) r r'

  -- "if the page after the first PartialOpen page isn't Open, erase that PartialOpen page, mark it, and migrate again"
  unfoldable pub mend : St → Out
  mend s =
      let p = first_page G PartialOpen s.img in
      let redo = erasing G p s (λ s'. programming (start_at G p) (zero_word G) s' (migrate (next G p) p)) in
      pick (is_page G p) (pick (same Open (state G s.img (next G p))) (out Done s) redo) (out Done s)

  -- "Empty the cache", then the two steps
  unfoldable pub repair : St → Out
  repair s = erase_corrupted (all_pages G) (cleared s) mend

  -- "all page states are read (ours). A corrupted page answers Corrupted."
  abbrev pub looked : (St → Out) → St → Out
  looked f s = let r = f s in pick (any_corrupted G s.img) (out Corrupted s) r

  -- "Fetch, store, removal and walk start each repair once on Corrupted and run again"
  unfoldable pub auto_repair : (St → Out) → St → Out
  auto_repair f s = on_corrupted (looked f s) (λ s₁. clear_corrupted (on_done (repair s₁) (looked f)))

  -- a fetch that is served by a cache hit reads no page states
  abbrev pub fetch_by : ℕ → St → Found → Out
  fetch_by k s corrupt = auto_repair (run_fetch G k) s
  fetch_by k s missing = auto_repair (run_fetch G k) s
  fetch_by k s (found e) = out (answer_of (found e)) s

  unfoldable pub fetch : ℕ → St → Out
  fetch k s = fetch_by k s (served_by G k s)

  -- a store of an item that is not too big: "At most n turns."
  unfoldable pub store : ℕ → List ℕ → St → Out
  store k v s = auto_repair (turns G.pages k v) s
