-- The steps of a removal, as the code tells them.
use mathlib.Core.Path.{◌≡◌, refl, ap, sym, ◌∙◌}
use mathlib.Core.Logic.{inr}
use Prim.Native.Nat.{ℕ, suc, ◌+◌, ◌-◌, ◌≤◌, ◌<◌}
use native.Mathlib.Omega.{arith}
use native.Mathlib.Nat.{sub-zero}
use mathlib.Core.Bool.{false, true, Bool}
use mathlib.Core.List.{List, [], ◌∷◌}
use lib.ListN.{length, take, drop, replicate}
use Rattle.rules.specs.declared.{Geo.Geo, PageState.TheVariants.Open, Answer.TheVariants.Done}
use Rattle.rules.specs.Bytes.{pick, both}
use Rattle.rules.specs.Items.{item_of, is_present, Entry, size, presents, Scan, scan, read}
use Rattle.rules.specs.Pages.{same, state, data_at, end_at, next, up_from, ring_up}
use Rattle.rules.specs.Cache.{Cache}
use Rattle.rules.specs.Runs.{St, Out, out, programming, cleared}
use Rattle.rules.specs.Remove.{Which as Wanted, every, only, matches, forgetting, remove_entries, remove_pages}
use Rattle.rules.specs.Remove.{remove_start, run_remove, erase_pages, erase_all}
use Rattle.laws.specs.Reading.{le_size}
use Rattle.laws.specs.Power.{wrote_window}
use Rattle.laws.specs.Through.{thr_refl, thr_from, thr_to, thr_then, thr_program}
use Rattle.items.specs.declared.{Read.Read, Read.TheVariants.End as ReadEnd, Read.TheVariants.Skip}
use Rattle.items.specs.declared.{Read.TheVariants.Item as ReadItem}
use Rattle.items.specs.Code.{part, scan_in, read_of, Stays}
use Rattle.items.proofs.Laws.{in_none, by_end, by_skip, by_item}
use Rattle.ring.specs.declared.flash.Flash.{Flash}
use Rattle.ring.specs.Flash.{IsSame, Programmed, Ran}
use Rattle.ring.specs.Erased.{erase_from, ErasedAll}
use Rattle.ring.specs.Code.{ups}
use Rattle.ring.proofs.Laws.{scan_is}
use Rattle.ring.proofs.Around.{up_is}
use Rattle.fetch.specs.declared.storage.Storage.{Storage}
use Rattle.fetch.specs.Code.{st_of, KeepsImage, Came, RunOk}
use Rattle.fetch.proofs.Runs.{came_then, came_more, came_from, came_still}
use Rattle.fetch.proofs.Laws.{same_refl, same_trans, past_refl}
use Rattle.remove.specs.Code.{hits, st_with, entries_of, RemovedOk, EntriesOk, PageOk, PagesOk}

-- two stretches, one after the other
ran_then : (f g h : Flash) {o₀ o₁ o₂ : Out} → IsSame f g → Ran f g o₀ o₁ → Ran g h o₁ o₂ → Ran f h o₀ o₂
ran_then f g h s x y = thr_then f.geo x (rw s.geo at y)

-- the same flash has as many bytes
same_length : (f g : Flash) → IsSame f g → length g.img.now ≡ length f.img.now
same_length f g s = g.held.whole ∙ rw s.geo (sym f.held.whole)

-- ---- the items of an area

-- the place of an item does not matter to what is removed
place_free : (t : Wanted) (e : Entry) → matches t e ≡ matches t (record { at = 0; it = e.it })
place_free every e = refl
place_free (only k) e = refl

-- the definition's step for any entry
abbrev step_of : Wanted → Entry → List Entry → St → (St → Out) → Out
step_of t x es s k =
    pick (hits t x.it) (programming (x.at + 4) (replicate 4 0) s (λ s'. remove_entries t (presents es) s' k))
    (remove_entries t (presents es) s k)

remove_step : (t : Wanted) (x : Entry) (es : List Entry) (s : St) (k : St → Out)
    → remove_entries t (presents (x ∷ es)) s k ≡ step_of t x es s k
unfolding remove_entries
remove_step t x es s k = go (is_present x.it.kind)
  where
    go : (b : Bool)
        → remove_entries t (pick b (x ∷ presents es) (presents es)) s k
        ≡ pick (both b (matches t (record { at = 0; it = x.it })))
        (programming (x.at + 4) (replicate 4 0) s (λ s'. remove_entries t (presents es) s' k))
        (remove_entries t (presents es) s k)
    go true = rw (place_free t x)
    go false = refl

-- what the code's test says
pub item_yes : (b h : Bool) (f g : Flash) (a : ℕ) → b ≡ h → b ≡ true → Programmed f g (a + 4) (replicate 4 0)
    → RemovedOk h f g a
item_yes b h f g a e t w =
    record {
      same = w.same;
      yes = λ q. w.wrote;
      no = λ q. let z : ◌≡◌ {A = ℕ} 0 1 = cc in absurd (omega arith);
    }

pub item-no : (b h : Bool) (f g : Flash) (a : ℕ) → b ≡ h → b ≡ false → IsSame f g → g.img.now ≡ f.img.now
    → g.power ≡ f.power → RemovedOk h f g a
item-no b h f g a e t s i p =
    record { same = s; yes = λ q. let z : ◌≡◌ {A = ℕ} 0 1 = cc in absurd (omega arith); no = λ q. (i, p) }

-- an item's run: its step, and then the rest
item_ran : (b : Bool) (a : ℕ) (f g : Flash) (c : Cache) (n : ℕ) (k : St → Out) → RemovedOk b f g a
    → Ran f g (pick b (programming (a + 4) (replicate 4 0) (st_with f c n) k) (k (st_with f c n))) (k (st_with g c n))
item_ran true a f g c n k R =
    thr_program f.geo (a + 4) (replicate 4 0) (st_with f c n) k g.img.now f.power g.power (R.yes refl)
item_ran false a f g c n k R =
    let z = R.no refl in rw (z.0, z.1) (thr_refl f.geo (k (st_with f c n)) f.img.now f.power)

-- what is behind the item stays
item_rest : (b : Bool) (a : ℕ) (f g : Flash) → RemovedOk b f g a → a + 8 ≤ length f.img.now
    → (j m : ℕ) → a + 8 ≤ j → take m (drop j g.img.now) ≡ take m (drop j f.img.now)
item_rest true a f g R h j m l =
    wrote_window f.img.now g.img.now (replicate 4 0) f.power g.power (a + 4) (R.yes refl) (omega arith) j m
    (inr (omega arith))
item_rest false a f g R h j m l = rw (R.no refl).0

-- a run over the items from a place on has come to another place, on the flash as it is now: the loop so far
pub record EntriesOn (t : Wanted) (e a : ℕ) (f : Flash) (a' : ℕ) (f' : Flash) : Type 0 where
  pub same : IsSame f f'
  pub run : (c : Cache) (n : ℕ) (k : St → Out)
      → Ran f f' (entries_of f.geo.word t a e (st_with f c n) k) (entries_of f.geo.word t a' e (st_with f' c n) k)

module _ (t : Wanted) (e : ℕ) where
  pub on_refl : (a : ℕ) (f : Flash) → EntriesOn t e a f a f
  on_refl a f = record { same = same_refl f; run = λ c n k. thr_refl f.geo _ f.img.now f.power }

  module _ (a₀ : ℕ) (f₀ : Flash) (a : ℕ) (f : Flash) (P : EntriesOn t e a₀ f₀ a f) (h₀ : e ≤ length f₀.img.now) where
    abbrev w : ℕ
    w = f₀.geo.word

    hw : 0 < w
    hw = omega (arith, f₀.held.low)

    he : e ≤ length f.img.now
    he = omega (arith, same_length f₀ f P.same)

    stopped : scan_in w f.img.now a e ≡ record { items = []; end = a } → EntriesOk t a₀ e f₀ f
    unfolding remove_entries
    stopped q =
        record {
          same = P.same;
          run = λ c n k. thr_to f₀.geo (P.run c n k)
              (ap (λ (x : Scan). remove_entries t (presents x.items) (st_with f c n) k) q);
        }

    pub entries_none : e ≤ a → EntriesOk t a₀ e f₀ f
    entries_none h = stopped (in_none w hw f.img.now e he a h)

    module _ (r : Read) (h : a < e) (q : read_of (part f.img.now a e) r ≡ read w (part f.img.now a e)) where
      pub entries-end : r ≡ ReadEnd → EntriesOk t a₀ e f₀ f
      entries-end x = stopped (by_end w hw f.img.now e he a r h q x)

      pub entries-skip : r ≡ Skip → EntriesOn t e a₀ f₀ (a + w) f
      entries-skip x =
          record {
            same = P.same;
            run = λ c n k. thr_to f₀.geo (P.run c n k)
                (ap (λ (y : Scan). remove_entries t (presents y.items) (st_with f c n) k)
                (by_skip w hw f.img.now e he a r h q x));
          }

      module _ (L : ℕ) (x : r ≡ ReadItem L) (l : Stays w a e r) (g : Flash)
          (i : RemovedOk (hits t (item_of (part f.img.now a e) L)) f g a) where
        abbrev later : Flash → List Entry
        later x = (scan_in w x.img.now (a + size w L) e).items

        rest_is : later f ≡ later g
        rest_is =
            let z = le_size w L hw in
            let l' = rw x at l in
            let m = he in
            ap (λ (s : List ℕ). (scan w (e - (a + size w L)) (a + size w L) s).items)
            (sym (item_rest (hits t (item_of (part f.img.now a e) L)) a f g i (omega arith) (a + size w L)
            (e - (a + size w L)) (omega arith)))

        pub entries-item : (z : ℕ) → z ≡ size w L → EntriesOn t e a₀ f₀ (a + z) g
        entries-item z hz =
            rw hz (record {
              same = same_trans f₀ f g P.same i.same;
              run = λ c n k. ran_then f₀ f g P.same (thr_to f₀.geo (P.run c n k)
                  (ap (λ (y : Scan). remove_entries t (presents y.items) (st_with f c n) k)
                  (by_item w hw f.img.now e he a r h q L x)
                  ∙ remove_step t (record { at = a; it = item_of (part f.img.now a e) L }) (later f) (st_with f c n) k))
                  (thr_to f.geo (item_ran (hits t (item_of (part f.img.now a e) L)) a f g c n
                  (λ s. remove_entries t (presents (later f)) s k) i)
                  (ap (λ (es : List Entry). remove_entries t (presents es) (st_with g c n) k) rest_is));
            })

-- ---- pages

module _ (t : Wanted) (q : ℕ) (f : Flash) (b : Bool) (hb : b ≡ same Open (state f.geo f.img.now q)) where
  pub page_open : b ≡ true → PageOk t q f f
  page_open o =
      record { same = same_refl f; run = λ c n k. rw (← hb, o) (thr_refl f.geo (k (st_with f c n)) f.img.now f.power) }

  pub page-items : (g : Flash) → b ≡ false → EntriesOk t (data_at f.geo q) (end_at f.geo q) f g → PageOk t q f g
  page-items g o R =
      record {
        same = R.same;
        run = λ c n k. rw (← hb, o, scan_is f.geo f.img.now q (omega (arith, f.held.room))) (R.run c n k);
      }

-- a run over all pages has come to the m pages from q on, on the flash as it is now: the loop so far
pub record PagesOn (t : Wanted) (from : ℕ) (f : Flash) (m q : ℕ) (f' : Flash) : Type 0 where
  pub same : IsSame f f'
  pub within : q < f.geo.pages
  pub run : (c : Cache) (n : ℕ)
      → Ran f f' (remove_pages f.geo t (ups f.geo f.geo.pages from) (st_with f c n))
      (remove_pages f.geo t (ups f.geo m q) (st_with f' c n))

module _ (t : Wanted) (from : ℕ) (f₀ : Flash) where
  pub pages_first : from < f₀.geo.pages → PagesOn t from f₀ f₀.geo.pages from f₀
  pages_first h =
      record { same = same_refl f₀; within = h; run = λ c n. thr_refl f₀.geo _ f₀.img.now f₀.power }

  pub pages_none : (m q : ℕ) (f : Flash) → from < f₀.geo.pages → m ≤ 0 → PagesOn t from f₀ m q f → PagesOk t from f₀ f
  unfolding remove_pages ups
  pages_none m q f h z P = record {
    same = P.same;
    run = λ c n.
        thr_from f₀.geo (ap (λ (ps : List ℕ). remove_pages f₀.geo t ps (st_with f₀ c n)) (up_is f₀.geo from h))
        (thr_to f₀.geo (P.run c n) (let y : m ≡ 0 = omega arith in rw y));
  }

  pub pages_on : (m' m q x : ℕ) (f g : Flash) (G : Geo) → m' ≡ suc m → PagesOn t from f₀ m' q f → PageOk t q f g
      → G ≡ g.geo → x ≡ next G q → x < G.pages → PagesOn t from f₀ m x g
  unfolding remove_pages ups
  pages_on m' m q x f g G hm P R hg hx hl =
      let G₀ = f₀.geo in
      let s = same_trans f₀ f g P.same R.same in
      let r = rw P.same.geo at R.run in
      let here = rw hm at P.run in
      record {
        same = s;
        within = rw (hg, s.geo) at hl;
        run = λ c n. thr_then G₀ (here c n)
            (thr_to G₀ (r c n (remove_pages G₀ t (ups G₀ m (next G₀ q))))
            (sym (ap (λ (y : ℕ). remove_pages G₀ t (ups G₀ m y) (st_with g c n)) (rw (hg, s.geo) at hx))));
      }

-- ---- a removal

pub removed : (t : Wanted) (from : ℕ) (s₀ s s' : Storage) → st_of s ≡ forgetting t (st_of s₀) → KeepsImage s₀ s
    → from ≡ remove_start s.flash.now.geo s.flash.now.img.now → PagesOk t from s.flash.now s'.flash.now
    → s'.flash.ghost_name ≡ s.flash.ghost_name → s'.cache ≡ s.cache → s'.slots ≡ s.slots → s'.erased ≡ s.erased
    → RunOk 0 (run_remove s₀.flash.now.geo t) s₀ s' Done
removed t from s₀ s s' F K hf R hl hc hn he =
    let G = s₀.flash.now.geo in
    let begins = rw (K.keeps.same.geo, K.image) at hf in
    let pages : Came 0 s s' (remove_pages s.flash.now.geo t (ring_up s.flash.now.geo from) (st_of s)) (out Done (st_of s')) =
    record {
      is = thr_to s.flash.now.geo (R.run (st_of s).cache s.erased) (rw (hc, hn, he) refl);
      keeps = record { lent = hl; same = R.same; slots = hn; past = rw hc (past_refl s.slots.count s.cache) };
      erased = omega arith;
    } in
    came_from (ap (λ (x : ℕ). remove_pages G t (ring_up G x) (forgetting t (st_of s₀))) (sym begins)
    ∙ ap (λ (x : St). remove_pages G t (ring_up G from) x) (sym F)
    ∙ ap (λ (g : Geo). remove_pages g t (ring_up g from) (st_of s)) (sym K.keeps.same.geo))
    (came_then (came_still s₀ s _ K) pages)

-- ---- erase all

-- all pages are erased and counted, the cache emptied before
pub erased_all : (s₀ s s' : Storage) → st_of s ≡ cleared (st_of s₀) → KeepsImage s₀ s → IsSame s.flash.now s'.flash.now
    → ErasedAll s.flash.now.geo s.flash.now.img.now s.flash.now.power s'.flash.now.img.now s'.flash.now.power
    → s'.flash.ghost_name ≡ s.flash.ghost_name → s'.slots ≡ s.slots → s'.cache ≡ s.cache
    → s'.erased ≡ s.erased + s.flash.now.geo.pages
    → RunOk s₀.flash.now.geo.pages (erase_all s₀.flash.now.geo) s₀ s' Done
unfolding erase_all
erased_all s₀ s s' F K S E lent slots cache erased =
    let G = s₀.flash.now.geo in
    let g = s.flash.now.geo in
    let hg : g.pages ≡ G.pages = rw K.keeps.same.geo in
    let run : Came g.pages s s' (erase_from g 0 (st_of s)) (out Done (st_of s')) = record {
      is = thr_to g (E (st_of s).cache s.erased) (ap (out Done) (rw (slots, cache, erased) refl));
      keeps = record { lent = lent; same = S; slots = slots; past = rw cache (past_refl s.slots.count s.cache) };
      erased = omega (arith, erased);
    } in
    came_more (omega arith)
    (came_from (ap (λ (x : St). erase_pages G (up_from 0 G.pages) x) (sym F)
    ∙ ap (λ (m : ℕ). erase_pages G (up_from 0 m) (st_of s)) (sym (sub-zero G.pages))
    ∙ ap (λ (x : Geo). erase_from x 0 (st_of s)) (sym K.keeps.same.geo))
    (came_then (came_still s₀ s _ K) run))
