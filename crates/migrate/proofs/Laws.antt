-- The steps of a migration, as the code tells them.
use mathlib.Core.Path.{◌≡◌, refl, ap, sym, ◌∙◌}
use mathlib.Core.Logic.{◌⊎◌, ⊎_elim, inl, inr}
use Prim.Native.Nat.{ℕ, suc, ◌+◌, ◌-◌, ◌*◌, ◌≤◌, ◌<◌}
use native.Mathlib.Omega.{arith}
use mathlib.Core.Bool.{false, true, Bool}
use mathlib.Core.List.{List, ◌∷◌, ◌++◌}
use lib.ListN.{length, take, drop, length-append, length-drop}
use lib.Seq.{length-take-le}
use borrow.Author.Tests.{ne_eqb, eq-eqb}
use Rattle.std.specs.Prelude.{Option, Some, Result, Ok, Err, IfOk, IsErr}
use Rattle.rules.specs.declared.{Geo.Geo, Answer.TheVariants.Done, Answer.TheVariants.Corrupted}
use Rattle.rules.specs.Bytes.{pick, all_ff}
use Rattle.rules.specs.Items.{is_present, item_of, Entry, size, pad, presents, Scan, scan, read}
use Rattle.rules.specs.Pages.{blank_at, data_at, end_at, items_of}
use Rattle.rules.specs.Answers.{is_no}
use Rattle.rules.specs.Runs.{St, Out, out, noting, erasing}
use Rattle.rules.specs.Fetch.{Found, corrupt, missing, found, hit_item, hit, fetch_in}
use Rattle.rules.specs.Store.{migrate_one, migrate_all, migrate}
use Rattle.rules.specs.Held.{Held}
use Rattle.laws.specs.Geometry.{page_in}
use Rattle.laws.specs.Encoding.{length-pad}
use Rattle.laws.specs.Entries.{size_words, hit_at}
use Rattle.laws.specs.Reading.{le_size}
use Rattle.laws.specs.Power.{Wrote, wrote_window}
use Rattle.laws.specs.Through.{thr_refl, thr_from, thr_to, thr_then, thr_program, thr_erase, thr_on}
use Rattle.items.specs.declared.{Spot.Spot, Corrupt.Corrupt, Read.Read}
use Rattle.items.specs.declared.{Read.TheVariants.End as ReadEnd, Read.TheVariants.Skip, Read.TheVariants.Item}
use Rattle.items.specs.Code.{part, told, scan_in, read_of}
use Rattle.items.proofs.Laws.{in_none, by_end, by_skip, by_item}
use Rattle.cache.specs.Code.{pointers}
use Rattle.ring.specs.Flash.{Ran, Programmed}
use Rattle.ring.proofs.Laws.{scan_is}
use Rattle.fetch.specs.declared.storage.Storage.{Storage}
use Rattle.fetch.specs.Code.{st_of, Keeps, KeepsImage, ErasesPage, RunOk}
use Rattle.fetch.proofs.Laws.{keeps_refl, keeps_trans, same_trans}
use Rattle.migrate.specs.Code.{entry_at, go_on, copied, one_of, step_of, StepOk, Lies, run_of, AllOk, ended}

-- a run that changes no byte
ran_still : (s t : Storage) → KeepsImage s t → (o o' : Out) → o ≡ o' → Ran s.flash.now t.flash.now o o'
ran_still s t K o o' q =
    rw (K.image, K.power) (thr_from s.flash.now.geo q (thr_refl s.flash.now.geo o' s.flash.now.img.now s.flash.now.power))

-- a step that changes nothing
pub still : (f : St → (ℕ → St → Out) → Out) (wp z : ℕ) (s t : Storage) (r : Result ℕ Corrupt) → KeepsImage s t
    → ((k : ℕ → St → Out) → f (st_of s) k ≡ go_on r (st_of t) k) → ((n : ℕ) → r ≡ Ok n → n ≡ wp)
    → StepOk f wp z s t r
still f wp z s t r K q h =
    record {
      run = λ k. ran_still s t K _ _ (q k);
      keeps = K.keeps;
      erased = K.erased;
      others = λ a m d. ap (λ x. take m (drop a x)) K.image;
      next = within r h;
    }
  where
    within : (r : Result ℕ Corrupt) → ((n : ℕ) → r ≡ Ok n → n ≡ wp) → IfOk r (λ n. (wp ≤ n) × (n ≤ wp + z))
    within (Ok n) h = let e = h n refl in (omega arith, omega arith)
    within (Err e) h = tt

pub image_refl : (s : Storage) → KeepsImage s s
image_refl s = record { keeps = keeps_refl s; image = refl; power = refl; erased = refl }

-- ---- a copy

pub blank_is : (img : List ℕ) (wp span z : ℕ) (b : Bool) → span ≡ z
    → b ≡ all_ff (take (wp + span - wp) (drop wp img)) → b ≡ blank_at img wp z
blank_is img wp span z b hs hb =
    let q : wp + span - wp ≡ span = omega arith in
    hb ∙ ap (λ (x : ℕ). all_ff (take x (drop wp img))) (q ∙ hs)

copy_length : (w : ℕ) (img : List ℕ) (a L : ℕ) → 0 < w → a + 8 + L ≤ length img
    → length (take (8 + L) (drop a img) ++ pad w L) ≡ size w L
unfolding size
copy_length w img a L hw h =
    let l₁ : length (take (8 + L) (drop a img)) ≡ 8 + L =
    length-take-le (8 + L) (drop a img) (rw length-drop (omega arith)) in
    omega (arith, length-append (take (8 + L) (drop a img)) (pad w L), length-pad w L hw)

module _ (key a L wp : ℕ) (old : Storage) where
  abbrev z : ℕ
  z = size old.flash.now.geo.word L

  pub copy_no : false ≡ blank_at old.flash.now.img.now wp z
      → StepOk (copied old.flash.now.geo key a L wp) wp z old old (Err (record {}))
  copy_no e = still _ wp z old old _ (image_refl old) (λ k. rw (← e) refl) (λ n q. cc)

  module _ (mid new : Storage) (noted : st_of mid ≡ noting key wp (st_of old)) (K : KeepsImage old mid)
      (P : Programmed mid.flash.now new.flash.now wp
      (take (8 + L) (drop a mid.flash.now.img.now) ++ pad mid.flash.now.geo.word L))
      (lent : new.flash.ghost_name ≡ mid.flash.ghost_name) (slots : new.slots ≡ mid.slots) (cache : new.cache ≡ mid.cache) (erased : new.erased ≡ mid.erased) where
    abbrev bytes : List ℕ
    bytes = take (8 + L) (drop a old.flash.now.img.now) ++ pad old.flash.now.geo.word L

    wrote : Wrote old.flash.now.img.now old.flash.now.power new.flash.now.img.now new.flash.now.power wp bytes
    wrote =
        let w = P.wrote in
        rw K.keeps.same.geo at (rw K.power at (rw K.image at w))

    state : record { img = new.flash.now.img.now; cache = (noting key wp (st_of old)).cache; erased = old.erased }
        ≡ st_of new
    state =
        let c : (noting key wp (st_of old)).cache ≡ pointers mid.slots.count mid.cache = ap (λ (x : St). x.cache) (sym noted) in
        rw (c, slots, cache, erased, K.erased) refl

    pub copy_yes : (span : ℕ) → span ≡ z → true ≡ blank_at old.flash.now.img.now wp z → 0 < old.flash.now.geo.word
        → a + 8 + L ≤ length old.flash.now.img.now → wp + z ≤ length old.flash.now.img.now
        → StepOk (copied old.flash.now.geo key a L wp) wp z old new (Ok (wp + span))
    copy_yes span hs e hw ha hwp =
        let G = old.flash.now.geo in
        let l = copy_length G.word old.flash.now.img.now a L hw ha in
        record {
          run = λ k. rw (← e, hs) (thr_to G (thr_program G wp bytes (noting key wp (st_of old)) (k (wp + z))
              new.flash.now.img.now old.flash.now.power new.flash.now.power wrote) (ap (k (wp + z)) state));
          keeps = record {
            lent = lent ∙ K.keeps.lent;
            same = same_trans old.flash.now mid.flash.now new.flash.now K.keeps.same P.same;
            slots = slots ∙ K.keeps.slots;
            past = rw cache K.keeps.past;
          };
          erased = erased ∙ K.erased;
          others = λ b m d. wrote_window old.flash.now.img.now new.flash.now.img.now bytes old.flash.now.power new.flash.now.power wp
              wrote (omega arith) b m (⊎_elim (λ (y : b + m ≤ wp). inl y) (λ (y : wp + z ≤ b). inr (omega arith)) d);
          next = (omega arith, omega arith);
        }

-- ---- an item

-- a run that ends goes on nowhere
on_err : (r : Result ℕ Corrupt) → IsErr r → (s : St) (k : ℕ → St → Out) → go_on r s k ≡ out Corrupted s
on_err (Ok n) h s k = cc
on_err (Err e) h s k = refl

not_ok : (r : Result ℕ Corrupt) → IsErr r → (n wp : ℕ) → r ≡ Ok n → n ≡ wp
not_ok (Ok n) h m wp q = cc
not_ok (Err e) h m wp q = cc

module _ (a e L wp : ℕ) (old : Storage) where
  abbrev entry : Entry
  entry = entry_at old.flash.now.img.now a e L

  abbrev span : ℕ
  span = size old.flash.now.geo.word L

  pub not_present : false ≡ is_present entry.it.kind → StepOk (step_of old.flash.now.geo entry wp) wp span old old (Ok wp)
  not_present p = still _ wp span old old (Ok wp) (image_refl old) (λ k. rw (← p) refl) (λ n q. cc)

  module _ (key : ℕ) (mid : Storage) (p : true ≡ is_present entry.it.kind) (hk : key ≡ entry.it.key)
      (res : Result (Option Spot) Corrupt) (hr : res ≡ told (fetch_in old.flash.now.geo key (st_of old)).res)
      (hs : st_of mid ≡ (fetch_in old.flash.now.geo key (st_of old)).st) (K : KeepsImage old mid) where
    step_is : (k : ℕ → St → Out) → step_of old.flash.now.geo entry wp (st_of old) k
        ≡ migrate_one old.flash.now.geo entry wp (st_of mid) k (fetch_in old.flash.now.geo key (st_of old)).res
    step_is k = rw (← p, ← hk, ← hs) refl

    pub not_found : (r : Result ℕ Corrupt) → IsErr r → ((s : Spot) → res ≡ Ok (Some s) → ⊥)
        → StepOk (step_of old.flash.now.geo entry wp) wp span old mid r
    not_found r h n =
        still _ wp span old mid r K
        (λ k. step_is k ∙ go (fetch_in old.flash.now.geo key (st_of old)).res hr k ∙ sym (on_err r h (st_of mid) k))
        (λ m q. not_ok r h m wp q)
      where
        go : (x : Found) → res ≡ told x → (k : ℕ → St → Out)
            → migrate_one old.flash.now.geo entry wp (st_of mid) k x ≡ out Corrupted (st_of mid)
        go corrupt q k = refl
        go missing q k = refl
        go (found f) q k = absurd (n _ q)

    pub elsewhere : (s : Spot) → res ≡ Ok (Some s) → (s.at ≡ a → ⊥)
        → StepOk (step_of old.flash.now.geo entry wp) wp span old mid (Ok wp)
    elsewhere s h n =
        still _ wp span old mid (Ok wp) K
        (λ k. step_is k ∙ go (fetch_in old.flash.now.geo key (st_of old)).res (sym h ∙ hr) k) (λ m q. cc)
      where
        go : (x : Found) → Ok (Some s) ≡ told x → (k : ℕ → St → Out)
            → migrate_one old.flash.now.geo entry wp (st_of mid) k x ≡ k wp (st_of mid)
        go corrupt q k = cc
        go missing q k = cc
        go (found f) q k = let z : s.at ≡ f.at = cc in rw (ne_eqb f.at a (λ (y : f.at ≡ a). n (z ∙ y))) refl

    -- the newest is here: the copy is what is left
    pub here : (s : Spot) → res ≡ Ok (Some s) → s.at ≡ a → (G : Geo) → G ≡ old.flash.now.geo → (new : Storage)
        (r : Result ℕ Corrupt) → StepOk (copied G key a L wp) wp (size G.word L) mid new r
        → StepOk (step_of old.flash.now.geo entry wp) wp span old new r
    here s h n G g new r C =
        let C' = rw g at C in
        record {
          run = λ k. thr_then old.flash.now.geo (ran_still old mid K _ _ (step_is k
              ∙ go (fetch_in old.flash.now.geo key (st_of old)).res (sym h ∙ hr) k))
              (rw K.keeps.same.geo at C'.run k);
          keeps = keeps_trans old mid new K.keeps C.keeps;
          erased = C.erased ∙ K.erased;
          others = λ b m d. C'.others b m d ∙ ap (λ x. take m (drop b x)) K.image;
          next = C'.next;
        }
      where
        go : (x : Found) → Ok (Some s) ≡ told x → (k : ℕ → St → Out)
            → migrate_one old.flash.now.geo entry wp (st_of mid) k x ≡ copied old.flash.now.geo key a L wp (st_of mid) k
        go corrupt q k = cc
        go missing q k = cc
        go (found f) q k =
            let z : s.at ≡ f.at = cc in
            rw (eq-eqb f.at a (sym z ∙ n), ← hk) refl

pub near : (a e L wp w : ℕ) → 0 < w → a + size w L ≤ e → ((wp + size w L ≤ a) ⊎ (e ≤ wp))
    → (a + 8 + L ≤ wp) ⊎ (wp + size w L ≤ a)
near a e L wp w hw h d =
    let z = le_size w L hw in
    ⊎_elim (λ (y : wp + size w L ≤ a). inr y) (λ (y : e ≤ wp). inl (omega arith)) d

-- ---- a page's first place, the place after what is read, and that an item on a word is a hit at its own place

page_lies : (G : Geo) (len : ℕ) → Held G len → (q : ℕ) → q < G.pages → Lies G (data_at G q) (end_at G q)
page_lies G len h q i =
    record { page = q; off = 1; page_in = i; at_is = omega arith; low = omega arith; end_is = refl }

lies_skip : (G : Geo) (a e : ℕ) → Lies G a e → Lies G (a + G.word) e
lies_skip G a e y = record {
  page = y.page;
  off = suc y.off;
  page_in = y.page_in;
  at_is = omega (arith, y.at_is);
  low = omega (arith, y.low);
  end_is = y.end_is;
}

lies_item : (G : Geo) (len : ℕ) → Held G len → (a e : ℕ) → Lies G a e → (L : ℕ) → Lies G (a + size G.word L) e
lies_item G len h a e y L =
    let j = size_words G len h L in
    let z = j.1 in
    record {
      page = y.page;
      off = y.off + j.0;
      page_in = y.page_in;
      at_is = omega (arith, y.at_is);
      low = omega (arith, y.low);
      end_is = y.end_is;
    }

pub own_hit : (G : Geo) (img : List ℕ) → Held G (length img) → (a e L : ℕ) → Lies G a e → a ≤ e
    → read_of (part img a e) (Item L) ≡ read G.word (part img a e)
    → (key : ℕ) → key ≡ (item_of (part img a e) L).key → true ≡ is_present (item_of (part img a e) L).kind
    → Ok (Some (record { at = a; len = L })) ≡ told (hit G img key a)
own_hit G img h a e L y i hr key hk pr =
    let z : hit G img key a ≡ hit_item key a (read G.word (part img a e)) =
    hit_at G img h y.page y.page_in key a y.off y.at_is y.low (omega (arith, y.end_is))
    ∙ ap (λ (u : ℕ). hit_item key a (read G.word (part img a u))) (sym y.end_is) in
    rw (z, ← hr, ← pr, eq-eqb (item_of (part img a e) L).key key (sym hk)) refl

-- ---- the run over an area

all_step : (G : Geo) (x : Entry) (es : List Entry) (wp : ℕ) (s : St)
    → migrate_all G (presents (x ∷ es)) wp s ≡ step_of G x wp s (migrate_all G (presents es))
unfolding migrate_all
all_step G x es wp s = go (is_present x.it.kind)
  where
    go : (b : Bool)
        → migrate_all G (pick b (x ∷ presents es) (presents es)) wp s
        ≡ pick b (one_of G x wp s (migrate_all G (presents es))) (migrate_all G (presents es) wp s)
    go true = refl
    go false = refl

module _ (G : Geo) (hw : 0 < G.word) (s : St) (a e wp : ℕ) (he : e ≤ length s.img) where
  pub run_none : e ≤ a → run_of G a e wp s ≡ out Done s
  unfolding migrate_all
  run_none h = rw (in_none G.word hw s.img e he a h) refl

  module _ (r : Read) (h : a < e) (q : read_of (part s.img a e) r ≡ read G.word (part s.img a e)) where
    pub run_end : r ≡ ReadEnd → run_of G a e wp s ≡ out Done s
    unfolding migrate_all
    run_end t = rw (by_end G.word hw s.img e he a r h q t) refl

    pub run_skip : r ≡ Skip → run_of G a e wp s ≡ run_of G (a + G.word) e wp s
    run_skip t = ap (λ (x : Scan). migrate_all G (presents x.items) wp s) (by_skip G.word hw s.img e he a r h q t)

    pub run_item : (L : ℕ) → r ≡ Item L
        → run_of G a e wp s
        ≡ step_of G (entry_at s.img a e L) wp s (migrate_all G (presents (scan_in G.word s.img (a + size G.word L) e).items))
    run_item L t =
        ap (λ (x : Scan). migrate_all G (presents x.items) wp s) (by_item G.word hw s.img e he a r h q L t)
        ∙ all_step G (entry_at s.img a e L) (scan_in G.word s.img (a + size G.word L) e).items wp s

-- the run from a to e, which began to write at `to`, has come to `at`, and writes at `next`
pub record Reached (a e to : ℕ) (old : Storage) (at next : ℕ) (new : Storage) : Type 0 where
  pub low : a ≤ at
  pub high : at ≤ e
  pub grown : to ≤ next
  pub room : next + (e - at) ≤ to + (e - a)
  pub lies : Lies old.flash.now.geo at e
  pub run : Ran old.flash.now new.flash.now (run_of old.flash.now.geo a e to (st_of old)) (run_of old.flash.now.geo at e next (st_of new))
  pub keeps : Keeps old new
  pub erased : new.erased ≡ old.erased

pub reached_refl : (a e to : ℕ) (s : Storage) → Lies s.flash.now.geo a e → a ≤ e → Reached a e to s a to s
reached_refl a e to s y h = record {
  low = omega arith;
  high = h;
  grown = omega arith;
  room = omega arith;
  lies = y;
  run = thr_refl s.flash.now.geo (run_of s.flash.now.geo a e to (st_of s)) s.flash.now.img.now s.flash.now.power;
  keeps = keeps_refl s;
  erased = refl;
}

pub len_same : (old new : Storage) → Keeps old new → length new.flash.now.img.now ≡ length old.flash.now.img.now
len_same old new K =
    let h = new.flash.now.held.whole in
    rw K.same.geo at h ∙ sym old.flash.now.held.whole

module _ (a e to : ℕ) (old : Storage) (at next : ℕ) (now : Storage) (I : Reached a e to old at next now) where
  -- no item is left
  pub all_done : run_of old.flash.now.geo at e next (st_of now) ≡ out Done (st_of now) → AllOk a e to old now (Ok tt)
  all_done q = record { run = thr_to old.flash.now.geo I.run q; keeps = I.keeps; erased = I.erased }

  pub reached_skip : run_of old.flash.now.geo at e next (st_of now) ≡ run_of old.flash.now.geo (at + old.flash.now.geo.word) e next (st_of now)
      → at + old.flash.now.geo.word ≤ e → Reached a e to old (at + old.flash.now.geo.word) next now
  reached_skip q h = record {
    low = omega (arith, I.low);
    high = h;
    grown = I.grown;
    room = omega (arith, I.room);
    lies = lies_skip old.flash.now.geo at e I.lies;
    run = thr_to old.flash.now.geo I.run q;
    keeps = I.keeps;
    erased = I.erased;
  }

  module _ (L : ℕ) (new : Storage) (m : Result ℕ Corrupt)
      (M : StepOk (step_of now.flash.now.geo (entry_at now.flash.now.img.now at e L) next) next (size now.flash.now.geo.word L) now new m)
      (q : run_of old.flash.now.geo at e next (st_of now)
      ≡ step_of old.flash.now.geo (entry_at now.flash.now.img.now at e L) next (st_of now)
      (migrate_all old.flash.now.geo
      (presents (scan_in old.flash.now.geo.word now.flash.now.img.now (at + size old.flash.now.geo.word L) e).items))) where
    abbrev b : ℕ
    b = at + size old.flash.now.geo.word L

    abbrev later : ℕ → St → Out
    later = migrate_all old.flash.now.geo (presents (scan_in old.flash.now.geo.word now.flash.now.img.now b e).items)

    one_step : Ran old.flash.now new.flash.now (run_of old.flash.now.geo a e to (st_of old)) (go_on m (st_of new) later)
    one_step =
        let r = M.run later in
        thr_then old.flash.now.geo I.run (thr_from old.flash.now.geo q (rw I.keeps.same.geo at r))

    pub all_bad : IsErr m → (r : Result (Unit {0}) Corrupt) → IsErr r → AllOk a e to old new r
    all_bad h r hr = record {
      run = thr_to old.flash.now.geo one_step (on_err m h (st_of new) later ∙ ap (λ x. out x (st_of new)) (sym (bad r hr)));
      keeps = keeps_trans old now new I.keeps M.keeps;
      erased = M.erased ∙ I.erased;
    }
      where
        bad : (r : Result (Unit {0}) Corrupt) → IsErr r → ended r ≡ Corrupted
        bad (Ok u) h = cc
        bad (Err x) h = refl

    pub reached_item : (n : ℕ) → m ≡ Ok n → b ≤ e → ((to + (e - a) ≤ a) ⊎ (e ≤ to)) → Reached a e to old b n new
    reached_item n o h d =
        let w = M.next in
        let w' = rw o at w in
        let w'' = rw I.keeps.same.geo at w' in
        let rest : part new.flash.now.img.now b e ≡ part now.flash.now.img.now b e =
        M.others b (e - b) (rw I.keeps.same.geo (⊎_elim (λ (y : to + (e - a) ≤ a). inr (omega (arith, I.low, I.room, I.high)))
        (λ (y : e ≤ to). inl (omega (arith, I.grown))) d)) in
        record {
          low = omega (arith, I.low);
          high = h;
          grown = omega (arith, I.grown, w''.0);
          room = omega (arith, I.room, w''.1);
          lies = lies_item old.flash.now.geo (length old.flash.now.img.now) old.flash.now.held at e I.lies L;
          run = thr_to old.flash.now.geo one_step (ap (λ (x : Result ℕ Corrupt). go_on x (st_of new) later) o
              ∙ sym (ap (λ (x : List ℕ). migrate_all old.flash.now.geo (presents (scan old.flash.now.geo.word (e - b) b x).items) n
              (st_of new)) rest));
          keeps = keeps_trans old now new I.keeps M.keeps;
          erased = M.erased ∙ I.erased;
        }

-- ---- a migration

pub pages_apart : (E w src tgt : ℕ) → 2 * w ≤ E → ((src < tgt) ⊎ (tgt < src))
    → (tgt * E + w + (src * E + (E - w) - (src * E + w)) ≤ src * E + w) ⊎ (src * E + (E - w) ≤ tgt * E + w)
pages_apart E w src tgt h d =
    ⊎_elim (λ (y : src < tgt). inr (omega (arith, page_in E src tgt y)))
    (λ (y : tgt < src). inl (omega (arith, page_in E tgt src y))) d

-- the source's area lies in the image, and apart from the target's
pub areas : (G : Geo) (len : ℕ) → Held G len → (src tgt : ℕ) → src < G.pages → tgt < G.pages
    → ((src < tgt) ⊎ (tgt < src))
    → Lies G (data_at G src) (end_at G src) × (data_at G src ≤ end_at G src) × (end_at G src ≤ len) × (data_at G tgt + (end_at G src - data_at G src) ≤ len)
    × ((data_at G tgt + (end_at G src - data_at G src) ≤ data_at G src) ⊎ (end_at G src ≤ data_at G tgt))
areas G len h src tgt i j d =
    let room : 2 * G.word ≤ G.page = omega (arith, h.room) in
    let s = page_in G.page src G.pages i in
    let t = page_in G.page tgt G.pages j in
    (page_lies G len h src i, omega arith, omega (arith, h.whole), omega (arith, h.whole), pages_apart G.page G.word src tgt room d)

bad_end : (r : Result (Unit {0}) Corrupt) → IsErr r → ended r ≡ Corrupted
bad_end (Ok u) h = cc
bad_end (Err x) h = refl

module _ (src tgt a e to : ℕ) (old mid : Storage) (ha : a ≡ data_at old.flash.now.geo src)
    (he : e ≡ end_at old.flash.now.geo src) (ht : to ≡ data_at old.flash.now.geo tgt) where
  abbrev G : Geo
  G = old.flash.now.geo

  abbrev moves : Out
  moves = migrate_all G (items_of G old.flash.now.img.now src) (data_at G tgt) (st_of old)

  abbrev wipe : St → Out
  wipe s = erasing G src s (out Done)

  module _ (r : Result (Unit {0}) Corrupt) (M : AllOk a e to old mid r) where
    all_is : Ran old.flash.now mid.flash.now moves (out (ended r) (st_of mid))
    all_is =
        let room : 2 * G.word ≤ G.page = omega (arith, old.flash.now.held.room) in
        thr_from G (rw (scan_is G old.flash.now.img.now src room, ← ha, ← he, ← ht) refl) M.run

    moved : Ran old.flash.now mid.flash.now (migrate G src tgt (st_of old))
        (pick (is_no 0 (ended r)) (wipe (st_of mid)) (out (ended r) (st_of mid)))
    unfolding migrate
    moved =
        thr_on G 0 moves wipe old.flash.now.img.now mid.flash.now.img.now old.flash.now.power mid.flash.now.power (ended r) (st_of mid)
        all_is

  pub migrate_bad : (x : Corrupt) → AllOk a e to old mid (Err x) → (r : Result (Unit {0}) Corrupt) → IsErr r
      → RunOk 1 (migrate G src tgt) old mid (ended r)
  migrate_bad x M r h =
      rw (bad_end r h) (record { is = moved (Err x) M; keeps = M.keeps; erased = omega (arith, M.erased) })

  pub migrate-ok : (u : Unit {0}) → AllOk a e to old mid (Ok u) → (new : Storage) → ErasesPage mid new src
      → RunOk 1 (migrate G src tgt) old new Done
  migrate-ok u M new E =
      let b = E.page.blanked in
      let K = M.keeps in
      record {
        is = thr_then G (moved (Ok u) M) (thr_to G (thr_erase G src (st_of mid) (out Done) new.flash.now.img.now mid.flash.now.power
            new.flash.now.power (rw K.same.geo at b)) (ap (out Done) (rw (E.slots, E.cache, E.erased) refl)));
        keeps = record {
          lent = E.lent ∙ K.lent;
          same = same_trans old.flash.now mid.flash.now new.flash.now K.same E.page.same;
          slots = E.slots ∙ K.slots;
          past = rw E.cache K.past;
        };
        erased = omega (arith, M.erased, E.erased);
      }
