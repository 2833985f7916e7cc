-- Code that takes its flash steps in another order meets no contract, however it is proved: with power for one unit,
-- the byte that is programmed or the page that is erased tells which step came first, and the rest runs without power
-- and changes nothing. The premises are the contracts of the functions that the wrong code would call first, and the
-- contract that it would have to meet itself.
use Rattle.std.specs.Prelude.{◌≡◌, refl, ◌≢◌, ℕ, suc, ◌+◌, ◌≤◌, ◌<◌, List, [], ◌∷◌, ◌++◌, true, length, get_or, set, replicate}
use Rattle.std.proofs.Common.{sym, ap, ◌∙◌, length-set, get_or-set_other, arith}
use Rattle.std.proofs.lemmas.List.{set_comm}
use Rattle.std.specs.Int.Bits.{bit_and}
use Rattle.rules.specs.declared.{Geo.Geo, Answer.Answer, Answer.TheVariants.Done}
use Rattle.rules.specs.Bytes.{FlashStep, programs, erases, program, erase, splice, round_up, zeros_in, zero_bits}
use Rattle.rules.specs.Items.{read_by, read, size, pad, encode, encode_data, scan}
use Rattle.rules.specs.Pages.{state, scan_of, ring_up, ring_down, all_pages}
use Rattle.rules.specs.Cache.{Cache, forget, note}
use Rattle.rules.specs.Runs.{St, Out, out, on}
use Rattle.rules.specs.Power.{lasts, spend, taken, cut_image}
use Rattle.rules.specs.Fetch.{newest, hit, fetch_in}
use Rattle.rules.specs.Store.{migrate_all, migrate, erase_corrupted}
use Rattle.rules.specs.Remove.{only, remove_entries, remove_pages, run_remove}
use Rattle.laws.specs.Programs.{program-nil, program-cons, program-append}
use Rattle.laws.specs.Power.{Wrote, Blanked, taken_none, cut_first}
use Rattle.laws.specs.Through.{Through, thr_cut}
use Rattle.store.specs.Code.{roll_of}

-- what a call begins with: an image, any cache, and any count of erased pages
abbrev begin : List ℕ → Cache → ℕ → St
begin img c n = record { img = img; cache = c; erased = n }

-- ---- one unit of power

one_left : (n : ℕ) → spend 1 (suc n) ≡ 0
unfolding spend
one_left n = omega arith

one_taken : (b c : ℕ) (bs : List ℕ) → taken 1 (b ∷ c ∷ bs) ≡ b ∷ []
unfolding taken
one_taken b c bs = refl

one_lasts : lasts 1 1 ≡ true
unfolding lasts
one_lasts = refl

-- a run whose first step programs bytes has programmed the first of them, and nothing else
pub first_byte : (G : Geo) (o : Out) (img img' : List ℕ) (p' : ℕ) (a : Answer) (s : St) (at b c : ℕ) (bs : List ℕ)
    (xs : List FlashStep)
    → o.steps ≡ programs at (b ∷ c ∷ bs) ∷ xs → Through G o img 1 img' p' (out a s) → img' ≡ program img at (b ∷ [])
first_byte G o img img' p' a s at b c bs xs e t =
    (thr_cut G o img img' 1 p' a s t).0
    ∙ ap (cut_image G.page img 1) e
    ∙ cut_first G.page (programs at (b ∷ c ∷ bs)) xs img 1 (one_left (suc (length bs)))
    ∙ ap (program img at) (one_taken b c bs)

-- one whose first step erases a page has erased this page, and nothing else
pub first_page_lem : (G : Geo) (o : Out) (img img' : List ℕ) (p' : ℕ) (a : Answer) (s : St) (q : ℕ) (xs : List FlashStep)
    → o.steps ≡ erases q ∷ xs → Through G o img 1 img' p' (out a s) → img' ≡ erase G.page img q
first_page_lem G o img img' p' a s q xs e t =
    (thr_cut G o img img' 1 p' a s t).0 ∙ ap (cut_image G.page img 1) e
    ∙ cut_first G.page (erases q) xs img 1 (one_left 0) ∙ rw one_lasts

-- a function that programs bytes, or erases a page, has done the same and leaves no power; without power it does
-- nothing
wrote_one : (l l' : List ℕ) (p' at b c : ℕ) (bs : List ℕ) → Wrote l 1 l' p' at (b ∷ c ∷ bs)
    → (l' ≡ program l at (b ∷ [])) × (p' ≡ 0)
wrote_one l l' p' at b c bs w = (w.is ∙ ap (program l at) (one_taken b c bs), w.left ∙ one_left (suc (length bs)))

blanked_one : (G : Geo) (l l' : List ℕ) (p' q : ℕ) → Blanked G l 1 l' p' q → (l' ≡ erase G.page l q) × (p' ≡ 0)
blanked_one G l l' p' q w = (w.is ∙ rw one_lasts, w.left ∙ one_left 0)

wrote_none : (l l' : List ℕ) (p p' at : ℕ) (bs : List ℕ) → p ≡ 0 → Wrote l p l' p' at bs → l' ≡ l
wrote_none l l' p p' at bs e w = w.is ∙ rw (e, taken_none bs) (program-nil l at)

-- ---- data before header: `write::write_item` that programs the data first

pub data_before_header : (l₁ l₂ : List ℕ) (p₁ p₂ : ℕ) → Wrote (replicate 12 255) 1 l₁ p₁ 8 (7 ∷ 0 ∷ 0 ∷ 0 ∷ [])
    → Wrote l₁ p₁ l₂ p₂ 0 (4 ∷ 0 ∷ 251 ∷ 255 ∷ 30 ∷ 0 ∷ 0 ∷ 0 ∷ []) → Wrote (replicate 12 255) 1 l₂ p₂ 0 (encode 4 7 [])
    → ⊥
unfolding program splice encode encode_data pad round_up zeros_in zero_bits taken
data_before_header l₁ l₂ p₁ p₂ d h w =
    let first = wrote_one (replicate 12 255) l₁ p₁ 8 7 0 (0 ∷ 0 ∷ []) d in
    let idle : l₂ ≡ l₁ = wrote_none l₁ l₂ p₁ p₂ 0 (4 ∷ 0 ∷ 251 ∷ 255 ∷ 30 ∷ 0 ∷ 0 ∷ 0 ∷ []) first.1 h in
    let byte : ◌≡◌ {A = ℕ} 255 4 = ap (λ (l : List ℕ). get_or l 0 0) (sym (idle ∙ first.0) ∙ w.is) in
    absurd (omega arith)

-- ---- start mark before end mark: `store::close` that marks the next page first

abbrev three : Geo
three = record { word = 4; page = 20; pages = 3 }

-- what follows the first write runs without power, so it leaves l₁
pub start_before_end : (c : Cache) (n : ℕ) (l₁ l₂ : List ℕ) (p₁ p₂ : ℕ) (a : Answer) (s : St)
    → Wrote (replicate 60 255) 1 l₁ p₁ 20 (0 ∷ 0 ∷ 0 ∷ 0 ∷ []) → l₂ ≡ l₁
    → Through three (roll_of three 0 (begin (replicate 60 255) c n)) (replicate 60 255) 1 l₂ p₂ (out a s) → ⊥
unfolding program splice
start_before_end c n l₁ l₂ p₁ p₂ a s d e t =
    let first = wrote_one (replicate 60 255) l₁ p₁ 20 0 0 (0 ∷ 0 ∷ []) d in
    let must = first_byte three (roll_of three 0 (begin (replicate 60 255) c n)) (replicate 60 255) l₂ p₂ a s 16 0 0
    (0 ∷ 0 ∷ []) _ refl t in
    let byte : ◌≡◌ {A = ℕ} 255 0 = ap (λ (l : List ℕ). get_or l 16 1) (sym first.0 ∙ sym e ∙ must) in
    absurd (omega arith)

-- ---- removal from another page: `remove::run_remove` that starts at the PartialOpen page

-- page 0 Closed, page 1 PartialOpen, each with key 7; page 2 blank
abbrev held : List ℕ
held = replicate 4 0 ++ (encode 4 7 [] ++ (replicate 8 0 ++ (encode 4 7 [] ++ replicate 24 255)))

pub other_start : (c : Cache) (n : ℕ) (l₁ l₂ : List ℕ) (p₁ p₂ : ℕ) (a : Answer) (s : St)
    → Wrote held 1 l₁ p₁ 28 (0 ∷ 0 ∷ 0 ∷ 0 ∷ []) → l₂ ≡ l₁
    → Through three (run_remove three (only 7) (begin held c n)) held 1 l₂ p₂ (out a s) → ⊥
unfolding program splice encode encode_data pad round_up zeros_in zero_bits read_by read size scan state scan_of ring_up remove_entries remove_pages forget
other_start c n l₁ l₂ p₁ p₂ a s d e t =
    let first = wrote_one held l₁ p₁ 28 0 0 (0 ∷ 0 ∷ []) d in
    let must =
    first_byte three (run_remove three (only 7) (begin held c n)) held l₂ p₂ a s 8 0 0 (0 ∷ 0 ∷ []) _ refl t in
    let byte : ◌≡◌ {A = ℕ} 0 (get_or held 28 1) = ap (λ (l : List ℕ). get_or l 28 1) (sym first.0 ∙ sym e ∙ must) in
    absurd (omega arith)

-- ---- erase before copy: `migrate::migrate_items` that erases the source first

-- page 0 Closed with key 7, page 1 PartialOpen and empty, page 2 Open: page 0 is migrated into page 1
abbrev source : List ℕ
source = replicate 4 0 ++ (encode 4 7 [] ++ (replicate 8 0 ++ replicate 36 255))

pub erase_before_copy : (n : ℕ) (l₁ l₂ : List ℕ) (p₁ p₂ : ℕ) (a : Answer) (s : St) → Blanked three source 1 l₁ p₁ 0
    → l₂ ≡ l₁
    → Through three (migrate three 0 1 (begin source [] n)) source 1 l₂ p₂ (out a s) → ⊥
unfolding program erase splice encode encode_data pad round_up zeros_in zero_bits read_by read size scan state scan_of ring_up ring_down newest hit fetch_in note on migrate_all migrate
erase_before_copy n l₁ l₂ p₁ p₂ a s d e t =
    let first = blanked_one three source l₁ p₁ 0 d in
    let must = first_byte three (migrate three 0 1 (begin source [] n)) source l₂ p₂ a s 24 4 0
    (251 ∷ 255 ∷ 30 ∷ 0 ∷ 0 ∷ 0 ∷ 7 ∷ 0 ∷ 0 ∷ 0 ∷ []) _ refl t in
    let byte : ◌≡◌ {A = ℕ} 255 0 = ap (λ (l : List ℕ). get_or l 0 1) (sym first.0 ∙ sym e ∙ must) in
    absurd (omega arith)

-- ---- corrupted pages in another order: `mend::erase_corrupted` that erases the higher page first

-- pages 0 and 2 with their ends marked alone
abbrev broken : List ℕ
broken = replicate 16 255 ++ (replicate 4 0 ++ (replicate 36 255 ++ replicate 4 0))

pub higher_page_first : (c : Cache) (n : ℕ) (l₁ l₂ : List ℕ) (p₁ p₂ : ℕ) (s : St) → Blanked three broken 1 l₁ p₁ 2
    → l₂ ≡ l₁
    → Through three (erase_corrupted three (all_pages three) (begin broken c n) (out Done)) broken 1 l₂ p₂ (out Done s)
    → ⊥
unfolding erase splice zeros_in zero_bits state erase_corrupted
higher_page_first c n l₁ l₂ p₁ p₂ s d e t =
    let first = blanked_one three broken l₁ p₁ 2 d in
    let must = first_page_lem three (erase_corrupted three (all_pages three) (begin broken c n) (out Done)) broken l₂ p₂ Done
    s 0 _ refl t in
    let byte : ◌≡◌ {A = ℕ} 0 255 = ap (λ (l : List ℕ). get_or l 16 1) (sym first.0 ∙ sym e ∙ must) in
    absurd (omega arith)

-- ---- The image alone admits the other order

before_stays : (l : List ℕ) (a b : ℕ) (ys : List ℕ) → a < b → b + length ys ≤ length l
    → (length (program l b ys) ≡ length l) × (get_or (program l b ys) a 0 ≡ get_or l a 0)
before_stays l a b [] h g = rw (program-nil l b) (refl, refl)
before_stays l a b (y ∷ ys) h g =
    let x = bit_and (get_or l b 0) y in
    let rest = before_stays (set l b x) a (b + 1) ys (omega arith) (rw length-set (omega arith)) in
    let ne : a ≢ b = λ q. absurd (omega arith) in
    rw (program-cons l b y ys g) (rest.0 ∙ length-set l b x, rest.1 ∙ get_or-set_other l b a x 0 ne)

set_before : (l : List ℕ) (a v b : ℕ) (ys : List ℕ) → a < b → b + length ys ≤ length l
    → set (program l b ys) a v ≡ program (set l a v) b ys
set_before l a v b [] h g = rw (program-nil l b, program-nil (set l a v) b)
set_before l a v b (y ∷ ys) h g =
    let ne : b ≢ a = λ q. absurd (omega arith) in
    let x = bit_and (get_or l b 0) y in
    ap (λ (z : List ℕ). set z a v) (program-cons l b y ys g)
    ∙ set_before (set l b x) a v (b + 1) ys (omega arith) (rw length-set (omega arith))
    ∙ ap (λ (z : List ℕ). program z (b + 1) ys) (set_comm l b a x v ne)
    ∙ ap (λ (z : ℕ). program (set (set l a v) b (bit_and z y)) (b + 1) ys) (sym (get_or-set_other l a b v 0 ne))
    ∙ sym (program-cons (set l a v) b y ys (rw length-set (omega arith)))

-- bytes at two places, the higher ones first or last
program_swap : (l : List ℕ) (a : ℕ) (xs : List ℕ) (b : ℕ) (ys : List ℕ) → a + length xs ≤ b → b + length ys ≤ length l
    → program (program l b ys) a xs ≡ program (program l a xs) b ys
program_swap l a [] b ys h g = rw (program-nil (program l b ys) a, program-nil l a)
program_swap l a (x ∷ xs) b ys h g =
    let v = bit_and (get_or l a 0) x in
    let stays = before_stays l a b ys (omega arith) g in
    program-cons (program l b ys) a x xs (omega (arith, stays.0))
    ∙ ap (λ (z : ℕ). program (set (program l b ys) a (bit_and z x)) (a + 1) xs) stays.1
    ∙ ap (λ (z : List ℕ). program z (a + 1) xs) (set_before l a v b ys (omega arith) g)
    ∙ program_swap (set l a v) (a + 1) xs b ys (omega arith) (rw length-set (omega arith))
    ∙ sym (ap (λ (z : List ℕ). program z b ys) (program-cons l a x xs (omega arith)))

-- where nothing is cut, data before header leaves the image that an item does: a contract on the image that a call
-- leaves can't tell the two, and only the power does
pub image_alone_admits : (l : List ℕ) (at : ℕ) (header body : List ℕ) → at + (length header + length body) ≤ length l
    → program (program l (at + length header) body) at header ≡ program l at (header ++ body)
image_alone_admits l at header body h =
    program_swap l at header (at + length header) body (omega arith) (omega arith)
    ∙ sym (program-append l at header body h)
