-- Pages that are written are read back.
use Rattle.std.proofs.Common.{◌≡◌, ℕ, zero, suc, ◌+◌, ◌^◌, ◌<◌, ◌≤◌, ℤ, pos, Bool, true, false, cond, leb, List, ◌∷◌, ◌++◌, length, take, drop, refl, sym, ap, subst, ◌∙◌, arith, inl, inr, Option, Some, Ok}
use Rattle.std.specs.Int.{w32, to_le_bytes}
use Rattle.std.specs.List.{All}
use Rattle.std.proofs.lemmas.List.{length-append, take_at, drop_at}
use Rattle.std.proofs.lemmas.Bool.{cases_Bool, leb-true}
use Rattle.bit_pack.specs.Bits.{most_values}
use Rattle.bit_pack.specs.Hybrid.{Reads, hybrid_of}
use Rattle.bit_pack.proofs.WriteLemmas.{hybrid_reads}
use Rattle.bit_pack.proofs.Sums.{two_pow_le}
use Rattle.row_base.specs.declared.row.Datum.{Datum}
use Rattle.row_base.specs.declared.row.Datum.TheVariants as datum
use Rattle.row_base.specs.declared.row.Kind.{Kind}
use Rattle.parquet_meta.specs.declared.head.PageAt.{PageAt}
use Rattle.parquet_pages.specs.Places.{is_null, can_place, places_of, width_from, index_width}
use Rattle.parquet_pages.specs.Pages.{page_values, dictionary_values}
use Rattle.parquet_pages.specs.Written.{block_text, levels_of, levels_text, values_text, page_text, dictionary_text, index_text, CanStand}
use Rattle.parquet_pages.specs.Grammar.{PlainValues, Levels, Indexed, Present, plain, indexed, Body, required, optional, Framed}
use Rattle.parquet_pages.specs.ReadBack.{CanReturn, StandsIn, HeadsData, HeadsDictionary}
use Rattle.parquet_pages.proofs.Bits.{length-levels_of, levels_fit}
use Rattle.parquet_pages.proofs.Distinct.{places_few, places_within}
use Rattle.parquet_pages.proofs.Kept.{kept, there-kept, spread-kept, kept_all, length-places_of, values_back}
use Rattle.parquet_pages.proofs.PlainBack.{block_back, plain_back}
use Rattle.parquet_pages.proofs.PagesRead.{page_found, dictionary_page_found}

-- ---- frames

frame_back : (page : PageAt) (values : ℤ) (file : List ℕ) (count : ℕ) (text : List ℕ) → values ≡ pos count → count ≤ most_values
    → page.head.compressed_page_size ≡ pos (length text) → StandsIn file page.body text → Framed page values file count text
frame_back page values file count text counted few sized s =
    let long : length file ≡ length (s.front ++ (text ++ s.rest)) = ap length s.whole in
    record {
      size = length text;
      counted = counted;
      few = few;
      sized = sized;
      within = omega (arith, long, length-append s.front (text ++ s.rest), length-append text s.rest, s.begins);
      stands = sym (take_at text s.rest (length text) refl)
          ∙ ap (λ (bs : List ℕ). take (length text) bs) (sym (drop_at s.front (text ++ s.rest) page.body s.begins))
          ∙ ap (λ (bs : List ℕ). take (length text) (drop page.body bs)) (sym s.whole);
    }

-- ---- bodies

-- values without null
none_null : (k : Kind) (vs : List Datum) → All (CanStand k false) vs → All (λ v. is_null v ≡ false) vs
none_null k vs stand = λ i d lt. apart _ (stand i d lt)
  where
    apart : (v : Datum) → CanStand k false v → is_null v ≡ false
    apart datum.Null h = absurd cc
    apart (datum.Long n) h = refl
    apart (datum.Integer n) h = refl
    apart (datum.Boolean b) h = refl
    apart (datum.Text t) h = refl
    apart (datum.Date n) h = refl

levels_back : (vs : List Datum) (rest : List ℕ) → length vs ≤ most_values → length (hybrid_of 1 (levels_of vs)) < 2 ^ 32
    → Levels (length vs) (block_text (hybrid_of 1 (levels_of vs)) ++ rest) (levels_of vs) rest
levels_back vs rest few small =
    let many : length (levels_of vs) ≤ most_values = omega (arith, few, length-levels_of vs) in
    let reads : Reads 1 (hybrid_of 1 (levels_of vs)) (length (levels_of vs)) (levels_of vs) = hybrid_reads 1 (levels_of vs) (hybrid_of 1 (levels_of vs)) (omega arith) many (levels_fit vs) refl in
    record {
      block = hybrid_of 1 (levels_of vs);
      stands = block_back (hybrid_of 1 (levels_of vs)) rest small;
      spelled = subst (λ n. Reads 1 (hybrid_of 1 (levels_of vs)) n (levels_of vs)) (length-levels_of vs) reads;
    }

-- the levels' block is a part of the body
block_small : (block rest text : List ℕ) → text ≡ block_text block ++ rest → length text < 2 ^ 31 → length block < 2 ^ 32
block_small block rest text e small =
    let long : length text ≡ length (block_text block ++ rest) = ap length e in
    omega (arith, long, length-append (block_text block) rest, length-append (to_le_bytes w32 (length block)) block)

-- a body with levels, and the values that are there
body_back : (k : Kind) (e : ℤ) (d : Option (List Datum)) (o : Bool) (vs : List Datum) (values : List ℕ) → length vs ≤ most_values
    → length (levels_text o vs ++ values) < 2 ^ 31 → (o ≡ false → All (λ v. is_null v ≡ false) vs)
    → Present k e d (length (kept vs)) values (kept vs) → Body k e d (length vs) (levels_text o vs ++ values) vs o
unfolding levels_text
body_back k e d false vs values few small apart present =
    let all : kept vs ≡ vs = kept_all vs (apart refl) in
    required (subst (λ (ds : List Datum). Present k e d (length ds) values ds) all present)
body_back k e d true vs values few small apart present =
    let block : length (hybrid_of 1 (levels_of vs)) < 2 ^ 32 = block_small (hybrid_of 1 (levels_of vs)) values (block_text (hybrid_of 1 (levels_of vs)) ++ values) refl small in
    optional (levels_of vs) values (kept vs) (levels_back vs values few block)
    (subst (λ n. Present k e d n values (kept vs)) (sym (there-kept vs)) present) (sym (spread-kept vs))

page_back : (k : Kind) (o : Bool) (page : PageAt) (file : List ℕ) (d : Option (List Datum)) (vs : List Datum) (e : ℤ) (text : List ℕ)
    → length vs ≤ most_values → (h : HeadsData o page e (length vs) text) → StandsIn file page.body text → Body k e d (length vs) text vs o
    → page_values k o page file d ≡ Ok vs
page_back k o page file d vs e text few h s body = page_found k o page file d vs (record {
  head = h.head;
  count = length vs;
  bytes = text;
  is_data = h.is_data;
  has_head = h.has_head;
  levels = h.levels;
  framed = frame_back page h.head.num_values file (length vs) text h.counted few h.sized s;
  body = subst (λ (z : ℤ). Body k z d (length vs) text vs o) (sym h.encoded) body;
})

pub plain_page_back : (k : Kind) (o : Bool) (page : PageAt) (file : List ℕ) (d : Option (List Datum)) (vs : List Datum)
    → All (CanStand k o) vs → All CanReturn vs → length vs ≤ most_values
    → HeadsData o page (pos 0) (length vs) (page_text k o vs) → StandsIn file page.body (page_text k o vs)
    → page_values k o page file d ≡ Ok vs
unfolding page_text
plain_page_back k o page file d vs stand fits few h s =
    let present : Present k (pos 0) d (length (kept vs)) (values_text k vs) (kept vs) = plain refl refl (plain_back k o vs stand fits) in
    let apart : o ≡ false → All (λ v. is_null v ≡ false) vs = λ no_null. none_null k vs (subst (λ (b : Bool). All (CanStand k b) vs) no_null stand) in
    page_back k o page file d vs (pos 0) (levels_text o vs ++ values_text k vs) few h s
    (body_back k (pos 0) d o vs (values_text k vs) few h.small apart present)

-- ---- dictionaries

-- a width that holds each place
holds_places : (others width count : ℕ) → count ≤ 2 ^ (width + others) → (count ≤ 2 ^ width_from others width count) × (width_from others width count ≤ width + others)
unfolding width_from
holds_places zero width count le =
    let same : width + 0 ≡ width = omega arith in
    (subst (λ n. count ≤ 2 ^ n) same le, omega arith)
holds_places (suc others) width count le = elim (cases_Bool (leb count (2 ^ width))) [
  | inl t ↦ subst (λ n. (count ≤ 2 ^ n) × (n ≤ width + suc others)) (sym (taken t)) (leb-true count (2 ^ width) t, omega arith)
  | inr f ↦
      let later : width + suc others ≡ (width + 1) + others = omega arith in
      let rest = holds_places others (width + 1) count (subst (λ n. count ≤ 2 ^ n) later le) in
      subst (λ n. (count ≤ 2 ^ n) × (n ≤ width + suc others)) (sym (passed f)) (rest.0, omega (arith, rest.1))
]
  where
    taken : leb count (2 ^ width) ≡ true → cond (leb count (2 ^ width)) width (width_from others (width + 1) count) ≡ width
    taken t = rw t refl

    passed : leb count (2 ^ width) ≡ false → cond (leb count (2 ^ width)) width (width_from others (width + 1) count) ≡ width_from others (width + 1) count
    passed f = rw f refl

width_holds : (count : ℕ) → count ≤ most_values → (count ≤ 2 ^ index_width count) × (index_width count ≤ 32)
unfolding index_width
width_holds count few = holds_places 31 1 count (omega (arith, few, two_pow_le 26 32 (omega arith)))

-- values are found by their places
indexed_back : (known : List Datum) (o : Bool) (vs : List Datum) → All (λ v. can_place known o v ≡ true) vs → length known ≤ most_values → length vs ≤ most_values
    → Indexed known (length (kept vs)) (index_width (length known) ∷ hybrid_of (index_width (length known)) (places_of known vs)) (kept vs)
indexed_back known o vs placed few_known few =
    let width = index_width (length known) in
    let places = places_of known vs in
    let holds = width_holds (length known) few_known in
    let within = places_within known o vs placed in
    let many : length places ≤ most_values = omega (arith, few, places_few known vs) in
    let reads : Reads width (hybrid_of width places) (length places) places
    = hybrid_reads width places (hybrid_of width places) holds.1 many (λ i lt. omega (arith, within i lt, holds.0)) refl in
    record {
      width = width;
      spelling = hybrid_of width places;
      places = places;
      whole = refl;
      spelled = subst (λ n. Reads width (hybrid_of width places) n places) (length-places_of known vs) reads;
      within = values_back known o vs placed;
    }

placed_apart : (known : List Datum) (vs : List Datum) → All (λ v. can_place known false v ≡ true) vs → All (λ v. is_null v ≡ false) vs
placed_apart known vs placed = λ i d lt. apart _ _ (placed i d lt)
  where
    apart : (b c : Bool) → cond b false c ≡ true → b ≡ false
    apart true c h = absurd cc
    apart false c h = refl

pub indexed_page_back : (k : Kind) (o : Bool) (page : PageAt) (file : List ℕ) (known vs : List Datum)
    → All (λ v. can_place known o v ≡ true) vs → length known ≤ most_values → length vs ≤ most_values
    → HeadsData o page (pos 8) (length vs) (index_text o known vs) → StandsIn file page.body (index_text o known vs)
    → page_values k o page file (Some known) ≡ Ok vs
unfolding index_text
indexed_page_back k o page file known vs placed few_known few h s =
    let values = index_width (length known) ∷ hybrid_of (index_width (length known)) (places_of known vs) in
    let present : Present k (pos 8) (Some known) (length (kept vs)) values (kept vs) = indexed known (inr refl) refl (indexed_back known o vs placed few_known few) in
    let apart : o ≡ false → All (λ v. is_null v ≡ false) vs = λ no_null. placed_apart known vs (subst (λ (b : Bool). All (λ v. can_place known b v ≡ true) vs) no_null placed) in
    page_back k o page file (Some known) vs (pos 8) (levels_text o vs ++ values) few h s
    (body_back k (pos 8) (Some known) o vs values few h.small apart present)

pub dictionary_back : (k : Kind) (page : PageAt) (file : List ℕ) (vs : List Datum) → All (CanStand k false) vs → All CanReturn vs → length vs ≤ most_values
    → HeadsDictionary page (length vs) (dictionary_text k vs) → StandsIn file page.body (dictionary_text k vs)
    → dictionary_values k page file ≡ Ok vs
dictionary_back k page file vs stand fits few h s =
    let all : kept vs ≡ vs = kept_all vs (none_null k vs stand) in
    dictionary_page_found k page file vs (record {
      head = h.head;
      bytes = values_text k vs;
      is_dictionary = h.is_dictionary;
      has_head = h.has_head;
      encoded = inl h.encoded;
      framed = frame_back page h.head.num_values file (length vs) (values_text k vs) h.counted few h.sized s;
      body = subst (λ (ds : List Datum). PlainValues k (values_text k vs) ds) all (plain_back k false vs stand fits);
    })
