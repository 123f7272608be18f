-- The head of a page is read exactly as its text says.
use Rattle.std.proofs.Common.{◌≡◌, ℕ, ◌+◌, ◌≤◌, Bool, true, false, ltb, List, ◌++◌, length, drop, refl, sym, ap, ◌∙◌, subst, arith, inl, inr, Result, Ok, Option, Some, None}
use Rattle.std.specs.Prelude.{ℤ, pos, IsSome}
use Rattle.std.specs.Ordering.{int_eq}
use Rattle.std.proofs.lemmas.Bool.{cases_Bool, ltb-false, le-ltb}
use Rattle.std.proofs.lemmas.Bool.Decides.{Decides-int_eq}
use Rattle.thrift_compact.specs.declared.wire.Wire.TheVariants as wires
use Rattle.thrift_compact.specs.Spelled.{SpellsNumber}
use Rattle.thrift_compact.specs.Laws.{Stands}
use Rattle.thrift_compact.proofs.Standing.{size_of, front_of, stands_make}
use Rattle.parquet_meta.specs.declared.fault.FileFault.{FileFault}
use Rattle.parquet_meta.specs.declared.fault.FileFault.TheVariants as faults
use Rattle.parquet_meta.specs.declared.head.PageHead.{PageHead}
use Rattle.parquet_meta.specs.declared.head.DataPageHead.{DataPageHead}
use Rattle.parquet_meta.specs.declared.head.DictionaryPageHead.{DictionaryPageHead}
use Rattle.parquet_meta.specs.declared.head.PageAt.{PageAt}
use Rattle.parquet_meta.specs.declared.known.HeadKnown.{HeadKnown}
use Rattle.parquet_meta.specs.declared.known.DataKnown.{DataKnown}
use Rattle.parquet_meta.specs.declared.known.DictionaryKnown.{DictionaryKnown}
use Rattle.parquet_meta.specs.declared.known.HeadNumbers.{HeadNumbers}
use Rattle.parquet_meta.specs.declared.known.DataNumbers.{DataNumbers}
use Rattle.parquet_meta.specs.declared.known.DictionaryNumbers.{DictionaryNumbers}
use Rattle.row_base.specs.Faults.{◌>>=◌}
use Rattle.parquet_meta.specs.Pieces.{Piece}
use Rattle.parquet_meta.specs.Values.{number_of, skipped_in}
use Rattle.parquet_meta.specs.Heads.{no_data, data_step, data_made, data_in, no_dictionary, dictionary_step, dictionary_made, dictionary_in, no_head, head_step, head_made, needed_for, numbers_in, is_in_range, narrow, narrow_optional, data_head, dictionary_head, page_head, page_head_at}
use Rattle.parquet_meta.specs.Grammar.{SpellsStruct, DataField, data_known, SpellsData, DictionaryField, dictionary_known, SpellsDictionary, SpellsV2, HeadField, head_known, HasHeader, optional_data, optional_dictionary, head_numbers, SizeInRange, DataInRange, DictionaryInRange, IsInRange, SpellsHead}
use Rattle.parquet_meta.proofs.Exact.{Finds, Takes, StepFinds, StepTakes, bind_ok, bind_from, ok_inside, holds_ok, guard_ok, number_finds, number_takes, skip_finds, skip_takes, holds_found, holds_taken, unused_found, unused_taken, choose_found, choose_taken, struct_finds, struct_takes, struct_finds_all, struct_takes_all}

-- ---- the headers of pages

pub data_finds_step : StepFinds data_step DataField
data_finds_step piece id wire place at known after end within e =
    choose_found (int_eq id (pos 1)) _ _ (Ok (after, end)) _ _ (λ text. Stands piece.bytes at text end)
    (holds_found number_of SpellsNumber number_finds wires.I32 wire piece place at (λ x. record known { num_values = Some x }) after end within) (
    choose_found (int_eq id (pos 2)) _ _ (Ok (after, end)) _ _ (λ text. Stands piece.bytes at text end)
    (holds_found number_of SpellsNumber number_finds wires.I32 wire piece place at (λ x. record known { encoding = Some x }) after end within) (
    choose_found (int_eq id (pos 3)) _ _ (Ok (after, end)) _ _ (λ text. Stands piece.bytes at text end)
    (holds_found number_of SpellsNumber number_finds wires.I32 wire piece place at (λ x. record known { definition_level_encoding = Some x }) after end within) (
    choose_found (int_eq id (pos 4)) _ _ (Ok (after, end)) _ _ (λ text. Stands piece.bytes at text end)
    (holds_found number_of SpellsNumber number_finds wires.I32 wire piece place at (λ x. record known { repetition_level_encoding = Some x }) after end within) (
    unused_found wire piece at known after end within)))) e

pub data_takes_step : StepTakes data_step DataField
data_takes_step piece id wire place at known after end text s h =
    choose_taken (int_eq id (pos 1)) _ _ (Ok (after, end)) _ _
    (holds_taken number_of SpellsNumber number_takes wires.I32 wire piece place at (λ x. record known { num_values = Some x }) after end text s) (
    choose_taken (int_eq id (pos 2)) _ _ (Ok (after, end)) _ _
    (holds_taken number_of SpellsNumber number_takes wires.I32 wire piece place at (λ x. record known { encoding = Some x }) after end text s) (
    choose_taken (int_eq id (pos 3)) _ _ (Ok (after, end)) _ _
    (holds_taken number_of SpellsNumber number_takes wires.I32 wire piece place at (λ x. record known { definition_level_encoding = Some x }) after end text s) (
    choose_taken (int_eq id (pos 4)) _ _ (Ok (after, end)) _ _
    (holds_taken number_of SpellsNumber number_takes wires.I32 wire piece place at (λ x. record known { repetition_level_encoding = Some x }) after end text s) (
    unused_taken wire piece at known after end text s)))) h

data_fields : (place : ℕ) (num_values : Option ℤ) (encoding : Option ℤ) (definition_level_encoding : Option ℤ) (repetition_level_encoding : Option ℤ) (value : DataNumbers)
    → data_made place (record { num_values = num_values; encoding = encoding; definition_level_encoding = definition_level_encoding; repetition_level_encoding = repetition_level_encoding }) ≡ Ok value → (let k : DataKnown = record { num_values = num_values; encoding = encoding; definition_level_encoding = definition_level_encoding; repetition_level_encoding = repetition_level_encoding } in k) ≡ data_known value
data_fields place None encoding definition_level_encoding repetition_level_encoding value e = absurd cc
data_fields place (Some num_values) None definition_level_encoding repetition_level_encoding value e = absurd cc
data_fields place (Some num_values) (Some encoding) None repetition_level_encoding value e = absurd cc
data_fields place (Some num_values) (Some encoding) (Some definition_level_encoding) None value e = absurd cc
data_fields place (Some num_values) (Some encoding) (Some definition_level_encoding) (Some repetition_level_encoding) value e = ap data_known (ok_inside (record { num_values = num_values; encoding = encoding; definition_level_encoding = definition_level_encoding; repetition_level_encoding = repetition_level_encoding }) value e)

data_is : (place : ℕ) (known : DataKnown) (value : DataNumbers) → data_made place known ≡ Ok value → known ≡ data_known value
data_is place known value e = data_fields place known.num_values known.encoding known.definition_level_encoding known.repetition_level_encoding value e

pub data_finds : Finds data_in SpellsData
unfolding data_in
data_finds = struct_finds_all data_step DataField no_data data_made data_known data_finds_step data_is

pub data_takes : Takes data_in SpellsData
unfolding data_in
data_takes = struct_takes_all data_step DataField no_data data_made data_known data_takes_step (λ place value. refl)

pub dictionary_finds_step : StepFinds dictionary_step DictionaryField
dictionary_finds_step piece id wire place at known after end within e =
    choose_found (int_eq id (pos 1)) _ _ (Ok (after, end)) _ _ (λ text. Stands piece.bytes at text end)
    (holds_found number_of SpellsNumber number_finds wires.I32 wire piece place at (λ x. record known { num_values = Some x }) after end within) (
    choose_found (int_eq id (pos 2)) _ _ (Ok (after, end)) _ _ (λ text. Stands piece.bytes at text end)
    (holds_found number_of SpellsNumber number_finds wires.I32 wire piece place at (λ x. record known { encoding = Some x }) after end within) (
    unused_found wire piece at known after end within)) e

pub dictionary_takes_step : StepTakes dictionary_step DictionaryField
dictionary_takes_step piece id wire place at known after end text s h =
    choose_taken (int_eq id (pos 1)) _ _ (Ok (after, end)) _ _
    (holds_taken number_of SpellsNumber number_takes wires.I32 wire piece place at (λ x. record known { num_values = Some x }) after end text s) (
    choose_taken (int_eq id (pos 2)) _ _ (Ok (after, end)) _ _
    (holds_taken number_of SpellsNumber number_takes wires.I32 wire piece place at (λ x. record known { encoding = Some x }) after end text s) (
    unused_taken wire piece at known after end text s)) h

dictionary_fields : (place : ℕ) (num_values : Option ℤ) (encoding : Option ℤ) (value : DictionaryNumbers)
    → dictionary_made place (record { num_values = num_values; encoding = encoding }) ≡ Ok value → (let k : DictionaryKnown = record { num_values = num_values; encoding = encoding } in k) ≡ dictionary_known value
dictionary_fields place None encoding value e = absurd cc
dictionary_fields place (Some num_values) None value e = absurd cc
dictionary_fields place (Some num_values) (Some encoding) value e = ap dictionary_known (ok_inside (record { num_values = num_values; encoding = encoding }) value e)

dictionary_is : (place : ℕ) (known : DictionaryKnown) (value : DictionaryNumbers) → dictionary_made place known ≡ Ok value → known ≡ dictionary_known value
dictionary_is place known value e = dictionary_fields place known.num_values known.encoding value e

pub dictionary_finds : Finds dictionary_in SpellsDictionary
unfolding dictionary_in
dictionary_finds = struct_finds_all dictionary_step DictionaryField no_dictionary dictionary_made dictionary_known dictionary_finds_step dictionary_is

pub dictionary_takes : Takes dictionary_in SpellsDictionary
unfolding dictionary_in
dictionary_takes = struct_takes_all dictionary_step DictionaryField no_dictionary dictionary_made dictionary_known dictionary_takes_step (λ place value. refl)

-- ---- the head of a page, as it stands

v2_finds : Finds (λ piece place at. skipped_in piece wires.Struct at) SpellsV2
v2_finds = skip_finds wires.Struct

v2_takes : Takes (λ piece place at. skipped_in piece wires.Struct at) SpellsV2
v2_takes = skip_takes wires.Struct

pub head_finds_step : StepFinds head_step HeadField
head_finds_step piece id wire place at known after end within e =
    choose_found (int_eq id (pos 1)) _ _ (Ok (after, end)) _ _ (λ text. Stands piece.bytes at text end)
    (holds_found number_of SpellsNumber number_finds wires.I32 wire piece place at (λ x. record known { page_type = Some x }) after end within) (
    choose_found (int_eq id (pos 2)) _ _ (Ok (after, end)) _ _ (λ text. Stands piece.bytes at text end)
    (holds_found number_of SpellsNumber number_finds wires.I32 wire piece place at (λ x. record known { uncompressed_page_size = Some x }) after end within) (
    choose_found (int_eq id (pos 3)) _ _ (Ok (after, end)) _ _ (λ text. Stands piece.bytes at text end)
    (holds_found number_of SpellsNumber number_finds wires.I32 wire piece place at (λ x. record known { compressed_page_size = Some x }) after end within) (
    choose_found (int_eq id (pos 5)) _ _ (Ok (after, end)) _ _ (λ text. Stands piece.bytes at text end)
    (holds_found data_in SpellsData data_finds wires.Struct wire piece place at (λ x. record known { data_page = Some x }) after end within) (
    choose_found (int_eq id (pos 7)) _ _ (Ok (after, end)) _ _ (λ text. Stands piece.bytes at text end)
    (holds_found dictionary_in SpellsDictionary dictionary_finds wires.Struct wire piece place at (λ x. record known { dictionary_page = Some x }) after end within) (
    choose_found (int_eq id (pos 8)) _ _ (Ok (after, end)) _ _ (λ text. Stands piece.bytes at text end)
    (holds_found (λ piece place at. skipped_in piece wires.Struct at) SpellsV2 v2_finds wires.Struct wire piece place at (λ x. record known { data_page_v2 = true }) after end within) (
    unused_found wire piece at known after end within)))))) e

pub head_takes_step : StepTakes head_step HeadField
head_takes_step piece id wire place at known after end text s h =
    choose_taken (int_eq id (pos 1)) _ _ (Ok (after, end)) _ _
    (holds_taken number_of SpellsNumber number_takes wires.I32 wire piece place at (λ x. record known { page_type = Some x }) after end text s) (
    choose_taken (int_eq id (pos 2)) _ _ (Ok (after, end)) _ _
    (holds_taken number_of SpellsNumber number_takes wires.I32 wire piece place at (λ x. record known { uncompressed_page_size = Some x }) after end text s) (
    choose_taken (int_eq id (pos 3)) _ _ (Ok (after, end)) _ _
    (holds_taken number_of SpellsNumber number_takes wires.I32 wire piece place at (λ x. record known { compressed_page_size = Some x }) after end text s) (
    choose_taken (int_eq id (pos 5)) _ _ (Ok (after, end)) _ _
    (holds_taken data_in SpellsData data_takes wires.Struct wire piece place at (λ x. record known { data_page = Some x }) after end text s) (
    choose_taken (int_eq id (pos 7)) _ _ (Ok (after, end)) _ _
    (holds_taken dictionary_in SpellsDictionary dictionary_takes wires.Struct wire piece place at (λ x. record known { dictionary_page = Some x }) after end text s) (
    choose_taken (int_eq id (pos 8)) _ _ (Ok (after, end)) _ _
    (holds_taken (λ piece place at. skipped_in piece wires.Struct at) SpellsV2 v2_takes wires.Struct wire piece place at (λ x. record known { data_page_v2 = true }) after end text s) (
    unused_taken wire piece at known after end text s)))))) h

needed_for_ok : {A : Type 0} (place : ℕ) (page_type wanted : ℤ) (value : Option A) (x : Unit {0}) → needed_for place page_type wanted value ≡ Ok x → page_type ≡ wanted → IsSome value
needed_for_ok place page_type wanted (Some value) x e same = refl
needed_for_ok place page_type wanted None x e same =
    let p = guard_ok (int_eq page_type wanted) (faults.Thrift place) (Ok tt) x e in
    let is : int_eq page_type wanted ≡ true = (Decides-int_eq page_type wanted).1 same in
    absurd cc

needed_for_from : {A : Type 0} (place : ℕ) (page_type wanted : ℤ) (value : Option A) → (page_type ≡ wanted → IsSome value) → needed_for place page_type wanted value ≡ Ok tt
needed_for_from place page_type wanted (Some value) h = refl
needed_for_from place page_type wanted None h = elim (cases_Bool (int_eq page_type wanted)) [
  | inl is ↦ absurd (let f : false ≡ true = h ((Decides-int_eq page_type wanted).0 is) in cc)
  | inr other ↦ rw other refl
]

-- a head with the headers that it must have
abbrev pub IsComplete : HeadNumbers → Type 0
IsComplete numbers = HasHeader numbers.page_type numbers.data_page numbers.dictionary_page

head_fields : (place : ℕ) (page_type uncompressed compressed : Option ℤ) (data_page : Option DataNumbers) (dictionary_page : Option DictionaryNumbers) (v2 : Bool) (value : HeadNumbers)
    → head_made place (record { page_type = page_type; uncompressed_page_size = uncompressed; compressed_page_size = compressed; data_page = data_page; dictionary_page = dictionary_page; data_page_v2 = v2 }) ≡ Ok value
    → ((let k : HeadKnown = record { page_type = page_type; uncompressed_page_size = uncompressed; compressed_page_size = compressed; data_page = data_page; dictionary_page = dictionary_page; data_page_v2 = v2 } in k)
    ≡ head_known value) × IsComplete value
head_fields place None uncompressed compressed data_page dictionary_page v2 value e = absurd cc
head_fields place (Some page_type) uncompressed None data_page dictionary_page v2 value e = absurd cc
head_fields place (Some page_type) uncompressed (Some compressed) data_page dictionary_page v2 value e =
    let numbers : HeadNumbers = record { page_type = page_type; uncompressed_page_size = uncompressed; compressed_page_size = compressed; data_page = data_page; dictionary_page = dictionary_page; data_page_v2 = v2 } in
    let p = bind_ok (needed_for place page_type (pos 0) data_page) (λ d. needed_for place page_type (pos 2) dictionary_page >>= λ t. Ok numbers) value e in
    let q = bind_ok (needed_for place page_type (pos 2) dictionary_page) (λ t. Ok numbers) value p.2 in
    let same : numbers ≡ value = ok_inside numbers value q.2 in
    let has : IsComplete numbers = (needed_for_ok place page_type (pos 0) data_page p.0 p.1, needed_for_ok place page_type (pos 2) dictionary_page q.0 q.1) in
    (ap head_known same, subst IsComplete same has)

head_is : (place : ℕ) (known : HeadKnown) (value : HeadNumbers) → head_made place known ≡ Ok value → (known ≡ head_known value) × IsComplete value
head_is place known value e = head_fields place known.page_type known.uncompressed_page_size known.compressed_page_size known.data_page known.dictionary_page known.data_page_v2 value e

head_back : (place : ℕ) (value : HeadNumbers) → IsComplete value → head_made place (head_known value) ≡ Ok value
head_back place value h =
    bind_from (needed_for place value.page_type (pos 0) value.data_page) (λ d. needed_for place value.page_type (pos 2) value.dictionary_page >>= λ t. Ok value) tt
    (needed_for_from place value.page_type (pos 0) value.data_page h.0)
    ∙ bind_from (needed_for place value.page_type (pos 2) value.dictionary_page) (λ t. Ok value) tt (needed_for_from place value.page_type (pos 2) value.dictionary_page h.1)

pub numbers_finds : Finds numbers_in (λ text numbers. SpellsStruct HeadField (pos 0) no_head text (head_known numbers) × IsComplete numbers)
unfolding numbers_in
numbers_finds = struct_finds head_step HeadField no_head head_made head_known IsComplete head_finds_step head_is

pub numbers_takes : Takes numbers_in (λ text numbers. SpellsStruct HeadField (pos 0) no_head text (head_known numbers) × IsComplete numbers)
unfolding numbers_in
numbers_takes = struct_takes head_step HeadField no_head head_made head_known IsComplete head_takes_step head_back

-- ---- numbers in range

narrow_ok : (at : ℕ) (n x : ℤ) → narrow at n ≡ Ok x → (is_in_range x ≡ true) × (n ≡ x)
narrow_ok at n x e =
    let p = holds_ok (is_in_range n) (Ok n) (faults.Page at) x e in
    let same : n ≡ x = ok_inside n x p.1 in
    (ap is_in_range (sym same) ∙ p.0, same)

narrow_from : (at : ℕ) (n : ℤ) → is_in_range n ≡ true → narrow at n ≡ Ok n
narrow_from at n h = rw h refl

size_ok : (at : ℕ) (size x : Option ℤ) → narrow_optional at size ≡ Ok x → (size ≡ x) × SizeInRange x
size_ok at None x e = let same : None ≡ x = ok_inside None x e in (same, subst SizeInRange same tt)
size_ok at (Some n) x e =
    let p = bind_ok (narrow at n) (λ m. Ok (Some m)) x e in
    let q = narrow_ok at n p.0 p.1 in
    let same : Some p.0 ≡ x = ok_inside (Some p.0) x p.2 in
    (ap Some q.1 ∙ same, subst SizeInRange same q.0)

size_from : (at : ℕ) (size : Option ℤ) → SizeInRange size → narrow_optional at size ≡ Ok size
size_from at None h = refl
size_from at (Some n) h = bind_from (narrow at n) (λ m. Ok (Some m)) n (narrow_from at n h)

data_ok : (at : ℕ) (numbers : Option DataNumbers) (x : Option DataPageHead) → data_head at numbers ≡ Ok x → (numbers ≡ optional_data x) × DataInRange x
data_ok at None x e = let same : None ≡ x = ok_inside None x e in (ap optional_data same, subst DataInRange same tt)
data_ok at (Some numbers) x e =
    let whole : ℤ → ℤ → ℤ → ℤ → Option DataPageHead = λ a b d r. Some (record { num_values = a; encoding = b; definition_level_encoding = d; repetition_level_encoding = r }) in
    let p = bind_ok (narrow at numbers.num_values) (λ a. narrow at numbers.encoding >>= λ b. narrow at numbers.definition_level_encoding >>= λ d. narrow at numbers.repetition_level_encoding >>= λ r. Ok (whole a b d r)) x e in
    let q = bind_ok (narrow at numbers.encoding) (λ b. narrow at numbers.definition_level_encoding >>= λ d. narrow at numbers.repetition_level_encoding >>= λ r. Ok (whole p.0 b d r)) x p.2 in
    let t = bind_ok (narrow at numbers.definition_level_encoding) (λ d. narrow at numbers.repetition_level_encoding >>= λ r. Ok (whole p.0 q.0 d r)) x q.2 in
    let u = bind_ok (narrow at numbers.repetition_level_encoding) (λ r. Ok (whole p.0 q.0 t.0 r)) x t.2 in
    let same : whole p.0 q.0 t.0 u.0 ≡ x = ok_inside (whole p.0 q.0 t.0 u.0) x u.2 in
    let a = narrow_ok at numbers.num_values p.0 p.1 in
    let b = narrow_ok at numbers.encoding q.0 q.1 in
    let d = narrow_ok at numbers.definition_level_encoding t.0 t.1 in
    let r = narrow_ok at numbers.repetition_level_encoding u.0 u.1 in
    (data_equal numbers.num_values p.0 numbers.encoding q.0 numbers.definition_level_encoding t.0 numbers.repetition_level_encoding u.0 a.1 b.1 d.1 r.1 ∙ ap optional_data same, subst DataInRange same (a.0, b.0, d.0, r.0))
  where
    data_equal : (a a' b b' d d' r r' : ℤ) → a ≡ a' → b ≡ b' → d ≡ d' → r ≡ r'
        → (let n : Option DataNumbers = Some (record { num_values = a; encoding = b; definition_level_encoding = d; repetition_level_encoding = r }) in n)
        ≡ Some (record { num_values = a'; encoding = b'; definition_level_encoding = d'; repetition_level_encoding = r' })
    data_equal a a' b b' d d' r r' p q s t = rw (p, q, s, t) refl

data_from : (at : ℕ) (head : Option DataPageHead) → DataInRange head → data_head at (optional_data head) ≡ Ok head
data_from at None h = refl
data_from at (Some head) h = rw (h.0, h.1, h.2, h.3) refl

dictionary_ok : (at : ℕ) (numbers : Option DictionaryNumbers) (x : Option DictionaryPageHead) → dictionary_head at numbers ≡ Ok x → (numbers ≡ optional_dictionary x) × DictionaryInRange x
dictionary_ok at None x e = let same : None ≡ x = ok_inside None x e in (ap optional_dictionary same, subst DictionaryInRange same tt)
dictionary_ok at (Some numbers) x e =
    let whole : ℤ → ℤ → Option DictionaryPageHead = λ a b. Some (record { num_values = a; encoding = b }) in
    let p = bind_ok (narrow at numbers.num_values) (λ a. narrow at numbers.encoding >>= λ b. Ok (whole a b)) x e in
    let q = bind_ok (narrow at numbers.encoding) (λ b. Ok (whole p.0 b)) x p.2 in
    let same : whole p.0 q.0 ≡ x = ok_inside (whole p.0 q.0) x q.2 in
    let a = narrow_ok at numbers.num_values p.0 p.1 in
    let b = narrow_ok at numbers.encoding q.0 q.1 in
    (dictionary_equal numbers.num_values p.0 numbers.encoding q.0 a.1 b.1 ∙ ap optional_dictionary same, subst DictionaryInRange same (a.0, b.0))
  where
    dictionary_equal : (a a' b b' : ℤ) → a ≡ a' → b ≡ b'
        → (let n : Option DictionaryNumbers = Some (record { num_values = a; encoding = b }) in n) ≡ Some (record { num_values = a'; encoding = b' })
    dictionary_equal a a' b b' p q = rw (p, q) refl

dictionary_from : (at : ℕ) (head : Option DictionaryPageHead) → DictionaryInRange head → dictionary_head at (optional_dictionary head) ≡ Ok head
dictionary_from at None h = refl
dictionary_from at (Some head) h = rw (h.0, h.1) refl

numbers_equal : (t t' : ℤ) (u u' : Option ℤ) (c c' : ℤ) (d d' : Option DataNumbers) (i i' : Option DictionaryNumbers) (v : Bool) → t ≡ t' → u ≡ u' → c ≡ c' → d ≡ d' → i ≡ i'
    → (let n : HeadNumbers = record { page_type = t; uncompressed_page_size = u; compressed_page_size = c; data_page = d; dictionary_page = i; data_page_v2 = v } in n)
    ≡ record { page_type = t'; uncompressed_page_size = u'; compressed_page_size = c'; data_page = d'; dictionary_page = i'; data_page_v2 = v }
numbers_equal t t' u u' c c' d d' i i' v p q r s w = rw (p, q, r, s, w) refl

pub page_head_ok : (at : ℕ) (numbers : HeadNumbers) (head : PageHead) → page_head at numbers ≡ Ok head → (numbers ≡ head_numbers head) × IsInRange head
unfolding page_head
page_head_ok at numbers head e =
    let whole : ℤ → Option ℤ → ℤ → Option DataPageHead → Option DictionaryPageHead → PageHead
    = λ t u c d i. record { page_type = t; uncompressed_page_size = u; compressed_page_size = c; data_page = d; dictionary_page = i; data_page_v2 = numbers.data_page_v2 } in
    let p = bind_ok (narrow at numbers.page_type) (λ t. narrow_optional at numbers.uncompressed_page_size >>= λ u. narrow at numbers.compressed_page_size >>= λ c.
    data_head at numbers.data_page >>= λ d. dictionary_head at numbers.dictionary_page >>= λ i. Ok (whole t u c d i)) head e in
    let q = bind_ok (narrow_optional at numbers.uncompressed_page_size) (λ u. narrow at numbers.compressed_page_size >>= λ c.
    data_head at numbers.data_page >>= λ d. dictionary_head at numbers.dictionary_page >>= λ i. Ok (whole p.0 u c d i)) head p.2 in
    let r = bind_ok (narrow at numbers.compressed_page_size) (λ c. data_head at numbers.data_page >>= λ d. dictionary_head at numbers.dictionary_page >>= λ i. Ok (whole p.0 q.0 c d i)) head q.2 in
    let s = bind_ok (data_head at numbers.data_page) (λ d. dictionary_head at numbers.dictionary_page >>= λ i. Ok (whole p.0 q.0 r.0 d i)) head r.2 in
    let w = bind_ok (dictionary_head at numbers.dictionary_page) (λ i. Ok (whole p.0 q.0 r.0 s.0 i)) head s.2 in
    let same : whole p.0 q.0 r.0 s.0 w.0 ≡ head = ok_inside (whole p.0 q.0 r.0 s.0 w.0) head w.2 in
    let page_type = narrow_ok at numbers.page_type p.0 p.1 in
    let uncompressed = size_ok at numbers.uncompressed_page_size q.0 q.1 in
    let compressed = narrow_ok at numbers.compressed_page_size r.0 r.1 in
    let data_page = data_ok at numbers.data_page s.0 s.1 in
    let dictionary_page = dictionary_ok at numbers.dictionary_page w.0 w.1 in
    let range : IsInRange (whole p.0 q.0 r.0 s.0 w.0)
    = record { page_type = page_type.0; uncompressed = uncompressed.1; compressed = compressed.0; data_page = data_page.1; dictionary_page = dictionary_page.1 } in (
      numbers_equal numbers.page_type p.0 numbers.uncompressed_page_size q.0 numbers.compressed_page_size r.0 numbers.data_page (optional_data s.0) numbers.dictionary_page (optional_dictionary w.0) numbers.data_page_v2
          page_type.1 uncompressed.0 compressed.1 data_page.0 dictionary_page.0
          ∙ ap head_numbers same,
      subst IsInRange same range,
    )

pub page_head_from : (at : ℕ) (head : PageHead) → IsInRange head → page_head at (head_numbers head) ≡ Ok head
unfolding page_head
page_head_from at head h =
    rw (h.page_type, size_from at head.uncompressed_page_size h.uncompressed, h.compressed, data_from at head.data_page h.data_page, dictionary_from at head.dictionary_page h.dictionary_page) refl

-- ---- the head of a page in a file

some_data : (head : Option DataPageHead) → IsSome (optional_data head) → IsSome head
some_data None h = h
some_data (Some head) h = refl

some_dictionary : (head : Option DictionaryPageHead) → IsSome (optional_dictionary head) → IsSome head
some_dictionary None h = h
some_dictionary (Some head) h = refl

data_some : (head : Option DataPageHead) → IsSome head → IsSome (optional_data head)
data_some None h = h
data_some (Some head) h = refl

dictionary_some : (head : Option DictionaryPageHead) → IsSome head → IsSome (optional_dictionary head)
dictionary_some None h = h
dictionary_some (Some head) h = refl

pub heads_found : (file : List ℕ) (at : ℕ) (page : PageAt) → page_head_at file at ≡ Ok page → (text : List ℕ) × SpellsHead text page.head × Stands file at text page.body
unfolding page_head_at
heads_found file at page e =
    let piece : Piece = record { bytes = drop at file; start = at } in
    let g = guard_ok (ltb (length file) at) (faults.Thrift (length file))
    (numbers_in piece 0 0 >>= λ numbers. page_head at numbers.0 >>= λ head. Ok (record { head = head; body = at + numbers.1 })) page e in
    let within : at ≤ length file = ltb-false (length file) at g.0 in
    let p = bind_ok (numbers_in piece 0 0) (λ numbers. page_head at numbers.0 >>= λ head. Ok (record { head = head; body = at + numbers.1 })) page g.1 in
    let q = bind_ok (page_head at p.0.0) (λ head. Ok (record { head = head; body = at + p.0.1 })) page p.2 in
    let same : record { head = q.0; body = at + p.0.1 } ≡ page = ok_inside (record { head = q.0; body = at + p.0.1 }) page q.2 in
    let is : q.0 ≡ page.head = ap (λ (k : PageAt). k.head) same in
    let body : at + p.0.1 ≡ page.body = ap (λ (k : PageAt). k.body) same in
    let found = numbers_finds piece 0 0 p.0.0 p.0.1 (omega arith) p.1 in
    let range = page_head_ok at p.0.0 q.0 q.1 in
    let numbers : p.0.0 ≡ head_numbers page.head = range.0 ∙ ap head_numbers is in
    let spelled = subst (λ (k : HeadNumbers). SpellsStruct HeadField (pos 0) no_head found.0 (head_known k) × IsComplete k) numbers found.1 in
    let size = size_of (drop at file) 0 found.0 p.0.1 found.2 in
    let here : drop at file ≡ found.0 ++ found.2.rest = front_of (drop at file) 0 found.0 p.0.1 found.2 in (
      found.0,
      record {
        spelled = spelled.0;
        complete = (λ t. some_data page.head.data_page (spelled.1.0 t), λ t. some_dictionary page.head.dictionary_page (spelled.1.1 t));
        in_range = subst IsInRange is range.1;
      },
      stands_make file at found.0 found.2.rest page.body within here (omega (arith, size.0, body)),
    )

pub heads_taken : (file : List ℕ) (at : ℕ) (page : PageAt) (text : List ℕ) → SpellsHead text page.head → Stands file at text page.body → page_head_at file at ≡ Ok page
unfolding page_head_at
heads_taken file at page text h s =
    let piece : Piece = record { bytes = drop at file; start = at } in
    let size = size_of file at text page.body s in
    let within : at ≤ length file = omega (arith, size.0, size.1) in
    let here : drop at file ≡ text ++ s.rest = front_of file at text page.body s in
    let stands : Stands (drop at file) 0 text (length text) = stands_make (drop at file) 0 text s.rest (length text) (omega arith) here (omega arith) in
    let complete : IsComplete (head_numbers page.head) = (λ t. data_some page.head.data_page (h.complete.0 t), λ t. dictionary_some page.head.dictionary_page (h.complete.1 t)) in
    let body : at + length text ≡ page.body = s.ends in
    rw (le-ltb (length file) at within)
    (bind_from (numbers_in piece 0 0) (λ numbers. page_head at numbers.0 >>= λ head. Ok (record { head = head; body = at + numbers.1 })) (head_numbers page.head, length text)
    (numbers_takes piece 0 0 (head_numbers page.head) (length text) text (h.spelled, complete) stands)
    ∙ bind_from (page_head at (head_numbers page.head)) (λ head. Ok (record { head = head; body = at + length text })) page.head (page_head_from at page.head h.in_range)
    ∙ ap (λ k. let r : Result PageAt FileFault = Ok (record { head = page.head; body = k }) in r) body)
