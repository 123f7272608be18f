-- What is known of a page whose values are read: how many there are, and where null stands.
use Rattle.std.proofs.Common.{◌≡◌, ℕ, zero, suc, ◌==◌, leb, Bool, true, false, not, ◌||◌, ◌&&◌, if◌then◌else◌, List, [], ◌∷◌, length, map, Option, Some, None, option_map, Ok, Err, ℤ, pos, negsuc, refl, sym, ap, ◌∙◌, subst, arith, inl, inr}
use Rattle.std.specs.Prelude.{unsigned_abs, slice_get}
use Rattle.std.specs.List.{All}
use Rattle.std.specs.Ordering.{int_eq}
use Rattle.std.proofs.lemmas.Bool.{cases_Bool, true≢false}
use Rattle.std.proofs.lemmas.List.{length-take}
use Rattle.std.proofs.lemmas.Option.{slice_get_cases, get_or_from_slice_get}
use Rattle.row_base.specs.declared.row.Datum.{Datum}
use Rattle.row_base.specs.declared.row.Datum.TheVariants as datum
use Rattle.row_base.specs.declared.row.Kind.{Kind}
use Rattle.row_base.specs.declared.row.Kind.TheVariants as kind
use Rattle.parquet_meta.specs.declared.fault.FileFault.TheVariants as faults
use Rattle.parquet_meta.specs.declared.head.DataPageHead.{DataPageHead}
use Rattle.parquet_meta.specs.declared.head.PageAt.{PageAt}
use Rattle.row_base.specs.Faults.{◌>>=◌}
use Rattle.parquet_pages.specs.Gives.{or_page}
use Rattle.parquet_pages.specs.Hybrids.{hybrid_values}
use Rattle.parquet_pages.specs.Plain.{block_in, boolean_of}
use Rattle.parquet_pages.specs.Levels.{levels_in, there, has_null, spread}
use Rattle.parquet_pages.specs.Places.{values_at, indexed_values, is_null}
use Rattle.parquet_pages.specs.Pages.{is_plain, is_dictionary, is_hybrid, count_of, bytes_at, body_of, checked_head, data_head, present_values, body_values, body_has_null, page_values, page_has_null}
use Rattle.parquet_pages.specs.Grammar.{PlainValues, PlainValue, long, integer, date, string, InLine, done, next}
use Rattle.parquet_pages.proofs.Chains.{bind_some, map_some, map_at, inside}
use Rattle.parquet_pages.proofs.Pieces.{hybrid_only}
use Rattle.parquet_pages.proofs.PlainRead.{plain_only}
use Rattle.parquet_plain.specs.Reading.{count_in, count_by}
use Rattle.parquet_plain.proofs.Steps as steps

-- a value that isn't null
abbrev pub There : Datum → Type 0
There v = is_null v ≡ false

-- ---- how many values are read

hybrid_count : (width : ℕ) (bytes : List ℕ) (count : ℕ) (values : List ℕ) → hybrid_values width bytes count ≡ Some values → length values ≡ count
hybrid_count width bytes count values e =
    let r = hybrid_only width bytes count values e in
    ap length r.first ∙ length-take count r.all ∙ omega (arith, r.enough)

values_at_count : (ds : List Datum) (places : List ℕ) (vs : List Datum) → values_at ds places ≡ Some vs → length vs ≡ length places
values_at_count ds [] vs e = ap length (sym (inside [] vs e))
values_at_count ds (i ∷ is) vs e =
    let p = bind_some (slice_get ds i) (λ v. option_map (λ ws. v ∷ ws) (values_at ds is)) vs e in
    let q = map_some (λ ws. p.0 ∷ ws) (values_at ds is) vs p.2 in
    let n = values_at_count ds is q.0 q.1 in
    omega (arith, ap length (sym q.2), n)

indexed_count : (ds : List Datum) (count : ℕ) (bytes : List ℕ) (vs : List Datum) → indexed_values ds count bytes ≡ Some vs → length vs ≡ count
unfolding indexed_values
indexed_count ds count [] vs e = absurd cc
indexed_count ds count (width ∷ bytes) vs e =
    let p = bind_some (hybrid_values width bytes count) (values_at ds) vs e in
    values_at_count ds p.0 vs p.2 ∙ hybrid_count width bytes count p.0 p.1

present_count : (k : Kind) (e : ℤ) (d : Option (List Datum)) (count : ℕ) (bytes : List ℕ) (vs : List Datum) → present_values k e d count bytes ≡ Some vs → length vs ≡ count
unfolding present_values
present_count k e d count bytes vs h = elim (cases_Bool (is_plain e)) [
  | inl t ↦ (plain_only k count bytes vs (rw t at h)).0
  | inr f ↦
      let p = bind_some d (λ (known : List Datum). indexed_values known count bytes) vs (rw f at h) in
      indexed_count p.0 count bytes vs p.2
]

levels_count : (count : ℕ) (bytes : List ℕ) (l : List ℕ × List ℕ) → levels_in count bytes ≡ Some l → length l.0 ≡ count
unfolding levels_in
levels_count count bytes l e =
    let p = bind_some (block_in bytes) (λ (b : List ℕ × List ℕ). option_map (λ (ls : List ℕ). (ls, b.1)) (hybrid_values 1 b.0 count)) l e in
    let q = map_some (λ (ls : List ℕ). (ls, p.0.1)) (hybrid_values 1 p.0.0 count) l p.2 in
    ap (λ (k : List ℕ × List ℕ). length k.0) (sym q.2) ∙ hybrid_count 1 p.0.0 count q.0 q.1

by_level : (b : Bool) (m : ℕ) (v : Datum) (x y z : List Datum) → length x ≡ m → length z ≡ m → length (if b then datum.Null ∷ x else v ∷ z) ≡ suc m
by_level true m v x y z e f = omega (arith, e)
by_level false m v x y z e f = omega (arith, f)

length-spread : (levels : List ℕ) (values : List Datum) → length (spread levels values) ≡ length levels
length-spread [] values = refl
length-spread (level ∷ levels) [] = let n = length-spread levels [] in omega (arith, n)
length-spread (level ∷ levels) (v ∷ values) =
    by_level (level == 0) (length levels) v (spread levels (v ∷ values)) [] (spread levels values) (length-spread levels (v ∷ values)) (length-spread levels values)

body_count : (k : Kind) (o : Bool) (e : ℤ) (d : Option (List Datum)) (count : ℕ) (bytes : List ℕ) (vs : List Datum) → body_values k o e d count bytes ≡ Some vs → length vs ≡ count
unfolding body_values
body_count k false e d count bytes vs h = present_count k e d count bytes vs h
body_count k true e d count bytes vs h =
    let p = bind_some (levels_in count bytes) (λ (m : List ℕ × List ℕ). option_map (spread m.0) (present_values k e d (there m.0) m.1)) vs h in
    let q = map_some (spread p.0.0) (present_values k e d (there p.0.0) p.0.1) vs p.2 in
    ap length (sym q.2) ∙ length-spread p.0.0 q.0 ∙ levels_count count bytes p.0 p.1

-- ---- the parts of a page

page_some : {A : Type 0} (at : ℕ) (o : Option A) (x : A) → or_page at o ≡ Ok x → o ≡ Some x
page_some at (Some y) x e = ap Some (steps.ok_inside y x e)
page_some at None x e = absurd cc

-- a page that is read: its head, and its body
pub record Parts (k : Kind) (o : Bool) (page : PageAt) (file : List ℕ) (d : Option (List Datum)) (vs : List Datum) : Type 0 where
  pub head : DataPageHead
  pub count : ℕ
  pub bytes : List ℕ
  pub headed : data_head o page ≡ Ok head
  pub framed : body_of page head.num_values file ≡ Some (count, bytes)
  pub read : body_values k o head.encoding d count bytes ≡ Some vs

pub parts_of_page : (k : Kind) (o : Bool) (page : PageAt) (file : List ℕ) (d : Option (List Datum)) (vs : List Datum) → page_values k o page file d ≡ Ok vs → Parts k o page file d vs
unfolding page_values
parts_of_page k o page file d vs e =
    let p = steps.bind_ok (data_head o page) (λ (h : DataPageHead). or_page page.body (body_of page h.num_values file) >>= λ (b : ℕ × List ℕ). or_page page.body (body_values k o h.encoding d b.0 b.1)) vs e in
    let q = steps.bind_ok (or_page page.body (body_of page p.0.num_values file)) (λ (b : ℕ × List ℕ). or_page page.body (body_values k o p.0.encoding d b.0 b.1)) vs p.2 in
    record {
      head = p.0;
      count = q.0.0;
      bytes = q.0.1;
      headed = p.1;
      framed = page_some page.body (body_of page p.0.num_values file) q.0 q.1;
      read = page_some page.body (body_values k o p.0.encoding d q.0.0 q.0.1) vs q.2;
    }

count_is : (z : ℤ) (n : ℕ) → count_of z ≡ Some n → unsigned_abs z ≡ n
count_is (pos m) n e = by (leb m 67108864) e
  where
    by : (b : Bool) → (if b then Some m else None) ≡ Some n → m ≡ n
    by true h = inside m n h
    by false h = absurd cc
count_is (negsuc m) n e = absurd cc

frame_count : (page : PageAt) (z : ℤ) (file : List ℕ) (count : ℕ) (bytes : List ℕ) → body_of page z file ≡ Some (count, bytes) → unsigned_abs z ≡ count
unfolding body_of
frame_count page z file count bytes e =
    let p = bind_some (count_of z) (λ (n : ℕ). option_map (λ (bs : List ℕ). (n, bs)) (bytes_at page.body page.head.compressed_page_size file)) (count, bytes) e in
    let q = map_some (λ (bs : List ℕ). (p.0, bs)) (bytes_at page.body page.head.compressed_page_size file) (count, bytes) p.2 in
    count_is z p.0 p.1 ∙ ap (λ (x : ℕ × List ℕ). x.0) q.2

-- the count of a head that can be read
head_count_by : (o : Bool) (page : PageAt) (x : Option DataPageHead) (head : DataPageHead) → (or_page page.body x >>= checked_head o) ≡ Ok head → count_by o page.body x ≡ Ok (unsigned_abs head.num_values)
head_count_by o page None head e = absurd cc
head_count_by o page (Some h) head e = by (is_plain h.encoding || is_dictionary h.encoding) (o && not (is_hybrid h.definition_level_encoding)) e
  where
    by : (a b : Bool) → (if not a then Err (faults.Encoding h.encoding) else (if b then Err (faults.Encoding h.definition_level_encoding) else Ok h)) ≡ Ok head
        → (if not a then Err (faults.Encoding h.encoding) else (if b then Err (faults.Encoding h.definition_level_encoding) else Ok (unsigned_abs h.num_values))) ≡ Ok (unsigned_abs head.num_values)
    by true true f = absurd cc
    by true false f = ap (λ x. Ok (unsigned_abs x.num_values)) (steps.ok_inside h head f)
    by false b f = absurd cc

head_count : (o : Bool) (page : PageAt) (head : DataPageHead) → data_head o page ≡ Ok head → count_in o page ≡ Ok (unsigned_abs head.num_values)
unfolding data_head count_in
head_count o page head e =
    let p = steps.if_ok (int_eq page.head.page_type (pos 0)) (or_page page.body page.head.data_page >>= checked_head o) (faults.PageKind page.head.page_type) head e in
    steps.if_at (int_eq page.head.page_type (pos 0)) (count_by o page.body page.head.data_page) (Err (faults.PageKind page.head.page_type)) p.0
    ∙ head_count_by o page page.head.data_page head p.1

-- a page has as many values as its head says
pub page_count : (k : Kind) (o : Bool) (page : PageAt) (file : List ℕ) (d : Option (List Datum)) (vs : List Datum) → page_values k o page file d ≡ Ok vs → count_in o page ≡ Ok (length vs)
page_count k o page file d vs e =
    let p = parts_of_page k o page file d vs e in
    head_count o page p.head p.headed
    ∙ ap Ok (frame_count page p.head.num_values file p.count p.bytes p.framed ∙ sym (body_count k o p.head.encoding d p.count p.bytes vs p.read))

-- ---- where null stands

line_there : {k : Kind} {bytes : List ℕ} {vs : List Datum} → InLine k bytes vs → All There vs
line_there (done bytes) i d within = absurd (omega arith)
line_there (next bytes rest v vs here behind) zero d within = value_there here
  where
    value_there : {k : Kind} {bytes rest : List ℕ} {v : Datum} → PlainValue k bytes v rest → There v
    value_there (long text rest e) = refl
    value_there (integer text rest e) = refl
    value_there (date text rest e f) = refl
    value_there (string bytes text rest e f) = refl
line_there (next bytes rest v vs here behind) (suc i) d within = line_there behind i d (omega arith)

booleans_there : (bits : List ℕ) → All There (map boolean_of bits)
booleans_there [] i d within = absurd (omega arith)
booleans_there (b ∷ bits) zero d within = refl
booleans_there (b ∷ bits) (suc i) d within = booleans_there bits i d (omega arith)

pub plain_there : (k : Kind) (bytes : List ℕ) (vs : List Datum) → PlainValues k bytes vs → All There vs
plain_there kind.Boolean bytes vs p = subst (All There) (sym p.means) (booleans_there p.bits)
plain_there kind.Long bytes vs p = line_there p
plain_there kind.Integer bytes vs p = line_there p
plain_there kind.String bytes vs p = line_there p
plain_there kind.Date bytes vs p = line_there p

got_there : (ds : List Datum) (i : ℕ) (v : Datum) → All There ds → slice_get ds i ≡ Some v → There v
got_there ds i v h e = elim (slice_get_cases ds i).1 [
  | inl c ↦ subst There (get_or_from_slice_get ds i v v e) (h i v c.1)
  | inr c ↦ let no_value : ◌≡◌ {A = Option Datum} None (Some v) = sym c.1 ∙ e in absurd cc
]

values_at_there : (ds : List Datum) (places : List ℕ) (vs : List Datum) → All There ds → values_at ds places ≡ Some vs → All There vs
values_at_there ds [] vs h e = subst (All There) (inside [] vs e) (λ i d within. absurd (omega arith))
values_at_there ds (i ∷ is) vs h e =
    let p = bind_some (slice_get ds i) (λ v. option_map (λ ws. v ∷ ws) (values_at ds is)) vs e in
    let q = map_some (λ ws. p.0 ∷ ws) (values_at ds is) vs p.2 in
    subst (All There) q.2 (first p.0 q.0 (got_there ds i p.0 h p.1) (values_at_there ds is q.0 h q.1))
  where
    first : (v : Datum) (ws : List Datum) → There v → All There ws → All There (v ∷ ws)
    first v ws here behind zero d within = here
    first v ws here behind (suc j) d within = behind j d (omega arith)

-- the values of a chunk's dictionary aren't null
abbrev pub AreThere : Option (List Datum) → Type 0
AreThere None = Unit {0}
AreThere (Some ds) = All There ds

known_there : (d : Option (List Datum)) (ds : List Datum) → AreThere d → d ≡ Some ds → All There ds
known_there None ds h e = absurd cc
known_there (Some x) ds h e = subst (All There) (inside x ds e) h

indexed_there : (ds : List Datum) (count : ℕ) (bytes : List ℕ) (vs : List Datum) → All There ds → indexed_values ds count bytes ≡ Some vs → All There vs
unfolding indexed_values
indexed_there ds count [] vs h e = absurd cc
indexed_there ds count (width ∷ bytes) vs h e =
    let p = bind_some (hybrid_values width bytes count) (values_at ds) vs e in
    values_at_there ds p.0 vs h p.2

present_there : (k : Kind) (e : ℤ) (d : Option (List Datum)) (count : ℕ) (bytes : List ℕ) (vs : List Datum) → AreThere d → present_values k e d count bytes ≡ Some vs → All There vs
unfolding present_values
present_there k e d count bytes vs known h = elim (cases_Bool (is_plain e)) [
  | inl t ↦ plain_there k bytes vs (plain_only k count bytes vs (rw t at h)).1
  | inr f ↦
      let p = bind_some d (λ (ds : List Datum). indexed_values ds count bytes) vs (rw f at h) in
      indexed_there p.0 count bytes vs (known_there d p.0 known p.1) p.2
]

or_first : (a b : Bool) → a || b ≡ false → a ≡ false
or_first true b e = e
or_first false b e = refl

or_second : (a b : Bool) → a || b ≡ false → b ≡ false
or_second true b e = absurd (true≢false e)
or_second false b e = e

-- with no level 0 each value is one that is there
spread_there : (levels : List ℕ) (values : List Datum) → has_null levels ≡ false → length values ≡ there levels → All There values → All There (spread levels values)
spread_there [] values no_null e h = λ i d within. absurd (omega arith)
spread_there (level ∷ levels) [] no_null e h = absurd (omega (arith, e, one))
  where
    one : ◌≡◌ {A = ℕ} (if level == 0 then 0 else 1) 1
    one = rw (or_first (level == 0) (has_null levels) no_null) refl
spread_there (level ∷ levels) (v ∷ values) no_null e h =
    subst (All There) (sym (steps.unless_at (level == 0) (datum.Null ∷ spread levels (v ∷ values)) (v ∷ spread levels values) zero_no))
    (first v (spread levels values) (h 0 v (omega arith)) (spread_there levels values (or_second (level == 0) (has_null levels) no_null) few (λ i d within. h (suc i) d (omega arith))))
  where
    zero_no : (level == 0) ≡ false
    zero_no = or_first (level == 0) (has_null levels) no_null

    one : ◌≡◌ {A = ℕ} (if level == 0 then 0 else 1) 1
    one = rw zero_no refl

    few : length values ≡ there levels
    few = omega (arith, e, one)

    first : (v : Datum) (ws : List Datum) → There v → All There ws → All There (v ∷ ws)
    first v ws here behind zero d within = here
    first v ws here behind (suc j) d within = behind j d (omega arith)

-- a level 0 is null
spread_null : (levels : List ℕ) (values : List Datum) → All There (spread levels values) → has_null levels ≡ false
spread_null [] values h = refl
spread_null (level ∷ levels) [] h = absurd (true≢false (h 0 datum.Null (omega arith)))
spread_null (level ∷ levels) (v ∷ values) h = by (level == 0) (spread_null levels values) h
  where
    by : (b : Bool) → (All There (spread levels values) → has_null levels ≡ false)
        → All There (if b then datum.Null ∷ spread levels (v ∷ values) else v ∷ spread levels values) → b || has_null levels ≡ false
    by true later g = absurd (true≢false (g 0 datum.Null (omega arith)))
    by false later g = later (λ i d within. g (suc i) d (omega arith))

page_nulls : (k : Kind) (page : PageAt) (file : List ℕ) (d : Option (List Datum)) (vs : List Datum) → page_values k true page file d ≡ Ok vs
    → (levels : List ℕ) × (values : List Datum) × (vs ≡ spread levels values) × (length values ≡ there levels) × (AreThere d → All There values)
    × (page_has_null true page file ≡ Ok (has_null levels))
unfolding page_has_null body_values
page_nulls k page file d vs e =
    let p = parts_of_page k true page file d vs e in
    let q = bind_some (levels_in p.count p.bytes) (λ (m : List ℕ × List ℕ). option_map (spread m.0) (present_values k p.head.encoding d (there m.0) m.1)) vs p.read in
    let r = map_some (spread q.0.0) (present_values k p.head.encoding d (there q.0.0) q.0.1) vs q.2 in (
      q.0.0,
      r.0,
      sym r.2,
      present_count k p.head.encoding d (there q.0.0) q.0.1 r.0 r.1,
      λ known. present_there k p.head.encoding d (there q.0.0) q.0.1 r.0 known r.1,
      steps.bind_at (data_head true page) (λ (h : DataPageHead). or_page page.body (body_of page h.num_values file) >>= λ (b : ℕ × List ℕ). or_page page.body (body_has_null true b.0 b.1)) p.head p.headed
          ∙ steps.bind_at (or_page page.body (body_of page p.head.num_values file)) (λ (b : ℕ × List ℕ). or_page page.body (body_has_null true b.0 b.1)) (p.count, p.bytes) (ap (or_page page.body) p.framed)
          ∙ ap (or_page page.body) (map_at (λ (l : List ℕ × List ℕ). has_null l.0) (levels_in p.count p.bytes) q.0 q.1),
    )

-- a page without a level 0 has no null, where its dictionary has none
pub nulls_found : (k : Kind) (page : PageAt) (file : List ℕ) (d : Option (List Datum)) (vs : List Datum) → AreThere d → page_values k true page file d ≡ Ok vs
    → page_has_null true page file ≡ Ok false → All There vs
nulls_found k page file d vs known e h =
    let p = page_nulls k page file d vs e in
    let none : has_null p.0 ≡ false = steps.ok_inside (has_null p.0) false (sym p.5 ∙ h) in
    subst (All There) (sym p.2) (spread_there p.0 p.1 none p.3 (p.4 known))

-- a page without a null has no level 0
pub nulls_only : (k : Kind) (page : PageAt) (file : List ℕ) (d : Option (List Datum)) (vs : List Datum) → page_values k true page file d ≡ Ok vs → All There vs
    → page_has_null true page file ≡ Ok false
nulls_only k page file d vs e h =
    let p = page_nulls k page file d vs e in
    p.5 ∙ ap Ok (spread_null p.0 p.1 (subst (All There) p.2 h))
