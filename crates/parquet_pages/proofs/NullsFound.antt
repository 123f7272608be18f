-- Whether a page has a null is told by its levels alone.
use Rattle.std.proofs.Common.{◌≡◌, ℕ, zero, suc, ◌+◌, ℤ, pos, Bool, true, false, eqb, List, [], ◌∷◌, length, map, refl, sym, ap, subst, ◌∙◌, arith, inl, inr, Option, Some, option_map, Ok, IfSome}
use Rattle.std.specs.List.{list_any, slice_get}
use Rattle.std.proofs.lemmas.Bool.{cases_Bool, or_parts, or_from}
use Rattle.row_base.specs.declared.row.Datum.{Datum}
use Rattle.row_base.specs.declared.row.Kind.{Kind}
use Rattle.row_base.specs.declared.row.Kind.TheVariants as kind
use Rattle.parquet_meta.specs.declared.head.DataPageHead.{DataPageHead}
use Rattle.parquet_meta.specs.declared.head.PageAt.{PageAt}
use Rattle.row_base.specs.Faults.{◌>>=◌}
use Rattle.parquet_pages.specs.Gives.{or_page}
use Rattle.parquet_pages.specs.Plain.{boolean_of}
use Rattle.parquet_pages.specs.Levels.{levels_in, there, has_null, spread}
use Rattle.parquet_pages.specs.Places.{is_null, values_at}
use Rattle.parquet_pages.specs.Pages.{body_of, body_has_null, data_head, page_values, page_has_null}
use Rattle.parquet_pages.specs.Grammar.{PlainValue, long, integer, date, string, InLine, done, next, PlainValues, Present, plain, indexed, Body, required, optional}
use Rattle.parquet_pages.proofs.Chains.{bind_some, map_some, map_at, inside}
use Rattle.parquet_pages.proofs.Pieces.{all_read}
use Rattle.parquet_pages.proofs.PagesRead.{Named, number_same, head_found, frame_found, levels_found, page_only, bind_from, page_from, body_named}

-- no value is null
abbrev pub NoNull : List Datum → Type 0
NoNull vs = list_any is_null vs ≡ false

-- ---- values that are there

value_there : {k : Kind} {bytes rest : List ℕ} {v : Datum} → PlainValue k bytes v rest → is_null v ≡ false
value_there (long text rest eight) = refl
value_there (integer text rest four) = refl
value_there (date text rest four day) = refl
value_there (string bytes text rest block is_text) = refl

line_there : {k : Kind} {bytes : List ℕ} {vs : List Datum} → InLine k bytes vs → NoNull vs
line_there (done bytes) = refl
line_there (next bytes rest v vs value others) = or_from (is_null v) (list_any is_null vs) (value_there value) (line_there others)

booleans_there : (bits : List ℕ) → NoNull (map boolean_of bits)
booleans_there [] = refl
booleans_there (bit ∷ bits) = booleans_there bits

plain_there : (k : Kind) (bytes : List ℕ) (vs : List Datum) → PlainValues k bytes vs → NoNull vs
plain_there kind.Boolean bytes vs b = subst NoNull (sym b.means) (booleans_there b.bits)
plain_there kind.Long bytes vs b = line_there b
plain_there kind.Integer bytes vs b = line_there b
plain_there kind.String bytes vs b = line_there b
plain_there kind.Date bytes vs b = line_there b

get_there : (known : List Datum) (i : ℕ) (v : Datum) → NoNull known → slice_get known i ≡ Some v → is_null v ≡ false
get_there [] i v none e = absurd cc
get_there (w ∷ known) zero v none e = ap is_null (sym (inside w v e)) ∙ (or_parts (is_null w) (list_any is_null known) none).0
get_there (w ∷ known) (suc i) v none e = get_there known i v (or_parts (is_null w) (list_any is_null known) none).1 e

places_there : (known : List Datum) (places : List ℕ) (vs : List Datum) → NoNull known → values_at known places ≡ Some vs → NoNull vs × (length vs ≡ length places)
places_there known [] vs none e = subst (λ (ds : List Datum). NoNull ds × (length ds ≡ 0)) (inside [] vs e) (refl, refl)
places_there known (i ∷ places) vs none e =
    let p = bind_some (slice_get known i) (λ (v : Datum). option_map (λ (ds : List Datum). v ∷ ds) (values_at known places)) vs e in
    let q = map_some (λ (ds : List Datum). p.0 ∷ ds) (values_at known places) vs p.2 in
    let rest = places_there known places q.0 none q.1 in
    let all : NoNull (p.0 ∷ q.0) × (length (p.0 ∷ q.0) ≡ suc (length places))
    = (or_from (is_null p.0) (list_any is_null q.0) (get_there known i p.0 none p.1) rest.0, ap suc rest.1) in
    subst (λ (ds : List Datum). NoNull ds × (length ds ≡ suc (length places))) q.2 all

present_there : {k : Kind} {e : ℤ} {d : Option (List Datum)} {count : ℕ} {bytes : List ℕ} {vs : List Datum} → IfSome d NoNull → Present k e d count bytes vs
    → NoNull vs × (length vs ≡ count)
present_there {k} {bytes = bytes} {vs = vs} none (plain zero_is all values) = (plain_there k bytes vs values, all)
present_there {count = count} {vs = vs} none (indexed known named given values) =
    let p = places_there known values.places vs (subst (λ (o : Option (List Datum)). IfSome o NoNull) given none) values.within in
    (p.0, p.1 ∙ all_read values.width values.spelling count values.places values.spelled)

-- ---- levels

spread_there : (levels : List ℕ) (vs : List Datum) → there levels ≡ length vs → NoNull vs → list_any is_null (spread levels vs) ≡ has_null levels
spread_there [] [] all none = refl
spread_there [] (v ∷ vs) all none = absurd (omega (arith, all))
spread_there (l ∷ levels) [] all none = elim (cases_Bool (eqb l 0)) [
  | inl t ↦ rw t refl
  | inr f ↦ absurd (too_many (rw f at all))
]
  where
    too_many : 1 + there levels ≡ 0 → ⊥
    too_many e = omega (arith, e)
spread_there (l ∷ levels) (v ∷ vs) all none = elim (cases_Bool (eqb l 0)) [
  | inl t ↦ rw t refl
  | inr f ↦
      let parts = or_parts (is_null v) (list_any is_null vs) none in
      let rest = spread_there levels vs (one_less (rw f at all)) parts.1 in
      rw (f, parts.0) rest
]
  where
    one_less : 1 + there levels ≡ suc (length vs) → there levels ≡ length vs
    one_less e = omega (arith, e)

-- ---- pages

body_null : {k : Kind} {e : ℤ} {d : Option (List Datum)} {count : ℕ} {bytes : List ℕ} {vs : List Datum} {o : Bool} → IfSome d NoNull → Body k e d count bytes vs o
    → body_has_null o count bytes ≡ Some (list_any is_null vs)
body_null none (required present) = ap Some (sym (present_there none present).0)
body_null {count = count} {bytes = bytes} none (optional levels rest values l present placed) =
    let p = present_there none present in
    map_at (λ (m : List ℕ × List ℕ). has_null m.0) (levels_in count bytes) (levels, rest) (levels_found count bytes levels rest l)
    ∙ ap Some (sym (ap (list_any is_null) placed ∙ spread_there levels values (sym p.1) p.0))

pub null_found : (k : Kind) (o : Bool) (page : PageAt) (file : List ℕ) (d : Option (List Datum)) (vs : List Datum) → page_values k o page file d ≡ Ok vs
    → IfSome d NoNull → page_has_null o page file ≡ Ok (list_any is_null vs)
unfolding page_has_null
null_found k o page file d vs e none =
    let p = page_only k o page file d vs e in
    let named : Named o p.head = (body_named p.body, λ (t : o ≡ true). number_same p.head.definition_level_encoding (pos 3) (p.levels t)) in
    bind_from (data_head o page) (λ (h : DataPageHead). or_page page.body (body_of page h.num_values file) >>= λ (b : ℕ × List ℕ). or_page page.body (body_has_null o b.0 b.1))
    p.head (head_found o page p.head p.is_data p.has_head named)
    ∙ bind_from (or_page page.body (body_of page p.head.num_values file)) (λ (b : ℕ × List ℕ). or_page page.body (body_has_null o b.0 b.1))
    (p.count, p.bytes) (page_from page.body (body_of page p.head.num_values file) (p.count, p.bytes) (frame_found page p.head.num_values file p.count p.bytes p.framed))
    ∙ page_from page.body (body_has_null o p.count p.bytes) (list_any is_null vs) (body_null none p.body)
