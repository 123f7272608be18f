-- Pages are read where they stand, and only there.
use Rattle.std.proofs.Common.{◌≡◌, ◌⊎◌, ℕ, ◌+◌, ◌≤◌, ℤ, pos, negsuc, Bool, true, false, not, ◌&&◌, ◌||◌, cond, leb, List, [], ◌∷◌, length, take, drop, refl, sym, ap, subst, ◌∙◌, inl, inr, Option, Some, None, option_map, Result, Ok, Err}
use Rattle.std.specs.Ordering.{int_eq}
use Rattle.std.proofs.lemmas.Bool.{cases_Bool, le-leb, leb-true, or_cases, or_left, or_right, not-false}
use Rattle.std.proofs.lemmas.Bool.Decides.{Decides-int_eq}
use Rattle.bit_pack.specs.Bits.{most_values}
use Rattle.row_base.specs.declared.row.Datum.{Datum}
use Rattle.row_base.specs.declared.row.Kind.{Kind}
use Rattle.parquet_meta.specs.declared.fault.FileFault.{FileFault}
use Rattle.parquet_meta.specs.declared.fault.FileFault.TheVariants as faults
use Rattle.parquet_meta.specs.declared.head.DataPageHead.{DataPageHead}
use Rattle.parquet_meta.specs.declared.head.DictionaryPageHead.{DictionaryPageHead}
use Rattle.parquet_meta.specs.declared.head.PageAt.{PageAt}
use Rattle.row_base.specs.Faults.{◌>>=◌}
use Rattle.parquet_pages.specs.Gives.{or_page}
use Rattle.parquet_pages.specs.Hybrids.{hybrid_values}
use Rattle.parquet_pages.specs.Plain.{block_in, plain_values}
use Rattle.parquet_pages.specs.Levels.{levels_in, there, spread}
use Rattle.parquet_pages.specs.Places.{values_at, indexed_values}
use Rattle.parquet_pages.specs.Pages.{is_plain, is_dictionary, is_hybrid, count_of, bytes_at, body_of, checked_head, data_head, checked_dictionary, dictionary_head, present_values, body_values, page_values, dictionary_values}
use Rattle.parquet_pages.specs.Grammar.{Levels, Indexed, Present, plain, indexed, Body, required, optional, Framed, DataPage, DictionaryPage}
use Rattle.parquet_pages.proofs.Chains.{bind_some, map_some, bind_at, map_at, test_some, inside, pair_of}
use Rattle.parquet_pages.proofs.Pieces.{hybrid_found, hybrid_only}
use Rattle.parquet_pages.proofs.PlainRead.{block_found, block_only, plain_found, plain_only}

-- ---- numbers of the head

pub same_number : (a b : ℤ) → int_eq a b ≡ true → a ≡ b
same_number a b e = (Decides-int_eq a b).0 e

pub number_same : (a b : ℤ) → a ≡ b → int_eq a b ≡ true
number_same a b e = (Decides-int_eq a b).1 e

pub dictionary_is : (e : ℤ) → (e ≡ pos 2) ⊎ (e ≡ pos 8) → is_dictionary e ≡ true
dictionary_is e (inl two) = or_left (int_eq e (pos 2)) (int_eq e (pos 8)) (number_same e (pos 2) two)
dictionary_is e (inr eight) = or_right (int_eq e (pos 2)) (int_eq e (pos 8)) (number_same e (pos 8) eight)

is_dictionary_only : (e : ℤ) → is_dictionary e ≡ true → (e ≡ pos 2) ⊎ (e ≡ pos 8)
is_dictionary_only e h = elim (or_cases (int_eq e (pos 2)) (int_eq e (pos 8)) h) [
  | inl two ↦ inl (same_number e (pos 2) two)
  | inr eight ↦ inr (same_number e (pos 8) eight)
]

not_plain : (e : ℤ) → (e ≡ pos 2) ⊎ (e ≡ pos 8) → is_plain e ≡ false
not_plain e (inl two) = ap is_plain two
not_plain e (inr eight) = ap is_plain eight

-- ---- levels and places

pub levels_found : (count : ℕ) (bytes levels rest : List ℕ) → Levels count bytes levels rest → levels_in count bytes ≡ Some (levels, rest)
unfolding levels_in
levels_found count bytes levels rest l =
    bind_at (block_in bytes) (λ (b : List ℕ × List ℕ). option_map (λ (ls : List ℕ). (ls, b.1)) (hybrid_values 1 b.0 count)) (l.block, rest) (block_found bytes l.block rest l.stands)
    ∙ map_at (λ (ls : List ℕ). (ls, rest)) (hybrid_values 1 l.block count) levels (hybrid_found 1 l.block count levels l.spelled)

levels_only : (count : ℕ) (bytes : List ℕ) (l : List ℕ × List ℕ) → levels_in count bytes ≡ Some l → Levels count bytes l.0 l.1
unfolding levels_in
levels_only count bytes l e =
    let p = bind_some (block_in bytes) (λ (b : List ℕ × List ℕ). option_map (λ (ls : List ℕ). (ls, b.1)) (hybrid_values 1 b.0 count)) l e in
    let q = map_some (λ (ls : List ℕ). (ls, p.0.1)) (hybrid_values 1 p.0.0 count) l p.2 in
    let all : Levels count bytes q.0 p.0.1 = record {
      block = p.0.0;
      stands = block_only bytes p.0 p.1;
      spelled = hybrid_only 1 p.0.0 count q.0 q.1;
    } in
    subst (λ (k : List ℕ × List ℕ). Levels count bytes k.0 k.1) q.2 all

pub indexed_found : (known : List Datum) (count : ℕ) (bytes : List ℕ) (vs : List Datum) → Indexed known count bytes vs → indexed_values known count bytes ≡ Some vs
unfolding indexed_values
indexed_found known count bytes vs i =
    ap (indexed_values known count) i.whole
    ∙ bind_at (hybrid_values i.width i.spelling count) (values_at known) i.places (hybrid_found i.width i.spelling count i.places i.spelled)
    ∙ i.within

indexed_only : (known : List Datum) (count : ℕ) (bytes : List ℕ) (vs : List Datum) → indexed_values known count bytes ≡ Some vs → Indexed known count bytes vs
unfolding indexed_values
indexed_only known count [] vs e = absurd cc
indexed_only known count (width ∷ bytes) vs e =
    let p = bind_some (hybrid_values width bytes count) (values_at known) vs e in
    record {
      width = width;
      spelling = bytes;
      places = p.0;
      whole = refl;
      spelled = hybrid_only width bytes count p.0 p.1;
      within = p.2;
    }

-- ---- bodies

pub present_found : {k : Kind} {e : ℤ} {d : Option (List Datum)} {count : ℕ} {bytes : List ℕ} {vs : List Datum} → Present k e d count bytes vs
    → present_values k e d count bytes ≡ Some vs
unfolding present_values
present_found {k} {e} {d} {count} {bytes} {vs} (plain zero_is all values) =
    rw (number_same e (pos 0) zero_is) (plain_found k count bytes vs all values)
present_found {k} {e} {d} {count} {bytes} {vs} (indexed known named given values) =
    rw (not_plain e named, given) (indexed_found known count bytes vs values)

pub present_only : (k : Kind) (e : ℤ) (d : Option (List Datum)) (count : ℕ) (bytes : List ℕ) (vs : List Datum) → is_plain e || is_dictionary e ≡ true
    → present_values k e d count bytes ≡ Some vs → Present k e d count bytes vs
unfolding present_values
present_only k e d count bytes vs named h = elim (cases_Bool (is_plain e)) [
  | inl t ↦
      let p = plain_only k count bytes vs (rw t at h) in
      plain (same_number e (pos 0) t) p.0 p.1
  | inr f ↦
      let p = bind_some d (λ (known : List Datum). indexed_values known count bytes) vs (rw f at h) in
      let is : is_dictionary e ≡ true = rw f at named in
      indexed p.0 (is_dictionary_only e is) p.1 (indexed_only p.0 count bytes vs p.2)
]

pub body_found : {k : Kind} {e : ℤ} {d : Option (List Datum)} {count : ℕ} {bytes : List ℕ} {vs : List Datum} {o : Bool} → Body k e d count bytes vs o
    → body_values k o e d count bytes ≡ Some vs
unfolding body_values
body_found (required values) = present_found values
body_found {k} {e} {d} {count} {bytes} {vs} (optional levels rest values l present placed) =
    bind_at (levels_in count bytes) (λ (m : List ℕ × List ℕ). option_map (spread m.0) (present_values k e d (there m.0) m.1)) (levels, rest) (levels_found count bytes levels rest l)
    ∙ map_at (spread levels) (present_values k e d (there levels) rest) values (present_found present)
    ∙ ap Some (sym placed)

pub body_only : (k : Kind) (e : ℤ) (d : Option (List Datum)) (count : ℕ) (bytes : List ℕ) (vs : List Datum) (o : Bool) → is_plain e || is_dictionary e ≡ true
    → body_values k o e d count bytes ≡ Some vs → Body k e d count bytes vs o
unfolding body_values
body_only k e d count bytes vs false named h = required (present_only k e d count bytes vs named h)
body_only k e d count bytes vs true named h =
    let p = bind_some (levels_in count bytes) (λ (m : List ℕ × List ℕ). option_map (spread m.0) (present_values k e d (there m.0) m.1)) vs h in
    let q = map_some (spread p.0.0) (present_values k e d (there p.0.0) p.0.1) vs p.2 in
    optional p.0.0 p.0.1 q.0 (levels_only count bytes p.0 p.1) (present_only k e d (there p.0.0) p.0.1 q.0 named q.1) (sym q.2)

-- ---- frames

count_found : (z : ℤ) (n : ℕ) → z ≡ pos n → n ≤ most_values → count_of z ≡ Some n
count_found z n e few = ap count_of e ∙ (rw (le-leb n most_values few) refl)

count_only : (z : ℤ) (n : ℕ) → count_of z ≡ Some n → (z ≡ pos n) × (n ≤ most_values)
count_only (pos m) n e =
    let p = test_some (leb m most_values) (Some m) n e in
    let same : m ≡ n = inside m n p.1 in
    (ap pos same, subst (λ k. k ≤ most_values) same (leb-true m most_values p.0))
count_only (negsuc m) n e = absurd cc

bytes_found : (at : ℕ) (z : ℤ) (size : ℕ) (file : List ℕ) → z ≡ pos size → at + size ≤ length file → bytes_at at z file ≡ Some (take size (drop at file))
bytes_found at z size file e within = ap (λ y. bytes_at at y file) e ∙ (rw (le-leb (at + size) (length file) within) refl)

bytes_only : (at : ℕ) (z : ℤ) (file bytes : List ℕ) → bytes_at at z file ≡ Some bytes
    → (size : ℕ) × (z ≡ pos size) × (at + size ≤ length file) × (bytes ≡ take size (drop at file))
bytes_only at (pos size) file bytes e =
    let p = test_some (leb (at + size) (length file)) (Some (take size (drop at file))) bytes e in
    (size, refl, leb-true (at + size) (length file) p.0, sym (inside (take size (drop at file)) bytes p.1))
bytes_only at (negsuc size) file bytes e = absurd cc

pub frame_found : (page : PageAt) (values : ℤ) (file : List ℕ) (count : ℕ) (bytes : List ℕ) → Framed page values file count bytes
    → body_of page values file ≡ Some (count, bytes)
unfolding body_of
frame_found page values file count bytes f =
    bind_at (count_of values) (λ (n : ℕ). option_map (λ (bs : List ℕ). (n, bs)) (bytes_at page.body page.head.compressed_page_size file)) count
    (count_found values count f.counted f.few)
    ∙ map_at (λ (bs : List ℕ). (count, bs)) (bytes_at page.body page.head.compressed_page_size file) (take f.size (drop page.body file))
    (bytes_found page.body page.head.compressed_page_size f.size file f.sized f.within)
    ∙ ap Some (pair_of count count (take f.size (drop page.body file)) bytes refl (sym f.stands))

frame_only : (page : PageAt) (values : ℤ) (file : List ℕ) (b : ℕ × List ℕ) → body_of page values file ≡ Some b → Framed page values file b.0 b.1
unfolding body_of
frame_only page values file b e =
    let p = bind_some (count_of values) (λ (n : ℕ). option_map (λ (bs : List ℕ). (n, bs)) (bytes_at page.body page.head.compressed_page_size file)) b e in
    let q = map_some (λ (bs : List ℕ). (p.0, bs)) (bytes_at page.body page.head.compressed_page_size file) b p.2 in
    let count = count_only values p.0 p.1 in
    let bytes = bytes_only page.body page.head.compressed_page_size file q.0 q.1 in
    let all : Framed page values file p.0 q.0 = record {
      size = bytes.0;
      counted = count.0;
      few = count.1;
      sized = bytes.1;
      within = bytes.2;
      stands = bytes.3;
    } in
    subst (λ (k : ℕ × List ℕ). Framed page values file k.0 k.1) q.2 all

-- ---- heads

bind_ok : {A B : Type 0} (r : Result A FileFault) (f : A → Result B FileFault) (y : B) → (r >>= f) ≡ Ok y → (x : A) × (r ≡ Ok x) × (f x ≡ Ok y)
bind_ok (Ok x) f y e = (x, refl, e)
bind_ok (Err d) f y e = absurd cc

pub bind_from : {A B : Type 0} (r : Result A FileFault) (f : A → Result B FileFault) (x : A) → r ≡ Ok x → (r >>= f) ≡ f x
bind_from r f x e = rw e refl

ok_inside : {A : Type 0} (x y : A) → ◌≡◌ {A = Result A FileFault} (Ok x) (Ok y) → x ≡ y
ok_inside x y e = cc

page_ok : {A : Type 0} (at : ℕ) (o : Option A) (x : A) → or_page at o ≡ Ok x → o ≡ Some x
page_ok at (Some y) x e = ap Some (ok_inside y x e)
page_ok at None x e = absurd cc

pub page_from : {A : Type 0} (at : ℕ) (o : Option A) (x : A) → o ≡ Some x → or_page at o ≡ Ok x
page_from at o x e = ap (or_page at) e

guard_ok : {A : Type 0} (b : Bool) (d : FileFault) (r : Result A FileFault) (y : A) → cond b (Err d) r ≡ Ok y → (b ≡ false) × (r ≡ Ok y)
guard_ok true d r y e = absurd cc
guard_ok false d r y e = (refl, e)

holds_ok : {A : Type 0} (b : Bool) (r : Result A FileFault) (d : FileFault) (y : A) → cond b r (Err d) ≡ Ok y → (b ≡ true) × (r ≡ Ok y)
holds_ok true r d y e = (refl, e)
holds_ok false r d y e = absurd cc

-- the encodings that a head may name
abbrev pub Named : Bool → DataPageHead → Type 0
Named o head = (is_plain head.encoding || is_dictionary head.encoding ≡ true) × (o ≡ true → is_hybrid head.definition_level_encoding ≡ true)

levels_looked : (o b : Bool) → o && not b ≡ false → o ≡ true → b ≡ true
levels_looked true true e t = refl
levels_looked true false e t = absurd cc
levels_looked false b e t = absurd cc

levels_pass : (o b : Bool) → (o ≡ true → b ≡ true) → o && not b ≡ false
levels_pass true true h = refl
levels_pass true false h = let k : false ≡ true = h refl in cc
levels_pass false b h = refl

checked_only : (o : Bool) (head given : DataPageHead) → checked_head o head ≡ Ok given → (head ≡ given) × Named o head
checked_only o head given e =
    let b = is_plain head.encoding || is_dictionary head.encoding in
    let l = is_hybrid head.definition_level_encoding in
    let p = guard_ok (not b) (faults.Encoding head.encoding) (cond (o && not l) (Err (faults.Encoding head.definition_level_encoding)) (Ok head)) given e in
    let q = guard_ok (o && not l) (faults.Encoding head.definition_level_encoding) (Ok head) given p.1 in
    (ok_inside head given q.1, (not-false b p.0, λ t. levels_looked o l q.0 t))

checked_found : (o : Bool) (head : DataPageHead) → Named o head → checked_head o head ≡ Ok head
checked_found o head named =
    rw (named.0, levels_pass o (is_hybrid head.definition_level_encoding) named.1) refl

pub head_found : (o : Bool) (page : PageAt) (head : DataPageHead) → page.head.page_type ≡ pos 0 → page.head.data_page ≡ Some head → Named o head
    → data_head o page ≡ Ok head
unfolding data_head
head_found o page head is_data here named =
    rw (number_same page.head.page_type (pos 0) is_data)
    (bind_from (or_page page.body page.head.data_page) (checked_head o) head (page_from page.body page.head.data_page head here) ∙ checked_found o head named)

head_only : (o : Bool) (page : PageAt) (head : DataPageHead) → data_head o page ≡ Ok head
    → (page.head.page_type ≡ pos 0) × (page.head.data_page ≡ Some head) × Named o head
unfolding data_head
head_only o page head e =
    let p = holds_ok (int_eq page.head.page_type (pos 0)) (or_page page.body page.head.data_page >>= checked_head o) (faults.PageKind page.head.page_type) head e in
    let q = bind_ok (or_page page.body page.head.data_page) (checked_head o) head p.1 in
    let c = checked_only o q.0 head q.2 in
    let here : page.head.data_page ≡ Some q.0 = page_ok page.body page.head.data_page q.0 q.1 in
    (same_number page.head.page_type (pos 0) p.0, here ∙ ap Some c.0, subst (Named o) c.0 c.1)

dictionary_checked : (head given : DictionaryPageHead) → checked_dictionary head ≡ Ok given
    → (head ≡ given) × ((head.encoding ≡ pos 0) ⊎ (head.encoding ≡ pos 2))
dictionary_checked head given e =
    let p = holds_ok (is_plain head.encoding || int_eq head.encoding (pos 2)) (Ok head) (faults.Encoding head.encoding) given e in (
      ok_inside head given p.1,
      elim (or_cases (is_plain head.encoding) (int_eq head.encoding (pos 2)) p.0) [
        | inl zero_is ↦ inl (same_number head.encoding (pos 0) zero_is)
        | inr two ↦ inr (same_number head.encoding (pos 2) two)
      ],
    )

dictionary_passes : (head : DictionaryPageHead) → (head.encoding ≡ pos 0) ⊎ (head.encoding ≡ pos 2) → is_plain head.encoding || int_eq head.encoding (pos 2) ≡ true
dictionary_passes head (inl zero_is) = or_left (is_plain head.encoding) (int_eq head.encoding (pos 2)) (number_same head.encoding (pos 0) zero_is)
dictionary_passes head (inr two) = or_right (is_plain head.encoding) (int_eq head.encoding (pos 2)) (number_same head.encoding (pos 2) two)

pub dictionary_found : (page : PageAt) (head : DictionaryPageHead) → page.head.page_type ≡ pos 2 → page.head.dictionary_page ≡ Some head
    → (head.encoding ≡ pos 0) ⊎ (head.encoding ≡ pos 2) → dictionary_head page ≡ Ok head
unfolding dictionary_head
dictionary_found page head is_dict here named =
    rw (number_same page.head.page_type (pos 2) is_dict)
    (bind_from (or_page page.body page.head.dictionary_page) checked_dictionary head (page_from page.body page.head.dictionary_page head here)
    ∙ (rw (dictionary_passes head named) refl))

dictionary_only : (page : PageAt) (head : DictionaryPageHead) → dictionary_head page ≡ Ok head
    → (page.head.page_type ≡ pos 2) × (page.head.dictionary_page ≡ Some head) × ((head.encoding ≡ pos 0) ⊎ (head.encoding ≡ pos 2))
unfolding dictionary_head
dictionary_only page head e =
    let p = holds_ok (int_eq page.head.page_type (pos 2)) (or_page page.body page.head.dictionary_page >>= checked_dictionary) (faults.PageKind page.head.page_type) head e in
    let q = bind_ok (or_page page.body page.head.dictionary_page) checked_dictionary head p.1 in
    let c = dictionary_checked q.0 head q.2 in
    let here : page.head.dictionary_page ≡ Some q.0 = page_ok page.body page.head.dictionary_page q.0 q.1 in
    (same_number page.head.page_type (pos 2) p.0, here ∙ ap Some c.0, subst (λ (h : DictionaryPageHead). (h.encoding ≡ pos 0) ⊎ (h.encoding ≡ pos 2)) c.0 c.1)

-- ---- whole pages

present_named : {k : Kind} {e : ℤ} {d : Option (List Datum)} {count : ℕ} {bytes : List ℕ} {vs : List Datum} → Present k e d count bytes vs → is_plain e || is_dictionary e ≡ true
present_named {e = e} (plain zero_is all values) = or_left (is_plain e) (is_dictionary e) (number_same e (pos 0) zero_is)
present_named {e = e} (indexed known named given values) = or_right (is_plain e) (is_dictionary e) (dictionary_is e named)

pub body_named : {k : Kind} {e : ℤ} {d : Option (List Datum)} {count : ℕ} {bytes : List ℕ} {vs : List Datum} {o : Bool} → Body k e d count bytes vs o → is_plain e || is_dictionary e ≡ true
body_named (required present) = present_named present
body_named (optional levels rest values l present placed) = present_named present

pub page_found : (k : Kind) (o : Bool) (page : PageAt) (file : List ℕ) (d : Option (List Datum)) (vs : List Datum) → DataPage k o page file d vs
    → page_values k o page file d ≡ Ok vs
unfolding page_values
page_found k o page file d vs p =
    let named : Named o p.head = (body_named p.body, λ t. number_same p.head.definition_level_encoding (pos 3) (p.levels t)) in
    bind_from (data_head o page) (λ (h : DataPageHead). or_page page.body (body_of page h.num_values file) >>= λ (b : ℕ × List ℕ). or_page page.body (body_values k o h.encoding d b.0 b.1))
    p.head (head_found o page p.head p.is_data p.has_head named)
    ∙ bind_from (or_page page.body (body_of page p.head.num_values file)) (λ (b : ℕ × List ℕ). or_page page.body (body_values k o p.head.encoding d b.0 b.1))
    (p.count, p.bytes) (page_from page.body (body_of page p.head.num_values file) (p.count, p.bytes) (frame_found page p.head.num_values file p.count p.bytes p.framed))
    ∙ page_from page.body (body_values k o p.head.encoding d p.count p.bytes) vs (body_found p.body)

pub page_only : (k : Kind) (o : Bool) (page : PageAt) (file : List ℕ) (d : Option (List Datum)) (vs : List Datum) → page_values k o page file d ≡ Ok vs
    → DataPage k o page file d vs
unfolding page_values
page_only k o page file d vs e =
    let p = bind_ok (data_head o page) (λ (h : DataPageHead). or_page page.body (body_of page h.num_values file) >>= λ (b : ℕ × List ℕ). or_page page.body (body_values k o h.encoding d b.0 b.1)) vs e in
    let q = bind_ok (or_page page.body (body_of page p.0.num_values file)) (λ (b : ℕ × List ℕ). or_page page.body (body_values k o p.0.encoding d b.0 b.1)) vs p.2 in
    let h = head_only o page p.0 p.1 in
    record {
      head = p.0;
      count = q.0.0;
      bytes = q.0.1;
      is_data = h.0;
      has_head = h.1;
      levels = λ t. same_number p.0.definition_level_encoding (pos 3) (h.2.1 t);
      framed = frame_only page p.0.num_values file q.0 (page_ok page.body (body_of page p.0.num_values file) q.0 q.1);
      body = body_only k p.0.encoding d q.0.0 q.0.1 vs o h.2.0 (page_ok page.body (body_values k o p.0.encoding d q.0.0 q.0.1) vs q.2);
    }

pub dictionary_page_found : (k : Kind) (page : PageAt) (file : List ℕ) (vs : List Datum) → DictionaryPage k page file vs → dictionary_values k page file ≡ Ok vs
unfolding dictionary_values
dictionary_page_found k page file vs p =
    bind_from (dictionary_head page) (λ (h : DictionaryPageHead). or_page page.body (body_of page h.num_values file) >>= λ (b : ℕ × List ℕ). or_page page.body (plain_values k b.0 b.1))
    p.head (dictionary_found page p.head p.is_dictionary p.has_head p.encoded)
    ∙ bind_from (or_page page.body (body_of page p.head.num_values file)) (λ (b : ℕ × List ℕ). or_page page.body (plain_values k b.0 b.1))
    (length vs, p.bytes) (page_from page.body (body_of page p.head.num_values file) (length vs, p.bytes) (frame_found page p.head.num_values file (length vs) p.bytes p.framed))
    ∙ page_from page.body (plain_values k (length vs) p.bytes) vs (plain_found k (length vs) p.bytes vs refl p.body)

pub dictionary_page_only : (k : Kind) (page : PageAt) (file : List ℕ) (vs : List Datum) → dictionary_values k page file ≡ Ok vs → DictionaryPage k page file vs
unfolding dictionary_values
dictionary_page_only k page file vs e =
    let p = bind_ok (dictionary_head page) (λ (h : DictionaryPageHead). or_page page.body (body_of page h.num_values file) >>= λ (b : ℕ × List ℕ). or_page page.body (plain_values k b.0 b.1)) vs e in
    let q = bind_ok (or_page page.body (body_of page p.0.num_values file)) (λ (b : ℕ × List ℕ). or_page page.body (plain_values k b.0 b.1)) vs p.2 in
    let h = dictionary_only page p.0 p.1 in
    let v = plain_only k q.0.0 q.0.1 vs (page_ok page.body (plain_values k q.0.0 q.0.1) vs q.2) in
    let frame = frame_only page p.0.num_values file q.0 (page_ok page.body (body_of page p.0.num_values file) q.0 q.1) in
    record {
      head = p.0;
      bytes = q.0.1;
      is_dictionary = h.0;
      has_head = h.1;
      encoded = h.2;
      framed = subst (λ n. Framed page p.0.num_values file n q.0.1) (sym v.0) frame;
      body = v.1;
    }
