-- Chunks that are written stand where they are written.
use Rattle.std.proofs.Common.{◌≡◌, ℕ, zero, suc, ◌+◌, ◌<◌, ◌≤◌, ◌^◌, nat_lt, Bool, true, false, ◌&&◌, List, [], ◌∷◌, ◌++◌, length, take, drop, Option, Some, None, Ok, pos, refl, sym, ap, ◌∙◌, subst, arith, append_assoc, length-append, length-drop}
use Rattle.std.specs.List.{All, find}
use Rattle.std.proofs.lemmas.Bool.{lt-ltb, and_from}
use Rattle.std.proofs.lemmas.List.{take-append-drop, length-take}
use Rattle.std.proofs.lemmas.List.Elements.{All-take, All-drop}
use Rattle.row_base.specs.declared.limits.TheConstants.{MAX_OBJECT_BYTES}
use Rattle.row_base.specs.declared.row.Datum.{Datum}
use Rattle.row_base.specs.declared.schema.Column.{Column}
use Rattle.parquet_meta.specs.declared.head.PageHead.{PageHead}
use Rattle.parquet_meta.specs.declared.head.PageAt.{PageAt}
use Rattle.parquet_meta.specs.declared.meta.ColumnChunk.{ColumnChunk}
use Rattle.parquet_meta.specs.Grammar.{HasHeader, IsInRange}
use Rattle.parquet_meta.specs.Heads.{page_head_at, is_in_range}
use Rattle.parquet_meta.specs.Written.{head_text}
use Rattle.parquet_meta.proofs.SpelledWritten.{heads_read_back}
use Rattle.parquet_pages.specs.Pages.{page_values, dictionary_values}
use Rattle.parquet_pages.specs.Places.{can_place}
use Rattle.parquet_pages.specs.Written.{page_text, index_text, dictionary_text, CanStand}
use Rattle.parquet_pages.specs.ReadBack.{CanReturn, StandsIn, HeadsData}
use Rattle.parquet_pages.proofs.PagesRead.{page_only, dictionary_page_only}
use Rattle.parquet_pages.proofs.Returning.{plain_page_back, indexed_page_back, dictionary_back}
use Rattle.parquet_plain.specs.declared.source.Leaf.{Leaf}
use Rattle.parquet_plain.specs.Tree.{physical_of}
use Rattle.parquet_plain.specs.Reading.{is_chunk_of, has_natural_numbers, first_byte, page_end}
use Rattle.parquet_plain.specs.Written.{parts_in, parts_of, page_values_most, data_head, dictionary_head, dictionary_page, page_of, front_of, pages_of, chunk_text_by, chunk_entry_by, AreIn, DictionaryStands}
use Rattle.parquet_plain.specs.Grammar.{HeadStands, DataPages, done, next, ChunkPages, plain, indexed, IsChunk}
use Rattle.parquet_plain.proofs.HeadsRead.{head_only, past}
use Rattle.parquet_plain.proofs.Steps.{if_at}

-- the most bytes of a file that is read
abbrev pub Small : List ℕ → Type 0
Small file = length file ≤ MAX_OBJECT_BYTES

-- ---- bytes at a place, by parts

pub stands_first : (file : List ℕ) (at : ℕ) (a b : List ℕ) → StandsIn file at (a ++ b) → StandsIn file at a
stands_first file at a b s = record {
  front = s.front;
  rest = b ++ s.rest;
  whole = s.whole ∙ ap (λ t. s.front ++ t) (append_assoc a b s.rest);
  begins = s.begins;
}

pub stands_second : (file : List ℕ) (at : ℕ) (a b : List ℕ) → StandsIn file at (a ++ b) → StandsIn file (at + length a) b
stands_second file at a b s = record {
  front = s.front ++ a;
  rest = s.rest;
  whole = s.whole ∙ ap (λ t. s.front ++ t) (append_assoc a b s.rest) ∙ sym (append_assoc s.front a (b ++ s.rest));
  begins = length-append s.front a ∙ ap (λ n. n + length a) s.begins;
}

pub stands_within : (file : List ℕ) (at : ℕ) (text : List ℕ) → StandsIn file at text → at + length text ≤ length file
stands_within file at text s =
    omega (arith, ap length s.whole ∙ length-append s.front (text ++ s.rest), length-append text s.rest, s.begins)

-- ---- a page

abbrev here : PageHead → ℕ → PageAt
here h at = record { head = h; body = at + length (head_text h) }

head_back : (h : PageHead) (body file : List ℕ) (at : ℕ) → HasHeader h.page_type h.data_page h.dictionary_page → IsInRange h → StandsIn file at (head_text h ++ body)
    → page_head_at file at ≡ Ok (here h at)
head_back h body file at has in_range s =
    let whole : file ≡ s.front ++ (head_text h ++ (body ++ s.rest)) = s.whole ∙ ap (λ t. s.front ++ t) (append_assoc (head_text h) body s.rest) in
    ap (λ f. page_head_at f at) whole
    ∙ ap (λ n. page_head_at (s.front ++ (head_text h ++ (body ++ s.rest))) n) (sym s.begins)
    ∙ heads_read_back h s.front (body ++ s.rest) has in_range
    ∙ ap (λ n. Ok (here h n)) s.begins

narrow : (n : ℕ) → n < 2 ^ 31 → is_in_range (pos n) ≡ true
narrow n small = lt-ltb n (2 ^ 31) small

data_in_range : (encoding n size : ℕ) → encoding < 2 ^ 31 → n < 2 ^ 31 → size < 2 ^ 31 → IsInRange (data_head (pos encoding) (pos n) (pos size))
data_in_range encoding n size e few small = record {
  page_type = refl;
  uncompressed = narrow size small;
  compressed = narrow size small;
  data_page = (narrow n few, narrow encoding e, refl, refl);
  dictionary_page = tt;
}

dictionary_in_range : (n size : ℕ) → n < 2 ^ 31 → size < 2 ^ 31 → IsInRange (dictionary_head (pos n) (pos size))
dictionary_in_range n size few small = record {
  page_type = refl;
  uncompressed = narrow size small;
  compressed = narrow size small;
  data_page = tt;
  dictionary_page = (narrow n few, refl);
}

-- a page that stands there, and what it reads as
pub record PageBack (c : Column) (file : List ℕ) (at : ℕ) (d : Option (List Datum)) (vs : List Datum) : Type 0 where
  pub page : PageAt
  pub head : HeadStands file at page
  pub read : page_values c.kind c.nullable page file d ≡ Ok vs
  pub ends : page_end page ≡ at + length (page_of c d vs)

-- values that can be written and read back
pub record Values (c : Column) (d : Option (List Datum)) (vs : List Datum) : Type 0 where
  pub few : length vs ≤ page_values_most
  pub stand : All (CanStand c.kind c.nullable) vs
  pub back : All CanReturn vs
  pub placed : AreIn d c.nullable vs

abbrev pub IsFew : Option (List Datum) → Type 0
IsFew None = Unit {0}
IsFew (Some ds) = length ds ≤ 67108864

heads_data : (o : Bool) (encoding count : ℕ) (text : List ℕ) (at : ℕ) → length text < 2 ^ 31
    → HeadsData o (here (data_head (pos encoding) (pos count) (pos (length text))) at) (pos encoding) count text
heads_data o encoding count text at small = record {
  head = record { num_values = pos count; encoding = pos encoding; definition_level_encoding = pos 3; repetition_level_encoding = pos 3 };
  is_data = refl;
  has_head = refl;
  encoded = refl;
  levels = λ t. refl;
  counted = refl;
  sized = refl;
  small = small;
}

has_data : (encoding count size : ℕ) → HasHeader (data_head (pos encoding) (pos count) (pos size)).page_type (data_head (pos encoding) (pos count) (pos size)).data_page (data_head (pos encoding) (pos count) (pos size)).dictionary_page
has_data encoding count size = (λ e. refl, λ e. absurd cc)

page_back : (c : Column) (file : List ℕ) (at : ℕ) (d : Option (List Datum)) (vs : List Datum) → StandsIn file at (page_of c d vs) → Small file → IsFew d → Values c d vs → PageBack c file at d vs
unfolding page_of
page_back c file at None vs s small few v =
    let text = page_text c.kind c.nullable vs in
    let h = data_head (pos 0) (pos (length vs)) (pos (length text)) in
    let body = stands_second file at (head_text h) text s in
    let short : length text < 2 ^ 31 = omega (arith, stands_within file (at + length (head_text h)) text body, small) in
    record {
      page = here h at;
      head = head_only file at (here h at) (head_back h text file at (has_data 0 (length vs) (length text)) (data_in_range 0 (length vs) (length text) (omega arith) (omega (arith, v.few)) short) s);
      read = plain_page_back c.kind c.nullable (here h at) file None vs v.stand v.back (omega (arith, v.few)) (heads_data c.nullable 0 (length vs) text at short) body;
      ends = omega (arith, length-append (head_text h) text);
    }
page_back c file at (Some ds) vs s small few v =
    let text = index_text c.nullable ds vs in
    let h = data_head (pos 8) (pos (length vs)) (pos (length text)) in
    let body = stands_second file at (head_text h) text s in
    let short : length text < 2 ^ 31 = omega (arith, stands_within file (at + length (head_text h)) text body, small) in
    record {
      page = here h at;
      head = head_only file at (here h at) (head_back h text file at (has_data 8 (length vs) (length text)) (data_in_range 8 (length vs) (length text) (omega arith) (omega (arith, v.few)) short) s);
      read = indexed_page_back c.kind c.nullable (here h at) file ds vs v.placed few (omega (arith, v.few)) (heads_data c.nullable 8 (length vs) text at short) body;
      ends = omega (arith, length-append (head_text h) text);
    }

-- ---- the pages of a chunk

-- the leaf of a column in a file that is written
pub record IsLeafOf (c : Column) (l : Leaf) : Type 0 where
  pub name : l.name ≡ c.name
  pub kind : l.kind ≡ c.kind
  pub optional : l.optional ≡ c.nullable
  pub nullable : l.nullable ≡ c.nullable

abbrev pub EachIs : {A : Type 0} → (List A → Type 0) → List (List A) → Type 0
EachIs P [] = Unit {0}
EachIs P (vs ∷ vss) = P vs × EachIs P vss

abbrev pub joined : {A : Type 0} → List (List A) → List A
joined [] = []
joined (vs ∷ vss) = vs ++ joined vss

pages_back : (c : Column) (l : Leaf) (file : List ℕ) (d : Option (List Datum)) (vss : List (List Datum)) (at : ℕ) → IsLeafOf c l → Small file → IsFew d → EachIs (Values c d) vss
    → StandsIn file at (pages_of c d vss) → DataPages l file d at (at + length (pages_of c d vss)) (joined vss)
unfolding pages_of
pages_back c l file d [] at leaf small few each s = done (omega arith) refl
pages_back c l file d (vs ∷ vss) at leaf small few each s =
    let p = page_back c file at d vs (stands_first file at (page_of c d vs) (pages_of c d vss) s) small few each.0 in
    let read : page_values l.kind l.optional p.page file d ≡ Ok vs
    = ap (λ k. page_values k l.optional p.page file d) leaf.kind ∙ ap (λ o. page_values c.kind o p.page file d) leaf.optional ∙ p.read in
    let rest = pages_back c l file d vss (at + length (page_of c d vs)) leaf small few each.1 (stands_second file at (page_of c d vs) (pages_of c d vss) s) in
    let end : (at + length (page_of c d vs)) + length (pages_of c d vss) ≡ at + length (page_of c d vs ++ pages_of c d vss)
    = omega (arith, length-append (page_of c d vs) (pages_of c d vss)) in
    next p.page vs (joined vss) p.head (page_only l.kind l.optional p.page file d vs read)
    (λ o n. absurd (let k : true ≡ false = sym o ∙ leaf.optional ∙ sym leaf.nullable ∙ n in cc))
    (subst (λ m. DataPages l file d m (at + length (page_of c d vs ++ pages_of c d vss)) (joined vss)) (sym p.ends)
    (subst (λ m. DataPages l file d (at + length (page_of c d vs)) m (joined vss)) end rest))
    refl

pub parts_each : {A : Type 0} (K P : List A → Type 0) (size : ℕ) → ((xs : List A) → K xs → P (take size xs)) → ((xs : List A) → K xs → K (drop size xs))
    → (most : ℕ) (xs : List A) → K xs → EachIs P (parts_in size most xs)
unfolding parts_in
parts_each K P size front behind zero xs k = tt
parts_each K P size front behind (suc most) [] k = tt
parts_each K P size front behind (suc most) (x ∷ xs) k = (front (x ∷ xs) k, parts_each K P size front behind most (drop size (x ∷ xs)) (behind (x ∷ xs) k))

pub parts_joined : {A : Type 0} (size : ℕ) → 0 < size → (most : ℕ) (xs : List A) → length xs ≤ most → joined (parts_in size most xs) ≡ xs
unfolding parts_in
parts_joined size some zero [] few = refl
parts_joined size some zero (x ∷ xs) few = absurd (omega arith)
parts_joined size some (suc most) [] few = refl
parts_joined size some (suc most) (x ∷ xs) few =
    ap (λ t. take size (x ∷ xs) ++ t) (parts_joined size some most (drop size (x ∷ xs)) (omega (arith, length-drop size (x ∷ xs))))
    ∙ take-append-drop size (x ∷ xs)

-- ---- a chunk

abbrev pub DictionaryBack : Option (List Datum) → Type 0
DictionaryBack None = Unit {0}
DictionaryBack (Some ds) = All CanReturn ds

pub record Whole (c : Column) (d : Option (List Datum)) (vs : List Datum) : Type 0 where
  pub stand : All (CanStand c.kind c.nullable) vs
  pub back : All CanReturn vs
  pub placed : AreIn d c.nullable vs
  pub dictionary : DictionaryStands c.kind d
  pub dictionary_back : DictionaryBack d
  pub few : IsFew d

in-take : (d : Option (List Datum)) (nullable : Bool) (n : ℕ) (vs : List Datum) → AreIn d nullable vs → AreIn d nullable (take n vs)
in-take None nullable n vs h = tt
in-take (Some ds) nullable n vs h = All-take (λ v. can_place ds nullable v ≡ true) n vs h

in-drop : (d : Option (List Datum)) (nullable : Bool) (n : ℕ) (vs : List Datum) → AreIn d nullable vs → AreIn d nullable (drop n vs)
in-drop None nullable n vs h = tt
in-drop (Some ds) nullable n vs h = All-drop (λ v. can_place ds nullable v ≡ true) n vs h

record Kept (c : Column) (d : Option (List Datum)) (vs : List Datum) : Type 0 where
  stand : All (CanStand c.kind c.nullable) vs
  back : All CanReturn vs
  placed : AreIn d c.nullable vs

parts_fit : (c : Column) (d : Option (List Datum)) (values : List Datum) → Whole c d values → EachIs (Values c d) (parts_of page_values_most values)
unfolding parts_of
parts_fit c d values w =
    parts_each (Kept c d) (Values c d) page_values_most
    (λ vs k. record {
      few = omega (arith, length-take page_values_most vs);
      stand = All-take (CanStand c.kind c.nullable) page_values_most vs k.stand;
      back = All-take CanReturn page_values_most vs k.back;
      placed = in-take d c.nullable page_values_most vs k.placed;
    })
    (λ vs k. record {
      stand = All-drop (CanStand c.kind c.nullable) page_values_most vs k.stand;
      back = All-drop CanReturn page_values_most vs k.back;
      placed = in-drop d c.nullable page_values_most vs k.placed;
    })
    (length values) values (record { stand = w.stand; back = w.back; placed = w.placed })

all_joined : (values : List Datum) → joined (parts_of page_values_most values) ≡ values
unfolding parts_of
all_joined values = parts_joined page_values_most (omega arith) (length values) values (omega arith)

pub record FrontBack (c : Column) (l : Leaf) (file : List ℕ) (at : ℕ) (ds : List Datum) (text : List ℕ) : Type 0 where
  pub page : PageAt
  pub head : HeadStands file at page
  pub read : dictionary_values c.kind page file ≡ Ok ds
  pub ends : page_end page ≡ at + length text

has_dictionary : (count size : ℕ) → HasHeader (dictionary_head (pos count) (pos size)).page_type (dictionary_head (pos count) (pos size)).data_page (dictionary_head (pos count) (pos size)).dictionary_page
has_dictionary count size = (λ e. absurd cc, λ e. refl)

front_back : (c : Column) (l : Leaf) (file : List ℕ) (at : ℕ) (ds : List Datum) → StandsIn file at (dictionary_page (length ds) (dictionary_text c.kind ds)) → Small file → length ds ≤ 67108864
    → All (CanStand c.kind false) ds → All CanReturn ds → FrontBack c l file at ds (dictionary_page (length ds) (dictionary_text c.kind ds))
front_back c l file at ds s small few stand back =
    let text = dictionary_text c.kind ds in
    let h = dictionary_head (pos (length ds)) (pos (length text)) in
    let body = stands_second file at (head_text h) text s in
    let short : length text < 2 ^ 31 = omega (arith, stands_within file (at + length (head_text h)) text body, small) in
    record {
      page = here h at;
      head = head_only file at (here h at) (head_back h text file at (has_dictionary (length ds) (length text)) (dictionary_in_range (length ds) (length text) (omega (arith, few)) short) s);
      read = dictionary_back c.kind (here h at) file ds stand back few (record {
        head = record { num_values = pos (length ds); encoding = pos 0 };
        is_dictionary = refl;
        has_head = refl;
        encoded = refl;
        counted = refl;
        sized = refl;
        small = short;
      }) body;
      ends = omega (arith, length-append (head_text h) text);
    }

chunk_back : (c : Column) (l : Leaf) (file : List ℕ) (d : Option (List Datum)) (values : List Datum) (at : ℕ) → IsLeafOf c l → Small file → Whole c d values
    → StandsIn file at (chunk_text_by c d values) → ChunkPages l file at (at + length (chunk_text_by c d values)) values
unfolding chunk_text_by front_of
chunk_back c l file None values at leaf small w s =
    plain (subst (DataPages l file None at (at + length (pages_of c None (parts_of page_values_most values)))) (all_joined values)
    (pages_back c l file None (parts_of page_values_most values) at leaf small w.few (parts_fit c None values w) s))
chunk_back c l file (Some ds) values at leaf small w s =
    let front = dictionary_page (length ds) (dictionary_text c.kind ds) in
    let pages = pages_of c (Some ds) (parts_of page_values_most values) in
    let f = front_back c l file at ds (stands_first file at front pages s) small w.few w.dictionary w.dictionary_back in
    let read : dictionary_values l.kind f.page file ≡ Ok ds = ap (λ k. dictionary_values k f.page file) leaf.kind ∙ f.read in
    let rest = pages_back c l file (Some ds) (parts_of page_values_most values) (at + length front) leaf small w.few (parts_fit c (Some ds) values w) (stands_second file at front pages s) in
    let end : (at + length front) + length pages ≡ at + length (front ++ pages) = omega (arith, length-append front pages) in
    indexed f.page ds f.head (dictionary_page_only l.kind f.page file ds read)
    (subst (λ m. DataPages l file (Some ds) m (at + length (front ++ pages)) values) (sym f.ends)
    (subst (λ m. DataPages l file (Some ds) (at + length front) m values) end
    (subst (DataPages l file (Some ds) (at + length front) ((at + length front) + length pages)) (all_joined values) rest)))

-- ---- what the footer says of the chunk

front_some : (c : Column) (ds : List Datum) (file : List ℕ) (at : ℕ) → StandsIn file at (dictionary_page (length ds) (dictionary_text c.kind ds)) → Small file → length ds ≤ 67108864
    → All (CanStand c.kind false) ds → All CanReturn ds → 0 < length (dictionary_page (length ds) (dictionary_text c.kind ds))
front_some c ds file at s small few stand back =
    let text = dictionary_text c.kind ds in
    let h = dictionary_head (pos (length ds)) (pos (length text)) in
    let body = stands_second file at (head_text h) text s in
    let short : length text < 2 ^ 31 = omega (arith, stands_within file (at + length (head_text h)) text body, small) in
    let p = past (head_only file at (here h at) (head_back h text file at (has_dictionary (length ds) (length text)) (dictionary_in_range (length ds) (length text) (omega (arith, few)) short) s)) in
    omega (arith, p, length-append (head_text h) text)

natural_entry : (c : Column) (d : Option (List Datum)) (values : List Datum) (at : ℕ) → has_natural_numbers (chunk_entry_by c d values at) ≡ true
unfolding chunk_entry_by
natural_entry c None values at = refl
natural_entry c (Some ds) values at = refl

first_entry : (c : Column) (d : Option (List Datum)) (values : List Datum) (file : List ℕ) (at : ℕ) → 0 < at → Small file → Whole c d values → StandsIn file at (chunk_text_by c d values)
    → first_byte (chunk_entry_by c d values at).meta_data ≡ at
unfolding chunk_entry_by chunk_text_by front_of
first_entry c None values file at some small w s = omega arith
first_entry c (Some ds) values file at some small w s =
    let front = dictionary_page (length ds) (dictionary_text c.kind ds) in
    let long = front_some c ds file at (stands_first file at front (pages_of c (Some ds) (parts_of page_values_most values)) s) small w.few w.dictionary w.dictionary_back in
    if_at (nat_lt 0 at && nat_lt at (at + length front)) at (at + length front)
    (and_from (nat_lt 0 at) (nat_lt at (at + length front)) (lt-ltb 0 at some) (lt-ltb at (at + length front) (omega (arith, long))))

entry_made : (c : Column) (l : Leaf) (file : List ℕ) (d : Option (List Datum)) (values : List Datum) (at : ℕ) (chunks : List ColumnChunk) → IsLeafOf c l
    → first_byte (chunk_entry_by c d values at).meta_data ≡ at → at + length (chunk_text_by c d values) ≤ length file → has_natural_numbers (chunk_entry_by c d values at) ≡ true
    → ChunkPages l file at (at + length (chunk_text_by c d values)) values
    → find (is_chunk_of l.name) chunks ≡ Some (chunk_entry_by c d values at) → IsChunk l (length values) chunks file values
unfolding chunk_entry_by
entry_made c l file d values at chunks leaf first within natural pages named = record {
  chunk = chunk_entry_by c d values at;
  named = named;
  typed = ap physical_of (sym leaf.kind);
  uncompressed = refl;
  here = refl;
  numbers = natural;
  counted = refl;
  within = omega (arith, first, within);
  pages = subst (λ m. ChunkPages l file m (m + length (chunk_text_by c d values)) values) (sym first) pages;
  complete = refl;
}

-- the chunk that a group's entries name first holds the values that were written
pub entry_back : (c : Column) (l : Leaf) (file : List ℕ) (d : Option (List Datum)) (values : List Datum) (at : ℕ) (chunks : List ColumnChunk) → IsLeafOf c l → 0 < at → Small file → Whole c d values
    → StandsIn file at (chunk_text_by c d values) → find (is_chunk_of l.name) chunks ≡ Some (chunk_entry_by c d values at) → IsChunk l (length values) chunks file values
entry_back c l file d values at chunks leaf some small w s named =
    entry_made c l file d values at chunks leaf (first_entry c d values file at some small w s) (stands_within file at (chunk_text_by c d values) s) (natural_entry c d values at)
    (chunk_back c l file d values at leaf small w s) named
