-- What is written is read back, wherever it stands in a file behind a head that fits it.
use Rattle.std.specs.Prelude.{◌≡◌, ℕ, ◌^◌, ◌<◌, ◌≤◌, ℤ, pos, Bool, true, false, List, ◌++◌, length, Option, Some, Ok, FitsSigned}
use Rattle.std.specs.Int.{w32, w64}
use Rattle.std.specs.List.{All}
use Rattle.bit_pack.specs.Bits.{most_values}
use Rattle.row_base.specs.Dates.{IsDayNumber}
use Rattle.row_base.specs.declared.row.Datum.{Datum}
use Rattle.row_base.specs.declared.row.Datum.TheVariants as datum
use Rattle.row_base.specs.declared.row.Kind.{Kind}
use Rattle.parquet_meta.specs.declared.head.DataPageHead.{DataPageHead}
use Rattle.parquet_meta.specs.declared.head.DictionaryPageHead.{DictionaryPageHead}
use Rattle.parquet_meta.specs.declared.head.PageAt.{PageAt}
use Rattle.parquet_pages.specs.Places.{can_place}
use Rattle.parquet_pages.specs.Pages.{page_values, dictionary_values}
use Rattle.parquet_pages.specs.Written.{page_text, index_text, dictionary_text, CanStand}
use Rattle.parquet_pages.specs.Grammar.{IsText}

-- a value that some bytes read as: a number of its width, at most MAX_TEXT_BYTES bytes of UTF-8, a day of the years 1 to 9999
abbrev pub CanReturn : Datum → Type 0
CanReturn datum.Null = Unit {0}
CanReturn (datum.Long n) = FitsSigned w64 n
CanReturn (datum.Integer n) = FitsSigned w32 n
CanReturn (datum.Boolean b) = Unit {0}
CanReturn (datum.Text t) = IsText t
CanReturn (datum.Date n) = FitsSigned w32 n × IsDayNumber n

-- the bytes stand at this place of a file
pub record StandsIn (file : List ℕ) (at : ℕ) (text : List ℕ) : Type 0 where
  pub front : List ℕ
  pub rest : List ℕ
  pub whole : file ≡ front ++ (text ++ rest)
  pub begins : length front ≡ at

-- the head of a data page that says this of its body
pub record HeadsData (optional : Bool) (page : PageAt) (encoding : ℤ) (count : ℕ) (text : List ℕ) : Type 0 where
  pub head : DataPageHead
  pub is_data : page.head.page_type ≡ pos 0
  pub has_head : page.head.data_page ≡ Some head
  pub encoded : head.encoding ≡ encoding
  pub levels : optional ≡ true → head.definition_level_encoding ≡ pos 3
  pub counted : head.num_values ≡ pos count
  pub sized : page.head.compressed_page_size ≡ pos (length text)
  pub small : length text < 2 ^ 31

-- the head of a dictionary page that says this of its body
pub record HeadsDictionary (page : PageAt) (count : ℕ) (text : List ℕ) : Type 0 where
  pub head : DictionaryPageHead
  pub is_dictionary : page.head.page_type ≡ pos 2
  pub has_head : page.head.dictionary_page ≡ Some head
  pub encoded : head.encoding ≡ pos 0
  pub counted : head.num_values ≡ pos count
  pub sized : page.head.compressed_page_size ≡ pos (length text)
  pub small : length text < 2 ^ 31

abbrev pub PagesReadBack : Type 0
PagesReadBack = (k : Kind) (optional : Bool) (page : PageAt) (file : List ℕ) (dictionary : Option (List Datum)) (vs : List Datum)
    → All (CanStand k optional) vs → All CanReturn vs → length vs ≤ most_values
    → HeadsData optional page (pos 0) (length vs) (page_text k optional vs) → StandsIn file page.body (page_text k optional vs)
    → page_values k optional page file dictionary ≡ Ok vs

abbrev pub IndicesReadBack : Type 0
IndicesReadBack = (k : Kind) (optional : Bool) (page : PageAt) (file : List ℕ) (dictionary vs : List Datum)
    → All (λ v. can_place dictionary optional v ≡ true) vs → length dictionary ≤ most_values → length vs ≤ most_values
    → HeadsData optional page (pos 8) (length vs) (index_text optional dictionary vs) → StandsIn file page.body (index_text optional dictionary vs)
    → page_values k optional page file (Some dictionary) ≡ Ok vs

abbrev pub DictionariesReadBack : Type 0
DictionariesReadBack = (k : Kind) (page : PageAt) (file : List ℕ) (vs : List Datum)
    → All (CanStand k false) vs → All CanReturn vs → length vs ≤ most_values
    → HeadsDictionary page (length vs) (dictionary_text k vs) → StandsIn file page.body (dictionary_text k vs)
    → dictionary_values k page file ≡ Ok vs
