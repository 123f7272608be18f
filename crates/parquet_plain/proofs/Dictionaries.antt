-- The dictionary of a chunk's values: it holds them, and its values can stand in a dictionary page.
use Rattle.std.proofs.Common.{◌≡◌, Bool, true, List, Option, Some, None, get_or, refl}
use Rattle.std.specs.List.{All}
use Rattle.row_base.specs.declared.row.Datum.{Datum}
use Rattle.row_base.specs.declared.row.Datum.TheVariants as datum
use Rattle.row_base.specs.declared.row.Kind.{Kind}
use Rattle.parquet_pages.specs.Places.{dictionary_of}
use Rattle.parquet_pages.specs.Written.{CanStand}
use Rattle.parquet_pages.proofs.DictionaryFits.{dictionaries_fit_all}
use Rattle.parquet_plain.specs.Written.{DictionaryStands, AreIn}

-- a value that can stand in a column can stand in one that may be null
may_stand : (k : Kind) (nullable : Bool) (v : Datum) → CanStand k nullable v → CanStand k true v
may_stand k nullable datum.Null h = refl
may_stand k nullable (datum.Long n) h = h
may_stand k nullable (datum.Integer n) h = h
may_stand k nullable (datum.Boolean b) h = h
may_stand k nullable (datum.Text t) h = h
may_stand k nullable (datum.Date n) h = h

pub all_may_stand : (k : Kind) (nullable : Bool) (vs : List Datum) → All (CanStand k nullable) vs → All (CanStand k true) vs
all_may_stand k nullable vs h = λ i d within. may_stand k nullable (get_or vs i d) (h i d within)

pub values_placed : (k : Kind) (nullable : Bool) (values : List Datum) → All (CanStand k nullable) values → AreIn (dictionary_of k values) nullable values
values_placed k nullable values h = of_found (dictionary_of k values) refl
  where
    of_found : (o : Option (List Datum)) → dictionary_of k values ≡ o → AreIn o nullable values
    of_found None e = tt
    of_found (Some ds) e = (dictionaries_fit_all k nullable values ds e h).0

pub dictionary_stands : (k : Kind) (values : List Datum) → All (CanStand k true) values → DictionaryStands k (dictionary_of k values)
dictionary_stands k values h = of_found (dictionary_of k values) refl
  where
    of_found : (o : Option (List Datum)) → dictionary_of k values ≡ o → DictionaryStands k o
    of_found None e = tt
    of_found (Some ds) e = (dictionaries_fit_all k true values ds e h).1
