-- The order of data and of rows.
use Rattle.std.specs.Prelude.{◌≡◌, ℕ, Bool, List}
use Rattle.std.specs.Ordering.{nat_cmp, int_cmp, bool_cmp, is_eq}
use Rattle.std.specs.declared.cmp.Ordering.{Ordering}
use Rattle.std.specs.declared.cmp.Ordering.TheVariants.{Equal}
use Rattle.std.specs.Cmp.Lexicographic.{slice_cmp}
use Rattle.row_base.specs.declared.row.Datum.{Datum}
use Rattle.row_base.specs.declared.row.Datum.TheVariants.{Null, Long, Integer, Boolean, Text, Date}

-- the place of a datum's variant among the variants
abbrev pub rank_of : Datum → ℕ
rank_of Null = 0
rank_of (Long n) = 1
rank_of (Integer n) = 2
rank_of (Boolean b) = 3
rank_of (Text t) = 4
rank_of (Date n) = 5

-- two data of one variant by their values, others by the order of the variants
abbrev pub datum_cmp : Datum → Datum → Ordering
datum_cmp (Long x) (Long y) = int_cmp x y
datum_cmp (Integer x) (Integer y) = int_cmp x y
datum_cmp (Boolean x) (Boolean y) = bool_cmp x y
datum_cmp (Text x) (Text y) = slice_cmp nat_cmp x y
datum_cmp (Date x) (Date y) = int_cmp x y
datum_cmp x y = nat_cmp (rank_of x) (rank_of y)

-- the first column that differs decides, and else the length
abbrev pub row_cmp : List Datum → List Datum → Ordering
row_cmp = slice_cmp datum_cmp

-- two rows are the same: the order does not tell them apart
abbrev pub row_eq : List Datum → List Datum → Bool
row_eq a b = is_eq (row_cmp a b)

-- an order that is equal at equal values alone
abbrev pub IsToldApart : {A : Type 0} → (A → A → Ordering) → Type 0
IsToldApart {A} order = (x y : A) → order x y ≡ Equal → x ≡ y
