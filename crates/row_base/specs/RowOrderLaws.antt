-- The order of rows is total.
use Rattle.std.specs.Prelude.{◌≡◌, ℕ, ℤ, pos, Bool, false, List, []}
use mathlib.Core.Path.{refl, subst}
use Rattle.std.specs.declared.cmp.Ordering.{Ordering}
use Rattle.std.specs.declared.cmp.Ordering.TheVariants.{Less, Equal, Greater}
use Rattle.std.specs.Cmp.{IsTotalOrder, IsEquivalence, nat_cmp_total, int_cmp_total, bool_cmp_total, on_total, then_total, eq_by_cmp_equiv}
use Rattle.std.specs.Cmp.Lexicographic.{slice_cmp, nat_list_cmp_total, lists_total}
use Rattle.std.specs.Ordering.{nat_cmp, int_cmp, bool_cmp, on, then_cmp, ordering_then}
use Rattle.row_base.specs.declared.row.Datum.{Datum}
use Rattle.row_base.specs.declared.row.Datum.TheVariants.{Null, Long, Integer, Boolean, Text, Date}
use Rattle.row_base.specs.RowOrder.{rank_of, datum_cmp, row_cmp, row_eq}

-- the number, the flag and the text that a datum holds
abbrev number_of : Datum → ℤ
number_of (Long n) = n
number_of (Integer n) = n
number_of (Date n) = n
number_of d = pos 0

abbrev flag_of : Datum → Bool
flag_of (Boolean b) = b
flag_of d = false

abbrev text_of : Datum → List ℕ
text_of (Text t) = t
text_of d = []

-- the same order, by the variant's place and then by what the datum holds
abbrev by_parts : Datum → Datum → Ordering
by_parts = then_cmp (on rank_of nat_cmp) (then_cmp (on number_of int_cmp) (then_cmp (on flag_of bool_cmp) (on text_of (slice_cmp nat_cmp))))

by_parts_total : IsTotalOrder by_parts
by_parts_total =
    then_total (on_total rank_of nat_cmp_total)
    (then_total (on_total number_of int_cmp_total) (then_total (on_total flag_of bool_cmp_total) (on_total text_of nat_list_cmp_total)))

then-Equal : (r : Ordering) → ordering_then r Equal ≡ r
then-Equal Less = refl
then-Equal Equal = refl
then-Equal Greater = refl

same_order : (x y : Datum) → by_parts x y ≡ datum_cmp x y
same_order Null Null = refl
same_order Null (Long y) = refl
same_order Null (Integer y) = refl
same_order Null (Boolean y) = refl
same_order Null (Text y) = refl
same_order Null (Date y) = refl
same_order (Long x) (Long y) = then-Equal (int_cmp x y)
same_order (Integer x) (Integer y) = then-Equal (int_cmp x y)
same_order (Boolean x) (Boolean y) = then-Equal (bool_cmp x y)
same_order (Text x) (Text y) = refl
same_order (Date x) (Date y) = then-Equal (int_cmp x y)
same_order x y = refl

pub datum_cmp_total : IsTotalOrder datum_cmp
datum_cmp_total = subst IsTotalOrder (λ i x y. same_order x y i) by_parts_total

pub row_cmp_total : IsTotalOrder row_cmp
row_cmp_total = lists_total datum_cmp_total

pub row_eq_equivalence : IsEquivalence row_eq
row_eq_equivalence = eq_by_cmp_equiv row_cmp_total
