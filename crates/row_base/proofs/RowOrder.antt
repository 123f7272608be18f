-- The order of rows tells every two rows apart.
use Rattle.std.proofs.Common.{◌≡◌, ℤ, Bool, true, false, List, [], ◌∷◌, refl, sym, ◌∙◌, ap}
use Rattle.std.specs.declared.cmp.Ordering.{Ordering}
use Rattle.std.specs.declared.cmp.Ordering.TheVariants.{Less, Equal, Greater}
use Rattle.std.specs.Bool.{Decides}
use Rattle.std.specs.Cmp.{Equal-is}
use Rattle.std.specs.Cmp.Lexicographic.{slice_cmp, texts_ties, bytes_decides}
use Rattle.std.specs.Ordering.{int_cmp, bool_cmp, ordering_then, is_eq}
use Rattle.std.proofs.lemmas.Cmp.{int_ranked, tied_itself}
use Rattle.row_base.specs.declared.row.Datum.{Datum}
use Rattle.row_base.specs.declared.row.Datum.TheVariants.{Null, Long, Integer, Boolean, Text, Date}
use Rattle.row_base.specs.RowOrder.{row_eq, datum_cmp, row_cmp, IsToldApart}
use Rattle.row_base.specs.RowOrderLaws.{row_cmp_total}

int_apart : (x y : ℤ) → int_cmp x y ≡ Equal → x ≡ y
int_apart x y e = int_ranked x y Equal (sym e)

bool_apart : (x y : Bool) → bool_cmp x y ≡ Equal → x ≡ y
bool_apart true true e = refl
bool_apart false false e = refl
bool_apart true false e = cc
bool_apart false true e = cc

pub datum_apart : IsToldApart datum_cmp
datum_apart Null Null e = refl
datum_apart Null (Long y) e = cc
datum_apart Null (Integer y) e = cc
datum_apart Null (Boolean y) e = cc
datum_apart Null (Text y) e = cc
datum_apart Null (Date y) e = cc
datum_apart (Long x) (Long y) e = ap Long (int_apart x y e)
datum_apart (Integer x) (Integer y) e = ap Integer (int_apart x y e)
datum_apart (Boolean x) (Boolean y) e = ap Boolean (bool_apart x y e)
datum_apart (Text x) (Text y) e = ap Text ((bytes_decides x y).0 (texts_ties x y ∙ ap is_eq e))
datum_apart (Date x) (Date y) e = ap Date (int_apart x y e)
datum_apart x y e = cc

first_equal : (r s : Ordering) → ordering_then r s ≡ Equal → r ≡ Equal
first_equal Equal s e = refl
first_equal Less s e = cc
first_equal Greater s e = cc

second_equal : (r s : Ordering) → ordering_then r s ≡ Equal → s ≡ Equal
second_equal Equal s e = e
second_equal Less s e = cc
second_equal Greater s e = cc

-- lists of values that are told apart
lists_apart : {A : Type 0} (order : A → A → Ordering) → IsToldApart order → IsToldApart (slice_cmp order)
lists_apart order apart [] [] e = refl
lists_apart order apart [] (y ∷ ys) e = cc
lists_apart order apart (x ∷ xs) [] e = cc
lists_apart order apart (x ∷ xs) (y ∷ ys) e =
    let p = apart x y (first_equal (order x y) (slice_cmp order xs ys) e) in
    let q = lists_apart order apart xs ys (second_equal (order x y) (slice_cmp order xs ys) e) in
    λ i. p i ∷ q i

pub row_apart : IsToldApart row_cmp
row_apart = lists_apart datum_cmp datum_apart

-- the test on rows decides their equality
pub row_decides : (x y : List Datum) → Decides (row_eq x y) (x ≡ y)
row_decides x y = (
  λ e. row_apart x y ((Equal-is (row_cmp x y)).0 e),
  λ e. ap (λ z. is_eq (row_cmp x z)) (sym e) ∙ (Equal-is (row_cmp x x)).1 (tied_itself row_cmp_total x),
)
