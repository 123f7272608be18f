-- A comparison's truth is one of those that the facts leave.
use Rattle.std.proofs.Common.{◌≡◌, Bool, true, false, not, ◌&&◌, Option, Some, None, refl, sym, ap, ◌∙◌}
use Rattle.std.specs.Prelude.{IfSome}
use Rattle.std.specs.declared.cmp.Ordering.{Ordering}
use Rattle.std.specs.declared.cmp.Ordering.TheVariants.{Less, Equal, Greater}
use Rattle.std.specs.Ordering.{ordering_then, ordering_reverse, is_le, is_lt, is_ge, is_gt, is_eq, is_ne}
use Rattle.row_base.specs.declared.row.Datum.{Datum}
use Rattle.row_base.specs.declared.row.Datum.TheVariants as datum
use Rattle.row_base.specs.RowOrder.{datum_cmp}
use Rattle.row_base.specs.RowOrderLaws.{datum_cmp_total}
use Rattle.predicates.specs.declared.truth.Truth.TheVariants.{Unknown}
use Rattle.predicates.specs.declared.pred.Op.{Op}
use Rattle.predicates.specs.declared.pred.Op.TheVariants as op
use Rattle.predicates.specs.Truths.{is_null, compared, certain, holds}
use Rattle.prune.specs.declared.possible.Possible.{Possible}
use Rattle.prune.specs.declared.column.ColumnFacts.{ColumnFacts}
use Rattle.prune.specs.Sets.{has, only}
use Rattle.prune.specs.Facts.{if_known, may_be_elsewhere, may_hold, opposite, against, compared_by, two_by, null_by}
use Rattle.prune.specs.Laws.{HoldsOf}
use Rattle.file_stats.proofs.Orders.{chained, le_lt, le_le, lt_le, lt-le, eq-le, gt-is, ge-is, eq-is}
use Rattle.prune.proofs.Sets.{or_true}

-- a value that is known to be at least lo, or of which no bound is known
abbrev AtLeast : Option Datum → Datum → Type 0
AtLeast bound d = IfSome bound (λ lo. is_le (datum_cmp lo d) ≡ true)

abbrev AtMost : Option Datum → Datum → Type 0
AtMost bound d = IfSome bound (λ hi. is_le (datum_cmp d hi) ≡ true)

lt_known : (lo : Option Datum) (d x : Datum) → AtLeast lo d → is_lt (datum_cmp d x) ≡ true → if_known is_lt (against lo x) ≡ true
lt_known None d x h e = refl
lt_known (Some lo) d x h e = ap is_lt (chained datum_cmp_total lo d x h (lt-le (datum_cmp d x) e)) ∙ le_lt (datum_cmp lo d) (datum_cmp d x) h e

le_known : (lo : Option Datum) (d x : Datum) → AtLeast lo d → is_le (datum_cmp d x) ≡ true → if_known is_le (against lo x) ≡ true
le_known None d x h e = refl
le_known (Some lo) d x h e = ap is_le (chained datum_cmp_total lo d x h e) ∙ le_le (datum_cmp lo d) (datum_cmp d x) h e

gt_known : (hi : Option Datum) (d x : Datum) → AtMost hi d → is_gt (datum_cmp d x) ≡ true → if_known is_gt (against hi x) ≡ true
gt_known None d x h e = refl
gt_known (Some hi) d x h e =
    let f : is_lt (datum_cmp x d) ≡ true = sym (gt-is datum_cmp_total d x) ∙ e in
    gt-is datum_cmp_total hi x ∙ ap is_lt (chained datum_cmp_total x d hi (lt-le (datum_cmp x d) f) h) ∙ lt_le (datum_cmp x d) (datum_cmp d hi) f h

ge_known : (hi : Option Datum) (d x : Datum) → AtMost hi d → is_ge (datum_cmp d x) ≡ true → if_known is_ge (against hi x) ≡ true
ge_known None d x h e = refl
ge_known (Some hi) d x h e =
    let f : is_le (datum_cmp x d) ≡ true = sym (ge-is datum_cmp_total d x) ∙ e in
    ge-is datum_cmp_total hi x ∙ ap is_le (chained datum_cmp_total x d hi f h) ∙ le_le (datum_cmp x d) (datum_cmp d hi) f h

-- both bounds at the literal leave no other value
between : (p q r : Ordering) → r ≡ ordering_then p q → is_le p ≡ true → is_eq r ≡ true → is_le q ≡ true → is_eq q ≡ true
between Less q r e f g h = absurd (cc)
between Equal q r e f g h = ap is_eq (sym e) ∙ g
between Greater q r e f g h = absurd (cc)

eq_from : (p : Ordering) → is_lt p ≡ false → is_le p ≡ true → is_eq p ≡ true
eq_from Less e f = cc
eq_from Equal e f = refl
eq_from Greater e f = cc

le_or : (p : Ordering) → is_ne p ≡ true → is_eq p ≡ true → false ≡ true
le_or Less e f = cc
le_or Equal e f = cc
le_or Greater e f = cc

elsewhere_by : (b c : Bool) → (b ≡ true → c ≡ true → false ≡ true) → not (b && c) ≡ true
elsewhere_by true true h = h refl refl
elsewhere_by true false h = refl
elsewhere_by false c h = refl

eq-ge : (p : Ordering) → is_eq p ≡ true → is_le (ordering_reverse p) ≡ true
eq-ge Less e = cc
eq-ge Equal e = refl
eq-ge Greater e = cc

one_value : (lo hi : Datum) (d x : Datum) → is_le (datum_cmp lo d) ≡ true → is_le (datum_cmp d hi) ≡ true → is_eq (datum_cmp lo x) ≡ true → is_eq (datum_cmp hi x) ≡ true → is_eq (datum_cmp d x) ≡ true
one_value lo hi d x a b e f =
    let up : is_le (datum_cmp d x) ≡ true =
    ap is_le (chained datum_cmp_total d hi x b (eq-le (datum_cmp hi x) f)) ∙ le_le (datum_cmp d hi) (datum_cmp hi x) b (eq-le (datum_cmp hi x) f) in
    between (datum_cmp lo d) (datum_cmp d x) (datum_cmp lo x) (chained datum_cmp_total lo d x a up) a e up

elsewhere : (lo hi : Option Datum) (d x : Datum) → AtLeast lo d → AtMost hi d → is_ne (datum_cmp d x) ≡ true → may_be_elsewhere (against lo x) (against hi x) ≡ true
elsewhere None hi d x a b e = refl
elsewhere (Some lo) None d x a b e = elsewhere_by (is_eq (datum_cmp lo x)) false (λ f g. g)
elsewhere (Some lo) (Some hi) d x a b e =
    elsewhere_by (is_eq (datum_cmp lo x)) (is_eq (datum_cmp hi x)) (λ f g. le_or (datum_cmp d x) e (one_value lo hi d x a b f g))

-- an operator that holds of a value within the bounds may hold by them
may : (o : Op) (lo hi : Option Datum) (d x : Datum) → AtLeast lo d → AtMost hi d → holds o (datum_cmp d x) ≡ true → may_hold o (against lo x) (against hi x) ≡ true
may op.Eq lo hi d x a b e =
    rw (le_known lo d x a (eq-le (datum_cmp d x) e), ge_known hi d x b (ge-is datum_cmp_total d x ∙ eq-le (datum_cmp x d) (sym (eq-is datum_cmp_total d x) ∙ e))) refl
may op.Ne lo hi d x a b e = elsewhere lo hi d x a b e
may op.Lt lo hi d x a b e = lt_known lo d x a e
may op.Le lo hi d x a b e = le_known lo d x a e
may op.Gt lo hi d x a b e = gt_known hi d x b e
may op.Ge lo hi d x a b e = ge_known hi d x b e

-- where an operator doesn't hold, its opposite does
otherwise : (o : Op) (p : Ordering) → holds o p ≡ false → holds (opposite o) p ≡ true
otherwise op.Eq Less e = refl
otherwise op.Eq Equal e = cc
otherwise op.Eq Greater e = refl
otherwise op.Ne Less e = cc
otherwise op.Ne Equal e = refl
otherwise op.Ne Greater e = cc
otherwise op.Lt Less e = cc
otherwise op.Lt Equal e = refl
otherwise op.Lt Greater e = refl
otherwise op.Le Less e = cc
otherwise op.Le Equal e = cc
otherwise op.Le Greater e = refl
otherwise op.Gt Less e = refl
otherwise op.Gt Equal e = refl
otherwise op.Gt Greater e = cc
otherwise op.Ge Less e = refl
otherwise op.Ge Equal e = cc
otherwise op.Ge Greater e = cc

-- the set of a value compared with a literal that isn't null
abbrev by_literal : ColumnFacts → Op → Datum → Possible
by_literal f o x =
    record {
      yes = f.can_be_value && may_hold o (against f.least x) (against f.greatest x);
      no = f.can_be_value && may_hold (opposite o) (against f.least x) (against f.greatest x);
      unknown = f.can_be_null;
    }

literal_is : (f : ColumnFacts) (o : Op) (x : Datum) → is_null x ≡ false → compared_by f o x ≡ by_literal f o x
literal_is f o datum.Null e = cc
literal_is f o (datum.Long n) e = refl
literal_is f o (datum.Integer n) e = refl
literal_is f o (datum.Boolean b) e = refl
literal_is f o (datum.Text t) e = refl
literal_is f o (datum.Date n) e = refl

literal_null : (f : ColumnFacts) (o : Op) (x : Datum) → is_null x ≡ true → compared_by f o x ≡ only Unknown
literal_null f o datum.Null e = refl
literal_null f o (datum.Long n) e = cc
literal_null f o (datum.Integer n) e = cc
literal_null f o (datum.Boolean b) e = cc
literal_null f o (datum.Text t) e = cc
literal_null f o (datum.Date n) e = cc

decided : (f : ColumnFacts) (o : Op) (x d : Datum) → HoldsOf f d → is_null d ≡ false → (b : Bool) → holds o (datum_cmp d x) ≡ b → has (by_literal f o x) (certain b) ≡ true
decided f o x d h n true e = rw (h.value n, may o f.least f.greatest d x (h.least n) (h.greatest n) e) refl
decided f o x d h n false e =
    rw (h.value n, may (opposite o) f.least f.greatest d x (h.least n) (h.greatest n) (otherwise o (datum_cmp d x) e)) refl

null_value : (f : ColumnFacts) (o : Op) (x : Datum) → f.can_be_null ≡ true → (b : Bool) → is_null x ≡ b → has (compared_by f o x) Unknown ≡ true
null_value f o x h true e = rw (literal_null f o x e) refl
null_value f o x h false e = rw (literal_is f o x e) h

pub literal_has : (f : ColumnFacts) (o : Op) (x d : Datum) → HoldsOf f d → has (compared_by f o x) (compared o d x) ≡ true
literal_has f o x d h = by (is_null d) (is_null x) refl refl
  where
    by : (n m : Bool) → is_null d ≡ n → is_null x ≡ m → has (compared_by f o x) (compared o d x) ≡ true
    by true m e g = rw e (null_value f o x (h.null e) m g)
    by false true e g = rw (e, g, literal_null f o x g) refl
    by false false e g = rw (e, g, literal_is f o x g) (decided f o x d h e (holds o (datum_cmp d x)) refl)

pub two_has : (f g : ColumnFacts) (o : Op) (d x : Datum) → HoldsOf f d → HoldsOf g x → has (two_by f g) (compared o d x) ≡ true
two_has f g o d x h k = by (is_null d) (is_null x) refl refl
  where
    sure : (b : Bool) → has (two_by f g) (certain b) ≡ (f.can_be_value && g.can_be_value)
    sure true = refl
    sure false = refl

    by : (n m : Bool) → is_null d ≡ n → is_null x ≡ m → has (two_by f g) (compared o d x) ≡ true
    by true m e u = rw (e, h.null e) refl
    by false true e u = rw (e, u, k.null u) (or_true f.can_be_null)
    by false false e u = rw (e, u) (sure (holds o (datum_cmp d x)) ∙ rw (h.value e, k.value u) refl)

pub null_has : (f : ColumnFacts) (d : Datum) → HoldsOf f d → has (null_by f) (certain (is_null d)) ≡ true
null_has f d h = by (is_null d) refl
  where
    by : (n : Bool) → is_null d ≡ n → has (null_by f) (certain (is_null d)) ≡ true
    by true e = rw e (h.null e)
    by false e = rw e (h.value e)
