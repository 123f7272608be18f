-- What a file's facts say of a predicate.
use Rattle.std.specs.Prelude.{ℕ, ◌&&◌, ◌||◌, not, List, [], ◌∷◌, Bool, true, false, Option, Some, None, option_map, slice_index_or}
use Rattle.std.specs.declared.cmp.Ordering.{Ordering}
use Rattle.std.specs.Ordering.{is_eq, is_lt, is_le, is_gt, is_ge}
use Rattle.row_base.specs.declared.row.Datum.{Datum}
use Rattle.row_base.specs.declared.row.Datum.TheVariants as datum
use Rattle.row_base.specs.RowOrder.{datum_cmp}
use Rattle.predicates.specs.declared.truth.Truth.TheVariants.{Yes, No, Unknown}
use Rattle.predicates.specs.declared.pred.Op.{Op}
use Rattle.predicates.specs.declared.pred.Op.TheVariants as op
use Rattle.predicates.specs.declared.pred.Operand.{Operand}
use Rattle.predicates.specs.declared.pred.Operand.TheVariants as operand
use Rattle.predicates.specs.declared.pred.Pred.{Pred, fold-Pred}
use Rattle.predicates.specs.declared.pred.Pred.TheOpen.{Pred-F}
use Rattle.predicates.specs.Kleene.{kleene_not, kleene_and, kleene_or}
use Rattle.prune.specs.declared.possible.Possible.{Possible}
use Rattle.prune.specs.declared.column.ColumnFacts.{ColumnFacts}
use Rattle.prune.specs.Sets.{images, pairs, only}

-- no bound is known, or its order passes the test
abbrev pub if_known : (Ordering → Bool) → Option Ordering → Bool
if_known test None = true
if_known test (Some o) = test o

-- a bound is known, and it is the literal
abbrev pub is_at : Option Ordering → Bool
is_at None = false
is_at (Some o) = is_eq o

-- by the orders of the bounds to the literal, a value may be the literal
abbrev pub may_be_at : Option Ordering → Option Ordering → Bool
may_be_at lo hi = if_known is_le lo && if_known is_ge hi

-- and it may be another
abbrev pub may_be_elsewhere : Option Ordering → Option Ordering → Bool
may_be_elsewhere lo hi = not (is_at lo && is_at hi)

-- an operator may hold of a value and the literal
abbrev pub may_hold : Op → Option Ordering → Option Ordering → Bool
may_hold op.Eq lo hi = may_be_at lo hi
may_hold op.Ne lo hi = may_be_elsewhere lo hi
may_hold op.Lt lo hi = if_known is_lt lo
may_hold op.Le lo hi = if_known is_le lo
may_hold op.Gt lo hi = if_known is_gt hi
may_hold op.Ge lo hi = if_known is_ge hi

-- the operator that holds where this one doesn't
abbrev pub opposite : Op → Op
opposite op.Eq = op.Ne
opposite op.Ne = op.Eq
opposite op.Lt = op.Ge
opposite op.Le = op.Gt
opposite op.Gt = op.Le
opposite op.Ge = op.Lt

-- the order of a bound to a literal
abbrev pub against : Option Datum → Datum → Option Ordering
against bound x = option_map (λ b. datum_cmp b x) bound

-- a column compared with a literal
abbrev pub compared_by : ColumnFacts → Op → Datum → Possible
compared_by f o datum.Null = only Unknown
compared_by f o x =
    record {
      yes = f.can_be_value && may_hold o (against f.least x) (against f.greatest x);
      no = f.can_be_value && may_hold (opposite o) (against f.least x) (against f.greatest x);
      unknown = f.can_be_null;
    }

-- two columns compared
abbrev pub two_by : ColumnFacts → ColumnFacts → Possible
two_by f g =
    record {
      yes = f.can_be_value && g.can_be_value;
      no = f.can_be_value && g.can_be_value;
      unknown = f.can_be_null || g.can_be_null;
    }

-- a column that is asked for null
abbrev pub null_by : ColumnFacts → Possible
null_by f = record { yes = f.can_be_null; no = f.can_be_value; unknown = false }

-- of a column that the file hasn't got nothing is known
abbrev pub no_facts : ColumnFacts
no_facts = record { can_be_null = true; can_be_value = true; least = None; greatest = None }

-- the facts of the column at this place
abbrev pub facts_at : List ColumnFacts → ℕ → ColumnFacts
facts_at fs c = slice_index_or fs c no_facts

-- a column compared with another, or with a literal
abbrev pub operand_by : List ColumnFacts → Op → ℕ → Operand ℕ → Possible
operand_by fs o c (operand.Column d) = two_by (facts_at fs c) (facts_at fs d)
operand_by fs o c (operand.Literal x) = compared_by (facts_at fs c) o x

-- each column of the key is equal to its value
unfoldable pub key_by : List ColumnFacts → List ℕ → List Datum → Possible
key_by fs (c ∷ cs) (d ∷ ds) = pairs kleene_and (compared_by (facts_at fs c) op.Eq d) (key_by fs cs ds)
key_by fs cs ds = only Yes

-- the same of a key that there may be
abbrev pub key_if_there : List ColumnFacts → List ℕ → Option (List Datum) → Possible
key_if_there fs cs None = only No
key_if_there fs cs (Some ds) = key_by fs cs ds

-- one of the keys is the row's
unfoldable pub keys_by : List ColumnFacts → List ℕ → List (List Datum) → Possible
keys_by fs cs [] = only No
keys_by fs cs (k ∷ ks) = pairs kleene_or (key_by fs cs k) (keys_by fs cs ks)

-- one level, whose parts have their truths
abbrev pub possible_step : List ColumnFacts → Pred-F ℕ Possible → Possible
possible_step fs Pred-F.Always = only Yes
possible_step fs Pred-F.Never = only No
possible_step fs (Pred-F.Compare o c r) = operand_by fs o c r
possible_step fs (Pred-F.IsNull c) = null_by (facts_at fs c)
possible_step fs (Pred-F.Both p q) = pairs kleene_and p q
possible_step fs (Pred-F.Either p q) = pairs kleene_or p q
possible_step fs (Pred-F.Negation p) = images kleene_not p
possible_step fs (Pred-F.Keys cs ks) = keys_by fs cs ks

-- the truths that a predicate may have for the rows of a file
abbrev pub possible_in : List ColumnFacts → Pred ℕ → Possible
possible_in fs = fold-Pred ℕ Possible (possible_step fs)
