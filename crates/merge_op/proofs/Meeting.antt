-- What is under each key once one of them is met.
use Rattle.std.proofs.Common.{◌≡◌, Bool, true, false, cond, List, refl, sym, ap, ◌∙◌}
use Rattle.std.specs.Prelude.{Option, Some, None}
use Rattle.std.specs.BTreeMap.{BTreeMap, get}
use Rattle.row_base.specs.RowOrder.{row_cmp, row_eq}
use Rattle.row_base.specs.declared.row.Datum.{Datum}
use Rattle.row_base.proofs.RowOrder.{row_decides}
use Rattle.merge_op.specs.declared.keys.Found.{Found}
use Rattle.merge_op.specs.Found.{once_met, met_by}

abbrev Row : Type 0
Row = List Datum

pub met_there : (m n : BTreeMap Row Found) (key : Row) (f : Found) → get row_cmp m key ≡ Some f → ((q : Row) → get row_cmp n q ≡ cond (row_eq key q) (Some (once_met f)) (get row_cmp m q))
    → (q : Row) → get row_cmp n q ≡ met_by (row_eq key q) (get row_cmp m q)
met_there m n key f there updates q = updates q ∙ by (row_eq key q) (λ e. ap (λ (k : Row). get row_cmp m k) (sym ((row_decides key q).0 e)) ∙ there)
  where
    by : (b : Bool) → (b ≡ true → get row_cmp m q ≡ Some f) → cond b (Some (once_met f)) (get row_cmp m q) ≡ met_by b (get row_cmp m q)
    by true found = sym (ap (met_by true) (found refl))
    by false found = refl

pub met_nowhere : (m n : BTreeMap Row Found) (key : Row) → get row_cmp m key ≡ None → n ≡ m → (q : Row) → get row_cmp n q ≡ met_by (row_eq key q) (get row_cmp m q)
met_nowhere m n key there same q = ap (λ (k : BTreeMap Row Found). get row_cmp k q) same ∙ by (row_eq key q) (λ e. ap (λ (k : Row). get row_cmp m k) (sym ((row_decides key q).0 e)) ∙ there)
  where
    by : (b : Bool) → (b ≡ true → get row_cmp m q ≡ None) → get row_cmp m q ≡ met_by b (get row_cmp m q)
    by true absent = absent refl ∙ sym (ap (met_by true) (absent refl))
    by false absent = refl
