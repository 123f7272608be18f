-- Facts on the lists of a script.
use Rattle.std.proofs.Common.{◌≡◌, ℕ, ◌<◌, ◌≤◌, List, length, map, All, sym, ◌∙◌, ap, subst, get_or, Vec, Global, arith}
use Rattle.std.proofs.lemmas.List.{length-map, get_or-map}
use Rattle.std.proofs.lemmas.List.Elements.{All-map}
use Rattle.actor_core.specs.declared.schedule.Item.{Item}
use Rattle.op_types.specs.declared.statement.Statement.{Statement}
use Rattle.script_text.specs.declared.script.SessionScript.{SessionScript}
use Rattle.row_base.specs.declared.limits.TheConstants.{MAX_STATEMENTS}
use Rattle.row_base.specs.declared.row.Datum.{Datum}
use Rattle.row_base.specs.declared.row.Datum.TheVariants as datum
use Rattle.op_types.specs.declared.statement.Statement.TheVariants as statement
use Rattle.script_text.specs.declared.script.Header.{Header}
use Rattle.script_text.specs.Places.{column_count, long_column, table_of}
use Rattle.script_text.specs.Fit as fit
use Rattle.script_text.specs.Fit.{IsFitSession, IsFitHeader}
use Rattle.session_runs.specs.Run.{IsLong, IsLongRow, IsPlain}

abbrev pub Lists : Type 0
Lists = List (Vec Statement Global)

-- what holds of the images holds of each
from_map : {X Y : Type 0} (P : Y → Type 0) (f : X → Y) (xs : List X) → All P (map f xs) → All (λ x. P (f x)) xs
from_map {X} {Y} P f xs all = λ k d within. subst P (get_or-map f xs k d (f d) within) (all k (f d) (subst (λ (n : ℕ). k < n) (sym (length-map xs f)) within))

-- each session has few statements
pub few_statements : (n : ℕ) (ss : List SessionScript) (vs : Lists) → map (λ (v : Vec Statement Global). v.items) vs ≡ map (λ (s : SessionScript). s.statements) ss
    → All (IsFitSession n) ss → All (λ (v : Vec Statement Global). length v.items ≤ MAX_STATEMENTS) vs
few_statements n ss vs same fit =
    let few : All (λ (l : List Statement). length l ≤ MAX_STATEMENTS) (map (λ (s : SessionScript). s.statements) ss) = All-map (λ (l : List Statement). length l ≤ MAX_STATEMENTS) (λ (s : SessionScript). s.statements) ss (λ k d within. (fit k d within).count) in
    from_map (λ (l : List Statement). length l ≤ MAX_STATEMENTS) (λ (v : Vec Statement Global). v.items) vs (subst (λ (ls : List (List Statement)). All (λ (l : List Statement). length l ≤ MAX_STATEMENTS) ls) (sym same) few)

pub as_many : (ss : List SessionScript) (vs : Lists) → map (λ (v : Vec Statement Global). v.items) vs ≡ map (λ (s : SessionScript). s.statements) ss → length ss ≡ length vs
as_many ss vs same = sym (length-map ss (λ (s : SessionScript). s.statements)) ∙ ap length (sym same) ∙ length-map vs (λ (v : Vec Statement Global). v.items)

-- each item is one of the sessions
pub items_within : (m n : ℕ) (is js : List Item) → m ≡ n → js ≡ is → All (λ (i : Item). (0 < i.actor) × (i.actor ≤ m)) is → All (λ (i : Item). (0 < i.actor) × (i.actor ≤ n)) js
items_within m n is js same items all = subst (λ (k : ℕ). All (λ (i : Item). (0 < i.actor) × (i.actor ≤ k)) js) same (subst (λ (l : List Item). All (λ (i : Item). (0 < i.actor) × (i.actor ≤ m)) l) (sym items) all)

-- a row of as many numbers as there are columns is one number or more
module _ (columns : ℕ) (some : 1 ≤ columns) where
  long_is : (d : Datum) → fit.IsLong d → IsLong d
  long_is (datum.Long n) h = h
  long_is datum.Null h = h
  long_is (datum.Integer n) h = h
  long_is (datum.Boolean b) h = h
  long_is (datum.Text t) h = h
  long_is (datum.Date d) h = h

  rows_are : (rows : List (List Datum)) → fit.AreFitRows columns rows → All IsLongRow rows
  rows_are rows f k d within = let long : length (get_or rows k d) ≡ columns = f.lengths k d within in (omega (arith, some, long), λ i e here. long_is (get_or (get_or rows k d) i e) (f.longs k d within i e here))

  plain_is : (st : Statement) → fit.IsFitStatement columns st → IsPlain st
  plain_is (statement.Insert rows) f = rows_are rows f
  plain_is statement.Select f = tt
  plain_is (statement.Table spec) f = absurd f

  -- each session's statements are plain
  pub plain_statements : (ss : List SessionScript) (vs : Lists) → map (λ (v : Vec Statement Global). v.items) vs ≡ map (λ (s : SessionScript). s.statements) ss → All (IsFitSession columns) ss
      → All (λ (v : Vec Statement Global). All IsPlain v.items) vs
  plain_statements ss vs same fits =
      let plain : All (λ (l : List Statement). All IsPlain l) (map (λ (s : SessionScript). s.statements) ss) =
      All-map (λ (l : List Statement). All IsPlain l) (λ (s : SessionScript). s.statements) ss (λ k d within i e here. plain_is (get_or (get_or ss k d).statements i e) ((fits k d within).each i e here)) in
      from_map (λ (l : List Statement). All IsPlain l) (λ (v : Vec Statement Global). v.items) vs (subst (λ (ls : List (List Statement)). All (λ (l : List Statement). All IsPlain l) ls) (sym same) plain)

-- a header has a column
pub some_columns : (h : Header) → IsFitHeader h → 1 ≤ column_count h
some_columns h f = subst (λ (x : Header). 1 ≤ column_count x) (sym f.table) (columns_of f.names f.some)
  where
    columns_of : (names : List (List ℕ)) → 1 ≤ length names → 1 ≤ column_count (table_of names)
    columns_of names h = subst (λ (n : ℕ). 1 ≤ n) (sym (length-map names long_column)) h
