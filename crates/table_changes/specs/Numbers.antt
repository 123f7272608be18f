-- A table at the weaker level with an application's transactions: two inserts with the numbers 5 and 9, and a check of all rows, which is at the
-- stricter level and sets what it checked.
use Rattle.std.specs.Prelude.{◌≡◌, ℕ, zero, suc, ◌<◌, Bool, true, false, List, [], ◌∷◌, Some, None, codes}
use Rattle.table_changes.specs.Table.{Commit, MetaData, Serializable, WriteSerializable, live_by, lines_of, number_by}
use Rattle.table_changes.specs.Conflicts.{Append, Transaction, first_clash}
use Rattle.table_changes.specs.Operations.{Operation, reads_of}
use Rattle.table_changes.specs.Laws.{rows_at, level_at, level_for, Landed}
use Rattle.table_changes.specs.Statements.{insert_of, check_of}
use Rattle.table_changes.specs.Example.{passes, may, row, first_file, second_file, view, commit, metadata, makes}

abbrev pub app : List ℕ
app = 7 ∷ []

-- the metadata with a check of all rows
abbrev pub checked : MetaData
checked = metadata [] (record { name = codes "delta.constraints.known"; value = codes "id IS NOT NULL" } ∷ [])

abbrev pub commits : ℕ → Commit
commits zero = makes (metadata [] [])
commits (suc zero) = record (commit true (lines_of 0 true [] (first_file ∷ []))) { txns = (app, 5) ∷ [] }
commits (suc (suc zero)) = record (commit true (lines_of 0 true [] (second_file ∷ []))) { txns = (app, 9) ∷ [] }
commits (suc (suc (suc k))) = record (commit false []) { meta = Some checked }

abbrev pub ops : ℕ → Operation Bool
ops zero = insert_of false (row 1 ∷ [])
ops (suc zero) = insert_of false (row 2 ∷ [])
ops (suc (suc k)) = check_of passes may true (λ x. true) (λ meta. Some checked)

pub record NumbersRise : Type 0 where
  pub facts : (k : ℕ) → k < 3 → Landed passes may commits view k
  pub is_op : (k : ℕ) (lt : k < 3) → (facts k lt).op ≡ ops k
  pub five : (lt : 0 < 3) → (facts 0 lt).txn ≡ Some (app, 5)
  pub nine : (lt : 1 < 3) → (facts 1 lt).txn ≡ Some (app, 9)
  pub number : number_by commits app 3 ≡ Some 9
  -- the second insert would have clashed with the first, had it read the version before it
  pub same_app : first_clash (reads_of passes may WriteSerializable (Some app) (view.rows None) (ops 1) (live_by commits 0)) (commits 1) ≡ Some (Transaction app)
  -- the check is at the stricter level, though the table isn't, so it would have clashed with the second insert
  pub weaker : level_at passes may commits view 1 ≡ WriteSerializable
  pub stricter : level_for passes may commits view (ops 2) 1 ≡ Serializable
  pub checked : first_clash (reads_of passes may (level_for passes may commits view (ops 2) 1) None (view.rows None) (ops 2) (live_by commits 1)) (commits 2) ≡ Some (Append (98 ∷ []))
  pub left : rows_at passes may commits view 3 ≡ row 1 ∷ row 2 ∷ []
