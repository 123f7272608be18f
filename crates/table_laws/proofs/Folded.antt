-- Where no operation up to a version can miss a row, the version is the fold of them: the law of changes (each_version_is_folded) at what a journal shows.
use Rattle.std.proofs.Common.{◌≡◌, ℕ, zero, suc, ◌≤◌, ◌<◌, ◌^◌, List, [], map, refl, sym, ◌∙◌, ap, subst, arith}
use Rattle.std.specs.Prelude.{Option, Some, None, option_and_then}
use Rattle.edge_api.specs.declared.call.Tag.{Tag}
use Rattle.edge_api.specs.Journal.{Objects}
use Rattle.op_types.specs.declared.statement.Statement.{Statement}
use Rattle.op_types.specs.declared.reply.Reply.{Reply}
use Rattle.table_rules.specs.Told.{IsTag}
use Rattle.call_phases.specs.Phases.{Entries}
use Rattle.table_changes.specs.Rows.{Row}
use Rattle.table_changes.specs.Operations.{Operation, SameIfGiven, operated}
use Rattle.table_changes.specs.Statements.{making_of}
use Rattle.table_changes.specs.Laws.{Landed, IsInOrder}
use Rattle.table_changes.specs.Laws.{folded as folded_ops}
use Rattle.table_changes.specs.Serial.{widened}
use Rattle.table_changes.proofs.Stays.{map_still, widened_still}
use Rattle.table_changes.proofs.Folded.{each_version_is_folded}
use Rattle.table_laws.specs.Commits.{schema_of}
use Rattle.table_laws.specs.Operations.{Scope, NoRow, passes, may}
use Rattle.table_laws.specs.History.{Put, commit_at, schema_at, view_of, rows_at, IsCommitted}
use Rattle.table_laws.specs.Laws.{operation_at, appended}
use Rattle.table_laws.specs.Folded.{done_by, folded, NoneMisses}
use Rattle.table_laws.proofs.Shown.{InPut, backwards}
use Rattle.table_laws.proofs.Standing.{Stands}
use Rattle.table_laws.proofs.Readings.{empty_first}
use Rattle.table_laws.proofs.Serial.{facts, is_appended, op_is, read_is, meta_is_kept}

-- an operation that is there; where none is, one that changes nothing
abbrev or_making : Option (Operation Scope) → Operation Scope
or_making None = making_of NoRow (λ meta. meta)
or_making (Some op) = op

module _ (K : Tag → List ℕ → List ℕ → Type 0) (script : Tag → Option Statement) (replies : Tag → Option Reply) (tags : (tag : Tag) (statement : Statement) → script tag ≡ Some statement → IsTag tag)
    (past : Entries) (os : Objects) (ps : List Put) (clock : ℕ) (s : Stands K script replies tags past os ps clock) (known : (t : Tag) (n b : List ℕ) → K t n b → InPut ps n b) (journal : Entries) (is_past : past ≡ backwards [] journal) where
  abbrev op_after : ℕ → Operation Scope
  op_after v = or_making (operation_at script journal ps (suc v))

  abbrev widen : ℕ → Row → Row
  widen v = widened (schema_at ps v) (schema_at ps (suc v))

  module _ (top : ℕ) (small : top < 2 ^ 64) (is : IsCommitted ps top) (none : NoneMisses script journal ps top) where
    abbrev facts_of : (k : ℕ) → k < top → Landed passes may (commit_at ps) (view_of ps) k
    facts_of = facts K script replies tags past os ps clock s known top small is

    op_there : (k : ℕ) (lt : k < top) → operation_at script journal ps (suc k) ≡ Some (facts_of k lt).op
    op_there k lt = op_is K script replies tags past os ps clock s known journal is_past top small is k lt

    in_order : (k : ℕ) (lt : k < top) → IsInOrder passes may (commit_at ps) (view_of ps) k (facts_of k lt)
    in_order k lt =
        let r = read_is K script replies tags past os ps clock s known journal is_past top small is k lt in
        none k lt r.0 r.1 (facts_of k lt).read r.2 (facts_of k lt).op (op_there k lt)

    -- both folds are one
    same_fold : (v : ℕ) → v ≤ top → folded script journal ps v ≡ folded_ops passes op_after (schema_at ps) v
    same_fold zero le = refl
    same_fold (suc v) le =
        let lt : v < top = omega arith in
        let op = (facts_of v lt).op in
        let there = op_there v lt in
        ap (λ (o : Option (List Row)). done_by (operation_at script journal ps (suc v)) o) (same_fold v (omega arith))
        ∙ ap (λ (o : Option (Operation Scope)). done_by o (folded_ops passes op_after (schema_at ps) v)) there
        ∙ same_done v lt op (folded_ops passes op_after (schema_at ps) v)
        ∙ ap (λ (o : Option (Operation Scope)). option_and_then (λ xs. operated passes (or_making o) (map (widen v) xs)) (folded_ops passes op_after (schema_at ps) v)) (sym there)
      where
        same_done : (v : ℕ) → v < top → (op : Operation Scope) (rows : Option (List Row)) → option_and_then (operated passes op) rows ≡ option_and_then (λ xs. operated passes op (map (widen v) xs)) rows
        same_done v lt op None = refl
        same_done v lt op (Some xs) = ap (operated passes op) (sym (map_still (widen v) (widened_still (schema_at ps v) (schema_at ps (suc v)) (ap schema_of (meta_is_kept K script replies tags past os ps clock s known journal is_past top small is v lt))) xs))

    pub rows_folded : SameIfGiven (Some (rows_at ps top)) (folded script journal ps top)
    rows_folded =
        subst (λ (o : Option (List Row)). SameIfGiven (Some (rows_at ps top)) o) (sym (same_fold top (omega arith)))
        (each_version_is_folded Scope passes may (commit_at ps) (view_of ps) top facts_of (appended script journal ps) op_after (empty_first ps)
        (is_appended K script replies tags past os ps clock s known journal is_past top small is) (λ k lt. ap or_making (op_there k lt)) in_order top (omega arith))
