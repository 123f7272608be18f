-- When puts land, at each moment of a run.
use Rattle.std.proofs.Common.{sym, ◌∙◌, arith}
use Rattle.std.specs.Prelude.{ℕ, List, [], Option}
use Rattle.edge_api.specs.declared.call.Tag.{Tag}
use Rattle.edge_api.specs.Journal.{Moment, IsLegal, entries_of}
use Rattle.op_types.specs.declared.statement.Statement.{Statement}
use Rattle.statement_calls.specs.declared.finish.Finish.{Finish}
use Rattle.table_laws.specs.Runs.{listed_by, told_by, IsRun}
use Rattle.table_laws.specs.Starts.{AtEachMoment, PutsFollowStarts, NewerLandLater}
use Rattle.table_laws.proofs.Shown.{given_is, some_same}
use Rattle.table_laws.proofs.Ends.{stands_after}

module _ (limit : ℕ) (script : Tag → Option Statement) (outcomes : Tag → Option Finish) (moments : List Moment) (legal : IsLegal [] 0 moments) (run : IsRun limit script outcomes (entries_of moments)) where
  pub starts_at : AtEachMoment PutsFollowStarts moments
  starts_at before after parts name p is =
      let r = stands_after limit script outcomes moments legal run before after parts in
      let k = (r.stands).since name p is in
      (k.start, sym (given_is told_by p.tag r.past (entries_of before) r.is) ∙ k.started, k.before)

  pub later_at : AtEachMoment NewerLandLater moments
  later_at before after parts tag read start v p reads started above small is =
      let r = stands_after limit script outcomes moments legal run before after parts in
      let k = (r.stands).lists tag read (given_is listed_by tag r.past (entries_of before) r.is ∙ reads) in
      let same = some_same k.start start (sym k.started ∙ given_is told_by tag r.past (entries_of before) r.is ∙ started) in
      let le = k.later v p above small is in
      omega (arith, same, le)
