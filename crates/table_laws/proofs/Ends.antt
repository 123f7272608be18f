-- What holds at the end of a run.
use Rattle.std.proofs.Common.{◌≡◌, inl, inr, ℕ, zero, suc, List, [], ◌++◌, refl, sym, ◌∙◌, ap, subst}
use Rattle.std.proofs.lemmas.List.{append-nil}
use Rattle.std.specs.Prelude.{Option, Some, None}
use Rattle.edge_api.specs.declared.call.Tag.{Tag}
use Rattle.edge_api.specs.Journal.{Moment, IsLegal, entries_of}
use Rattle.op_types.specs.declared.statement.Statement.{Statement}
use Rattle.op_types.specs.declared.reply.Reply.{Reply}
use Rattle.op_types.specs.declared.reply.Reply.TheVariants.{Committed as CommittedReply, Rows}
use Rattle.call_phases.specs.Phases.{Entries}
use Rattle.statement_calls.specs.declared.finish.Finish.{Finish}
use Rattle.statement_calls.specs.declared.finish.Kept.{Kept}
use Rattle.actor_core.specs.Entries.{own}
use Rattle.table_changes.specs.Table.{FileLine, reconciled, rows_in}
use Rattle.table_laws.specs.History.{body_of, meta_at, rows_of, history}
use Rattle.table_laws.specs.Runs.{kept_in, kept_at, kept_before, replies_of, BeginsWith, IsAnsweredPart, IsRun}
use Rattle.table_laws.specs.Laws.{VersionsAreSerial, FirstIsEmpty, FirstMakesTable, CommitsOnce, CommitsRead, FilesRead, FilesComeFirst, CommitsLand, RepliesCommitted, RepliesRead}
use Rattle.table_laws.specs.Folded.{RowsAreFolded}
use Rattle.table_laws.specs.Views.{NamesPutOnce}
use Rattle.table_laws.proofs.Sessions.{SessionKnows, KnownKept}
use Rattle.table_laws.proofs.Lawful.{ClaimOf}
use Rattle.table_laws.proofs.Known.{kept_more}
use Rattle.table_laws.proofs.Statements.{answered_lawful}
use Rattle.table_laws.proofs.Kept.{answered_known}
use Rattle.table_laws.proofs.Shown.{InPut, own_got, got_at, stored_at}
use Rattle.table_laws.proofs.Standing.{Keeps, KeepsPart, nothing_stands}
use Rattle.table_laws.proofs.Journals.{StandsAt, stands_at}
use Rattle.table_laws.proofs.Readings.{empty_first}
use Rattle.table_laws.proofs.Once.{makes_table, once}
use Rattle.table_laws.proofs.Serial.{commits_read, files_read, files_first, step, lands, has_read}
use Rattle.table_laws.proofs.Owners.{has_committed}
use Rattle.table_laws.proofs.Folded.{rows_folded}

module _ (limit : ℕ) (script : Tag → Option Statement) (outcomes : Tag → Option Finish) (moments : List Moment) (legal : IsLegal [] 0 moments) (run : IsRun limit script outcomes (entries_of moments)) where
  abbrev journal : Entries
  journal = entries_of moments

  abbrev K : Tag → List ℕ → List ℕ → Type 0
  K = SessionKnows journal

  part_kept : (t : Tag) (kept : Option Kept) → KnownKept (K t) kept → (s : Option Statement) → IsAnsweredPart limit t kept s (own t journal) (outcomes t) → KnownKept (K t) (kept_in (outcomes t))
  part_kept t kept held None h = subst (λ (o : Option Finish). KnownKept (K t) (kept_in o)) (sym h.1) tt
  part_kept t kept held (Some statement) h = answered_known (K t) t limit kept held statement (own t journal) (outcomes t) (λ n b got. (t, refl, inl got)) h

  begun_known : (t : Tag) (kept : Option Kept) → KnownKept (K t) (kept_before outcomes t) → BeginsWith outcomes t kept → KnownKept (K t) kept
  begun_known t kept held (inl none) = subst (KnownKept (K t)) (sym none) tt
  begun_known t kept held (inr same) = subst (KnownKept (K t)) (sym same) held

  -- what a session keeps is the table of its versions, by what it knows
  kept_known : (t : Tag) (n : ℕ) → KnownKept (K t) (kept_at outcomes t.actor n)
  kept_known t zero = tt
  kept_known t (suc n) =
      let u : Tag = record { actor = t.actor; statement = n } in
      let a = run.answered u in
      kept_more (K u) (K t) (λ n b k. (k.0, k.1, k.2)) (kept_in (outcomes u)) (part_kept u a.0 (begun_known u a.0 (kept_known u n) a.1) (script u) a.2)

  pub keeps_answered : Keeps K script (replies_of outcomes) run.tags [] journal
  keeps_answered t = part (run.answered t).0 (begun_known t (run.answered t).0 (kept_known t t.statement) (run.answered t).1) (script t) refl (run.answered t).2
    where
      part : (kept : Option Kept) → KnownKept (K t) kept → (s : Option Statement) → script t ≡ s → IsAnsweredPart limit t kept s (own t journal) (outcomes t) → KeepsPart K script (replies_of outcomes) run.tags t s (replies_of outcomes t) [] (own t journal)
      part kept held None e h = h.0
      part kept held (Some statement) e h =
          answered_lawful (K t) t limit run.limited kept held statement (λ rows is. run.faithful t rows (e ∙ ap (λ (s : Statement). Some s) is)) (own t journal) (outcomes t) h

  -- what stands after a part of the moments
  pub stands_after : (before rest : List Moment) → moments ≡ before ++ rest → StandsAt K script (replies_of outcomes) run.tags [] [] [] 0 before rest
  stands_after before rest parts =
      stands_at K script (replies_of outcomes) run.tags before rest [] [] [] 0 (nothing_stands K script (replies_of outcomes) run.tags) (subst (IsLegal [] 0) parts legal)
      (subst (λ (ms : List Moment). Keeps K script (replies_of outcomes) run.tags [] (entries_of ms)) parts keeps_answered)

  abbrev at_end : Type 0
  at_end = StandsAt K script (replies_of outcomes) run.tags [] [] [] 0 moments []

  pub run_end : at_end
  run_end = stands_after moments [] (sym (append-nil moments))

  -- what a session knows was put by the end
  pub known_at : (e : at_end) (t : Tag) (n b : List ℕ) → K t n b → InPut (history [] moments) n b
  known_at e t n b k = elim k.2 [
    | inl got ↦ (e.stands).got n b (own_got k.0 e.past n b (got_at k.0 e.past journal n b e.is got))
    | inr kept ↦ let p = (e.stands).stored k.0 n b (stored_at k.0 e.past journal n b e.is kept) in ap body_of p.is ∙ ap (λ (b : List ℕ). Some b) p.body
  ]

  -- what the reply of a statement claims holds at the end
  pub claims : (e : at_end) (t : Tag) (st : Statement) (reply : Reply) → script t ≡ Some st → replies_of outcomes t ≡ Some reply → ClaimOf (K t) t st (own t e.past) reply
  claims e t st reply is_st is_reply =
      subst (λ (r : Option Reply). KeepsPart K script (replies_of outcomes) run.tags t (Some st) r (own t e.past) []) is_reply
      (subst (λ (o : Option Statement). KeepsPart K script (replies_of outcomes) run.tags t o (replies_of outcomes t) (own t e.past) []) is_st (e.keeps t))

module _ (limit : ℕ) (script : Tag → Option Statement) (outcomes : Tag → Option Finish) (moments : List Moment) (legal : IsLegal [] 0 moments) (run : IsRun limit script outcomes (entries_of moments)) where
  pub serial_at : VersionsAreSerial script moments
  serial_at v small is =
      let e = run_end limit script outcomes moments legal run in
      step (SessionKnows (entries_of moments)) script (replies_of outcomes) run.tags e.past e.os (history [] moments) e.clock e.stands (known_at limit script outcomes moments legal run e) (entries_of moments) e.is v small is

  pub folded_at : RowsAreFolded script moments
  folded_at v small is none =
      let e = run_end limit script outcomes moments legal run in
      rows_folded (SessionKnows (entries_of moments)) script (replies_of outcomes) run.tags e.past e.os (history [] moments) e.clock e.stands (known_at limit script outcomes moments legal run e) (entries_of moments) e.is v small is none

  pub names_at : NamesPutOnce moments
  names_at = ((run_end limit script outcomes moments legal run).stands).names

  pub once_at : CommitsOnce moments
  once_at v w p q small also is there same =
      let e = run_end limit script outcomes moments legal run in
      once (SessionKnows (entries_of moments)) script (replies_of outcomes) run.tags e.past e.os (history [] moments) e.clock e.stands v w p q small also is there same

  pub first_at : FirstMakesTable script moments
  first_at p is =
      let e = run_end limit script outcomes moments legal run in
      makes_table (SessionKnows (entries_of moments)) script (replies_of outcomes) run.tags e.past e.os (history [] moments) e.clock e.stands p is

  pub commits_at : CommitsRead moments
  commits_at v k small is le =
      let e = run_end limit script outcomes moments legal run in
      commits_read (SessionKnows (entries_of moments)) script (replies_of outcomes) run.tags e.past e.os (history [] moments) e.clock e.stands (known_at limit script outcomes moments legal run e) v k small is le

  pub files_at : FilesRead moments
  files_at v small is =
      let e = run_end limit script outcomes moments legal run in
      files_read (SessionKnows (entries_of moments)) script (replies_of outcomes) run.tags e.past e.os (history [] moments) e.clock e.stands (known_at limit script outcomes moments legal run e) v small is

  pub first_files_at : FilesComeFirst moments
  first_files_at v p small is =
      let e = run_end limit script outcomes moments legal run in
      files_first (SessionKnows (entries_of moments)) script (replies_of outcomes) run.tags e.past e.os (history [] moments) e.clock e.stands (known_at limit script outcomes moments legal run e) v p small is

  pub lands_at : CommitsLand moments
  lands_at v p small is =
      let e = run_end limit script outcomes moments legal run in
      lands (SessionKnows (entries_of moments)) script (replies_of outcomes) run.tags e.past e.os (history [] moments) e.clock e.stands (known_at limit script outcomes moments legal run e) (entries_of moments) e.is v p small is

  pub committed_at : RepliesCommitted script (replies_of outcomes) moments
  committed_at t st version read attempts checkpoint is_st is_reply =
      let e = run_end limit script outcomes moments legal run in
      let claim = claims limit script outcomes moments legal run e t st (CommittedReply version read attempts checkpoint) is_st is_reply in (
        (claim.is_insert).0,
        (claim.is_insert).1,
        has_committed (SessionKnows (entries_of moments)) script (replies_of outcomes) run.tags e.past e.os (history [] moments) e.clock e.stands (known_at limit script outcomes moments legal run e) (entries_of moments) e.is t st
            is_st version read attempts claim,
      )

  pub read_at : RepliesRead script (replies_of outcomes) moments
  read_at t st version given read live_files is_st is_reply =
      let e = run_end limit script outcomes moments legal run in
      let claim = claims limit script outcomes moments legal run e t st (Rows version given read live_files) is_st is_reply in (
        claim.is_select,
        has_read (SessionKnows (entries_of moments)) script (replies_of outcomes) run.tags e.past e.os (history [] moments) e.clock e.stands (known_at limit script outcomes moments legal run e) (entries_of moments) e.is t st
            version given read live_files claim,
      )

pub first_is_empty : (moments : List Moment) → FirstIsEmpty moments
first_is_empty moments = ap (λ (ls : List FileLine). rows_in (rows_of (history [] moments) (meta_at (history [] moments) 0)) (reconciled [] ls)) (empty_first (history [] moments))
