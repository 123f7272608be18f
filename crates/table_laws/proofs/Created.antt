-- What a reply says that a table was made.
use Rattle.std.proofs.Common.{◌≡◌, ◌⊎◌, inl, inr, ℕ, List, [], ◌∷◌, sym, ◌∙◌, ap, subst}
use Rattle.std.specs.Prelude.{Option, Some}
use Rattle.edge_api.specs.declared.call.Tag.{Tag}
use Rattle.edge_api.specs.Journal.{Objects, Moment, IsLegal, entries_of}
use Rattle.op_types.specs.declared.statement.Statement.{Statement}
use Rattle.op_types.specs.declared.reply.Reply.{Reply}
use Rattle.op_types.specs.declared.reply.Reply.TheVariants.{Created}
use Rattle.table_rules.specs.Names.{commit_text}
use Rattle.table_rules.specs.Told.{IsTag}
use Rattle.line_texts.specs.Texts.{text_of_columns}
use Rattle.call_phases.specs.Phases.{Entries}
use Rattle.statement_calls.specs.declared.finish.Finish.{Finish}
use Rattle.statement_calls.specs.Answered.{names_of}
use Rattle.actor_core.specs.Entries.{own}
use Rattle.table_laws.specs.History.{Put, history, put_under, body_of}
use Rattle.table_laws.specs.Runs.{replies_of, IsRun}
use Rattle.table_laws.proofs.Sessions.{SessionKnows, GotIn, StoredIn}
use Rattle.table_laws.specs.Refused.{FaultedIn}
use Rattle.table_laws.specs.Laws.{HasCreated, RepliesCreated}
use Rattle.table_laws.proofs.Lawful.{ClaimsCreated}
use Rattle.table_laws.proofs.Shown.{backwards, own_got, put_of_body, some_same}
use Rattle.table_laws.proofs.Standing.{Stands}
use Rattle.table_laws.proofs.Tries.{put_turned}
use Rattle.table_laws.proofs.Refused.{put_faulted}
use Rattle.table_laws.proofs.Ends.{run_end, claims}

module _ (K : Tag → List ℕ → List ℕ → Type 0) (script : Tag → Option Statement) (replies : Tag → Option Reply) (tags : (tag : Tag) (statement : Statement) → script tag ≡ Some statement → IsTag tag)
    (past : Entries) (os : Objects) (ps : List Put) (clock : ℕ) (s : Stands K script replies tags past os ps clock) (journal : Entries) (is_past : past ≡ backwards [] journal) where
  -- version 0 as the statement that made it finds it
  record Made (t : Tag) (text : List ℕ) : Type 0 where
    by : Put
    is_by : put_under ps (commit_text 0) ≡ Some by
    is_text : by.body ≡ text
    is_tag : (by.tag ≡ t) ⊎ FaultedIn (own t journal) (commit_text 0) by.body

  made : (t : Tag) (text : List ℕ) → StoredIn (own t past) (commit_text 0) text ⊎ (GotIn (own t past) (commit_text 0) text × FaultedIn (own t journal) (commit_text 0) text) → Made t text
  made t text (inl kept) = let b = s.stored t (commit_text 0) text kept in record { by = b.put; is_by = b.is; is_text = b.body; is_tag = inl b.tag }
  made t text (inr found) =
      let put = s.got (commit_text 0) text (own_got t past (commit_text 0) text found.0) in
      let q = put_of_body (put_under ps (commit_text 0)) text put in
      let same : (q.0).body ≡ text = some_same (q.0).body text (sym (ap body_of q.1) ∙ put) in
      record { by = q.0; is_by = q.1; is_text = same; is_tag = inr (subst (λ (b : List ℕ). FaultedIn (own t journal) (commit_text 0) b) (sym same) found.1) }

  pub has_created : (t : Tag) (statement : Statement) (c : ClaimsCreated statement (own t past)) → HasCreated journal ps t c.spec
  has_created t statement c =
      let text = text_of_columns (names_of (c.spec).columns) in
      let m = made t text (elim c.there [ inl kept ↦ inl kept | inr found ↦ inr (found.0, put_faulted t past journal (commit_text 0) text is_past found.1) ]) in
      record { puts = put_turned t past journal (0 ∷ []) is_past c.puts; by = m.by; is_by = m.is_by; text = m.is_text; is_tag = m.is_tag }

pub created_at : (limit : ℕ) (script : Tag → Option Statement) (outcomes : Tag → Option Finish) (moments : List Moment) → IsLegal [] 0 moments → IsRun limit script outcomes (entries_of moments)
    → RepliesCreated script (replies_of outcomes) moments
created_at limit script outcomes moments legal run t st is_st is_reply =
    let e = run_end limit script outcomes moments legal run in
    let claim = claims limit script outcomes moments legal run e t st Created is_st is_reply in
    (claim.spec, claim.is_table, has_created (SessionKnows (entries_of moments)) script (replies_of outcomes) run.tags e.past e.os (history [] moments) e.clock e.stands (entries_of moments) e.is t st claim)
