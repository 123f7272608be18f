-- A refused statement has committed nothing, but where its refusal leaves that open.
use Rattle.std.proofs.Common.{◌≡◌, ◌⊎◌, inl, inr, ℕ, Bool, true, false, List, [], ◌∷◌, sym, ◌∙◌, ap, subst}
use Rattle.std.specs.Prelude.{Option, Some, if◌then◌else◌}
use Rattle.edge_api.specs.declared.call.Tag.{Tag}
use Rattle.edge_api.specs.declared.call.Answer.{Answer}
use Rattle.edge_api.specs.declared.call.Answer.TheVariants.{Fault}
use Rattle.edge_api.specs.Journal.{Objects, Moment, IsLegal, entries_of}
use Rattle.op_types.specs.declared.statement.Statement.{Statement}
use Rattle.op_types.specs.declared.refusal.Refusal.{Refusal}
use Rattle.op_types.specs.declared.reply.Reply.{Reply}
use Rattle.op_types.specs.declared.reply.Reply.TheVariants.{Refused}
use Rattle.table_rules.specs.Names.{commit_text}
use Rattle.table_rules.specs.Told.{IsTag}
use Rattle.call_phases.specs.Phases.{Entries}
use Rattle.edge_api.specs.Journal.{same_tag}
use Rattle.actor_core.specs.Entries.{own}
use Rattle.table_laws.specs.History.{Put, history, put_under, body_of}
use Rattle.statement_calls.specs.declared.finish.Finish.{Finish}
use Rattle.table_laws.specs.Runs.{replies_of, IsRun}
use Rattle.table_laws.proofs.Sessions.{SessionKnows}
use Rattle.table_laws.specs.Refused.{IsUnknown, FaultedIn, RefusedCommitNothing}
use Rattle.table_laws.proofs.Lawful.{PutIn, ClaimsNothing}
use Rattle.table_laws.proofs.Shown.{backwards, own_got, some_same}
use Rattle.table_laws.proofs.Standing.{Stands}
use Rattle.table_laws.proofs.Ends.{run_end, claims}

-- a put among the newest-first entries is one of those before, or of those in the order of the journal
put_back : (t : Tag) (past es : Entries) (n b : List ℕ) (a : Answer) → PutIn (own t (backwards past es)) n b a → PutIn (own t past) n b a ⊎ PutIn (own t es) n b a
put_back t past [] n b a h = inl h
put_back t past (e ∷ es) n b a h = by (same_tag t e.tag) (put_back t (e ∷ past) es n b a h)
  where
    by : (c : Bool) → PutIn (if c then e ∷ own t past else own t past) n b a ⊎ PutIn (own t es) n b a → PutIn (own t past) n b a ⊎ PutIn (if c then e ∷ own t es else own t es) n b a
    by true (inl (inl here)) = inr (inl here)
    by true (inl (inr before)) = inl before
    by true (inr after) = inr (inr after)
    by false h = h

faulted : (es : Entries) (n b : List ℕ) → PutIn es n b Fault → FaultedIn es n b
faulted [] n b h = h
faulted (e ∷ es) n b (inl now) = inl now
faulted (e ∷ es) n b (inr later) = inr (faulted es n b later)

-- a put that was answered by a fault, in the order of the journal
pub put_faulted : (t : Tag) (past journal : Entries) (n b : List ℕ) → past ≡ backwards [] journal → PutIn (own t past) n b Fault → FaultedIn (own t journal) n b
put_faulted t past journal n b is h = elim (put_back t [] journal n b Fault (subst (λ (l : Entries). PutIn (own t l) n b Fault) is h)) [ inl none ↦ absurd none | inr put ↦ faulted (own t journal) n b put ]

module _ (K : Tag → List ℕ → List ℕ → Type 0) (script : Tag → Option Statement) (replies : Tag → Option Reply) (tags : (tag : Tag) (statement : Statement) → script tag ≡ Some statement → IsTag tag)
    (past : Entries) (os : Objects) (ps : List Put) (clock : ℕ) (s : Stands K script replies tags past os ps clock) where
  -- a commit of a refused statement was answered by a fault
  in_doubt : (t : Tag) (r : Refusal) (version : ℕ) (p : Put) → ClaimsNothing (own t past) r → put_under ps (commit_text version) ≡ Some p → p.tag ≡ t → IsUnknown r × PutIn (own t past) (commit_text version) p.body Fault
  in_doubt t r version p claim is same =
      let m = s.made (commit_text version) p is in
      let made = subst (λ (u : Tag). PutIn (own u past) (commit_text version) p.body m.answer) same m.made in
      elim (claim version p.body m.answer made) [
        | inl lost ↦ elim lost [
          | inl was_taken ↦ absurd (m.landed was_taken)
          | inr other ↦ absurd (other.2 (sym (some_same p.body other.0 (sym (ap body_of is) ∙ s.got (commit_text version) other.0 (own_got t past _ _ other.1)))))
        ]
        | inr rest ↦ elim rest [
          | inl none ↦ absurd (s.missing t version p none is same)
          | inr doubt ↦ (doubt.0, subst (λ (a : Answer). PutIn (own t past) (commit_text version) p.body a) doubt.1 made)
        ]
      ]

pub refused_at : (limit : ℕ) (script : Tag → Option Statement) (outcomes : Tag → Option Finish) (moments : List Moment) → IsLegal [] 0 moments → IsRun limit script outcomes (entries_of moments)
    → RefusedCommitNothing script (replies_of outcomes) moments
refused_at limit script outcomes moments legal run t st r version p is_st is_reply is same =
    let e = run_end limit script outcomes moments legal run in
    let claim = claims limit script outcomes moments legal run e t st (Refused r) is_st is_reply in
    let d = in_doubt (SessionKnows (entries_of moments)) script (replies_of outcomes) run.tags e.past e.os (history [] moments) e.clock e.stands t r version p claim is same in
    (d.0, put_faulted t e.past (entries_of moments) (commit_text version) p.body e.is d.1)
