-- Whose a commit is, where its text is read back: a text that says what a statement planned was put by this statement. That the statement's plan is whole, also
-- where its put was lost, follows as for commits (Serial).
-- Ends cites it.
use Rattle.std.proofs.Common.{◌≡◌, ◌⊎◌, inl, inr, ℕ, suc, ◌<◌, ◌^◌, not, List, [], sym, ◌∙◌, ap, subst, arith}
use Rattle.std.specs.Prelude.{Option, Some}
use Rattle.edge_api.specs.declared.call.Tag.{Tag}
use Rattle.edge_api.specs.Journal.{Objects}
use Rattle.op_types.specs.declared.statement.Statement.{Statement}
use Rattle.op_types.specs.declared.reply.Reply.{Reply}
use Rattle.table_rules.specs.Names.{commit_text, data_text}
use Rattle.table_rules.specs.Told.{IsTag}
use Rattle.call_phases.specs.Phases.{Entries}
use Rattle.actor_core.specs.Entries.{own}
use Rattle.table_changes.specs.Rows.{Row}
use Rattle.table_changes.specs.Table.{File, Commit}
use Rattle.table_changes.specs.Operations.{Operation, taken_files}
use Rattle.table_laws.specs.Commits.{changes_of, files_in}
use Rattle.table_laws.specs.Operations.{Scope}
use Rattle.table_laws.specs.History.{Put, put_under, body_of}
use Rattle.table_laws.specs.Runs.{listed_by}
use Rattle.table_laws.specs.Laws.{HasCommitted}
use Rattle.table_laws.proofs.Sessions.{GotIn, StoredIn}
use Rattle.table_laws.proofs.CommitEffects.{plan_of, effect_of, Says, Writes}
use Rattle.table_laws.proofs.Lawful.{Known, PutIn, IsOwn, ClaimsCommit}
use Rattle.table_laws.proofs.Known.{knows_more}
use Rattle.table_laws.proofs.Shown.{InPut, backwards, given_is, own_got, put_of_body, some_same}
use Rattle.table_laws.proofs.Standing.{Stands}
use Rattle.table_laws.proofs.Parts.{parts_owner}
use Rattle.table_laws.proofs.Readings.{is_some, same_commit, first_added, first_path, added_is}
use Rattle.table_laws.proofs.Serial.{shown, knows, one_below, plan_whole, all_say, HasNone, reads}

module _ (K : Tag → List ℕ → List ℕ → Type 0) (script : Tag → Option Statement) (replies : Tag → Option Reply) (tags : (tag : Tag) (statement : Statement) → script tag ≡ Some statement → IsTag tag)
    (past : Entries) (os : Objects) (ps : List Put) (clock : ℕ) (s : Stands K script replies tags past os ps clock) (known : (t : Tag) (n b : List ℕ) → K t n b → InPut ps n b) where
  module _ (journal : Entries) (is_past : past ≡ backwards [] journal) where
    -- a commit whose text names a statement's file is this statement's
    same_owner : (t : Tag) (st : Statement) → script t ≡ Some st → (w : ℕ) (q : Put) → suc w < 2 ^ 64 → put_under ps (commit_text (suc w)) ≡ Some q
        → (start : ℕ) (op : Operation Scope) (view : File → List Row) (fs added : List File) → IsOwn t start added → Says (suc w) q.body (effect_of op view fs added) → q.tag ≡ t
    same_owner t st is_st w q small is start op view fs added own says =
        let k = s.commits w q small is in
        let read = reads K script replies tags past os ps clock s known w q small is in
        let theirs = effect_of k.op k.view (files_in k.s) k.added in
        let mine = effect_of op view fs added in
        let same : theirs ≡ mine = sym read.2 ∙ ap changes_of (same_commit read.0 says.0 (sym read.1 ∙ says.1)) ∙ says.2 in
        let first : first_path k.added ≡ Some (data_text t start own.part) =
        sym (added_is 0 (not k.op.moves) (taken_files k.view k.op (files_in k.s)) k.added) ∙ ap (λ (x : Commit). first_added x.lines) same
        ∙ added_is 0 (not op.moves) (taken_files view op fs) added ∙ ap first_path own.is in
        parts_owner (InPut ps) q.tag k.start (tags q.tag k.statement k.is_statement) 0 k.added (knows K script replies tags past os ps clock s known w q k).new (knows K script replies tags past os ps clock s known w q k).parts t start own.part (tags t st is_st) own.small first

    -- what the reply of a commit claims
    pub has_committed : (t : Tag) (st : Statement) → script t ≡ Some st → (version read attempts : ℕ) → ClaimsCommit (K t) t st (own t past) version read attempts → HasCommitted journal ps t version read attempts
    has_committed t st is_st version read attempts c = record { is_read = sym (given_is listed_by t past journal is_past) ∙ c.listed; counted = c.sum; above = c.above; by = found.0; is_by = found.1; is_tag = found.2 }
      where
        -- it has committed none of the versions below
        none_below : HasNone K script replies tags past os ps clock s known c.before t
        none_below w q lt there same =
            let m = s.made (commit_text (suc w)) q there in
            let next = c.next in
            let made = subst (λ (u : Tag). PutIn (own u past) (commit_text (suc w)) q.body m.answer) same m.made in
            elim (c.lost (suc w) q.body m.answer (omega (arith, lt, next)) made) [
              | inl was_taken ↦ m.landed was_taken
              | inr other ↦ other.2 (sym (some_same q.body other.0 (sym (ap body_of there) ∙ s.got (commit_text (suc w)) other.0 (own_got t past _ _ other.1))))
            ]

        -- so its plan is whole, and the text says it
        got_back : (q : Put) → put_under ps (commit_text version) ≡ Some q → q.body ≡ c.body → q.tag ≡ t
        got_back q is body =
            let small : suc c.before < 2 ^ 64 = subst (λ (n : ℕ). n < 2 ^ 64) c.next c.small in
            let there : put_under ps (commit_text (suc c.before)) ≡ Some q = ap (λ (n : ℕ). put_under ps (commit_text n)) (sym c.next) ∙ is in
            let whole = plan_whole K script replies tags past os ps clock s known c.before (all_say K script replies tags past os ps clock s known c.before) (omega (arith, small)) (one_below K script replies tags past os ps clock s known c.before small (is_some (put_under ps (commit_text (suc c.before))) q there)) t (tags t st is_st) c.start read c.op c.s c.view c.added
            (knows_more t c.op c.start read c.s c.view c.added (Known (K t) (own t past)) (StoredIn (own t past)) (InPut ps) (InPut ps) c.before (shown K script replies tags past os ps clock s known t)
            (λ n b h. let kept = s.stored t n b h in ap body_of kept.is ∙ ap (λ (d : List ℕ). Some d) kept.body) c.knows) none_below in
            let mine = effect_of c.op c.view (files_in c.s) c.added in
            let written : Says (suc c.before) c.body mine = (subst (λ (n : ℕ). Writes n c.body (plan_of t c.start read c.op c.view (files_in c.s) c.added)) c.next c.writes).back whole in
            same_owner t st is_st c.before q small there c.start c.op c.view (files_in c.s) c.added c.own (subst (λ (b : List ℕ). Says (suc c.before) b mine) (sym body) written)

        by_there : StoredIn (own t past) (commit_text version) c.body ⊎ GotIn (own t past) (commit_text version) c.body → (q : Put) × (put_under ps (commit_text version) ≡ Some q) × (q.tag ≡ t)
        by_there (inl kept) = let b = s.stored t (commit_text version) c.body kept in (b.put, b.is, b.tag)
        by_there (inr got) =
            let put = s.got (commit_text version) c.body (own_got t past (commit_text version) c.body got) in
            let q = put_of_body (put_under ps (commit_text version)) c.body put in
            (q.0, q.1, got_back q.0 q.1 (some_same q.0.body c.body (sym (ap body_of q.1) ∙ put)))

        found : (q : Put) × (put_under ps (commit_text version) ≡ Some q) × (q.tag ≡ t)
        found = by_there c.there
