-- What becomes of the put of a commit at its moment.
use Rattle.std.proofs.Common.{◌≡◌, ◌⊎◌, inl, inr, ℕ, Bool, true, false, List, [], ◌∷◌, ◌++◌, refl, sym, ◌∙◌, ap, subst}
use Rattle.std.specs.Prelude.{Option, Some, None}
use Rattle.edge_api.specs.declared.call.Tag.{Tag}
use Rattle.edge_api.specs.declared.call.Call.{Call}
use Rattle.edge_api.specs.declared.call.Call.TheVariants.{PutNew}
use Rattle.edge_api.specs.declared.call.Answer.{Answer}
use Rattle.edge_api.specs.declared.call.Answer.TheVariants.{Fault, Body, Missing, Stored, Taken, Names, Gone, Time, Waited}
use Rattle.edge_api.specs.declared.call.Object.{Object}
use Rattle.edge_api.specs.Journal.{Moment, IsLegal, Answers, answer_of, after_moment, entries_of, object_at, put_new_answer}
use Rattle.op_types.specs.declared.statement.Statement.{Statement}
use Rattle.op_types.specs.declared.reply.Reply.{Reply}
use Rattle.table_rules.specs.Names.{commit_text}
use Rattle.table_rules.specs.Told.{IsTag}
use Rattle.statement_calls.specs.declared.finish.Finish.{Finish}
use Rattle.actor_core.specs.Entries.{own}
use Rattle.table_laws.specs.History.{Put, put_under, puts_of, puts_at, put_if_free, if_done, history}
use Rattle.table_laws.specs.Runs.{replies_of, IsRun}
use Rattle.table_laws.proofs.Sessions.{SessionKnows}
use Rattle.table_laws.specs.Laws.{CommitPut, Wins, Loses, Fails, CommitPutsAreDecided}
use Rattle.table_laws.proofs.Lawful.{MayPut, LawfulBy}
use Rattle.table_laws.proofs.Members.{is_in}
use Rattle.table_laws.proofs.Tries.{put_under-behind}
use Rattle.table_laws.proofs.Standing.{lawful_next, not_own}
use Rattle.table_laws.proofs.Journals.{StandsAt}
use Rattle.table_laws.proofs.Ends.{stands_after}

module _ (K : Tag → List ℕ → List ℕ → Type 0) (script : Tag → Option Statement) (replies : Tag → Option Reply) (tags : (tag : Tag) (statement : Statement) → script tag ≡ Some statement → IsTag tag) where
  -- the put of a commit at a moment
  module _ (before rest : List Moment) (m : Moment) (v : ℕ) (body : List ℕ) (is : m.entry.call ≡ PutNew (commit_text v) body) (r : StandsAt K script replies tags [] [] [] 0 before (m ∷ rest)) where
    abbrev the_put : Put
    the_put = record { tag = m.entry.tag; name = commit_text v; body = body; at = m.clock }

    abbrev Decided : Type 0
    Decided = CommitPut (history [] before) (history [] (before ++ m ∷ rest)) v body m

    right : Answers m.entry.answer (put_new_answer (object_at r.os (commit_text v)))
    right = subst (λ (c : Call). Answers m.entry.answer (answer_of r.os m.clock c)) is (r.legal).2

    put_here : object_at r.os (commit_text v) ≡ None → puts_of r.os m.entry.tag m.clock m.entry.call ≡ the_put ∷ []
    put_here free = ap (λ (c : Call). puts_of r.os m.entry.tag m.clock c) is ∙ ap (λ (o : Option Object). put_if_free o the_put) free

    wins : object_at r.os (commit_text v) ≡ None → put_under (history [] before) (commit_text v) ≡ None → puts_at r.os m ≡ the_put ∷ [] → (m.entry.answer ≡ Stored) ⊎ (m.entry.answer ≡ Fault) → Decided
    wins object free puts answer =
        let all : history [] (before ++ m ∷ rest) ≡ history [] before ++ the_put ∷ history (after_moment r.os m) rest = r.whole ∙ ap (λ (l : List Put). history [] before ++ (l ++ history (after_moment r.os m) rest)) puts in
        Wins free (ap (λ (l : List Put). put_under l (commit_text v)) all ∙ put_under-behind (history [] before) (history (after_moment r.os m) rest) the_put (commit_text v) refl free) answer

    at_free : (a : Answer) → m.entry.answer ≡ a → Answers a Stored → object_at r.os (commit_text v) ≡ None → put_under (history [] before) (commit_text v) ≡ None → Decided
    at_free Stored at answers object free = wins object free (ap (λ (a : Answer). if_done a m.took_effect (puts_of r.os m.entry.tag m.clock m.entry.call)) at ∙ put_here object) (inl at)
    at_free Fault at answers object free = by m.took_effect refl
      where
        faulted : (u : Bool) → m.took_effect ≡ u → puts_at r.os m ≡ if_done Fault u (puts_of r.os m.entry.tag m.clock m.entry.call)
        faulted u took =
            ap (λ (a : Answer). if_done a m.took_effect (puts_of r.os m.entry.tag m.clock m.entry.call)) at ∙ ap (λ (b : Bool). if_done Fault b (puts_of r.os m.entry.tag m.clock m.entry.call)) took

        by : (u : Bool) → m.took_effect ≡ u → Decided
        by true took = wins object free (faulted true took ∙ put_here object) (inr at)
        by false took = Fails free at took
    at_free (Body b) at answers object free = cc
    at_free Missing at answers object free = cc
    at_free Taken at answers object free = cc
    at_free (Names l) at answers object free = cc
    at_free Gone at answers object free = cc
    at_free (Time t) at answers object free = cc
    at_free Waited at answers object free = cc

    taken_or_fault : (a : Answer) → Answers a Taken → (a ≡ Taken) ⊎ (a ≡ Fault)
    taken_or_fault Fault answers = inr refl
    taken_or_fault Taken answers = inl refl
    taken_or_fault (Body b) answers = cc
    taken_or_fault Missing answers = cc
    taken_or_fault Stored answers = cc
    taken_or_fault (Names l) answers = cc
    taken_or_fault Gone answers = cc
    taken_or_fault (Time t) answers = cc
    taken_or_fault Waited answers = cc

    pub decided : Decided
    decided = by (object_at r.os (commit_text v)) refl right
      where
        by : (o : Option Object) → object_at r.os (commit_text v) ≡ o → Answers m.entry.answer (put_new_answer o) → Decided
        by None at answers = at_free m.entry.answer refl answers at ((r.stands).logs v at)
        by (Some o) at answers =
            let next = lawful_next K script replies tags r.past m.entry (entries_of rest) r.keeps in
            let may : MayPut (K m.entry.tag) m.entry.tag next.0 (own m.entry.tag r.past) (commit_text v) body = subst (LawfulBy (K m.entry.tag) m.entry.tag next.0 (own m.entry.tag r.past)) is next.2 in
            let winner = (r.stands).agree (commit_text v) o (is_in r.os (commit_text v) o at) in
            Loses winner.put winner.is (λ same. not_own K script replies tags r.past r.os (history [] before) r.clock r.stands m.entry.tag next.0 next.1 (commit_text v) body may v refl winner.put winner.is same)
            (taken_or_fault m.entry.answer answers)

pub puts_at_moments : (limit : ℕ) (script : Tag → Option Statement) (outcomes : Tag → Option Finish) (moments : List Moment) → IsLegal [] 0 moments → IsRun limit script outcomes (entries_of moments) → CommitPutsAreDecided moments
puts_at_moments limit script outcomes moments legal run before rest m v body parts small is =
    let here = stands_after limit script outcomes moments legal run before (m ∷ rest) parts in
    let found = decided (SessionKnows (entries_of moments)) script (replies_of outcomes) run.tags before rest m v body is here in
    subst (λ (ms : List Moment). CommitPut (history [] before) (history [] ms) v body m) (sym parts) found
