-- Versions of one session: each statement reads the version that the one before it committed, so no operation misses a row.
-- It stands on what a statement sees (Views) alone, and on Step for what each version read.
-- Run cites rows_of_session.
use Rattle.std.proofs.Common.{◌≡◌, inl, ℕ, zero, suc, ◌≤◌, ◌<◌, ◌^◌, Bool, true, false, List, [], refl, sym, ◌∙◌, subst, arith}
use Rattle.std.specs.Prelude.{Option, Some, nat_lt}
use Rattle.std.proofs.lemmas.Bool.Decides.{nat_tests}
use Rattle.edge_api.specs.declared.call.Tag.{Tag}
use Rattle.edge_api.specs.Journal.{Moment, IsLegal, entries_of}
use Rattle.op_types.specs.declared.statement.Statement.{Statement}
use Rattle.table_rules.specs.Names.{commit_text}
use Rattle.call_phases.specs.Phases.{Entries}
use Rattle.statement_calls.specs.declared.finish.Finish.{Finish}
use Rattle.actor_core.specs.Entries.{own}
use Rattle.table_laws.specs.History.{Put, history, put_under, IsCommitted}
use Rattle.table_laws.specs.Runs.{version_read, IsRun}
use Rattle.table_laws.specs.Folded.{NoneMisses}
use Rattle.table_laws.specs.Views.{IsOfSession, RowsOfOneSession}
use Rattle.table_laws.proofs.Shown.{some_same}
use Rattle.table_laws.proofs.Readings.{some_put, is_some}
use Rattle.table_laws.proofs.Ends.{serial_at, folded_at, once_at}
use Rattle.table_laws.proofs.Views.{covers_at}

module _ (limit : ℕ) (script : Tag → Option Statement) (outcomes : Tag → Option Finish) (moments : List Moment) (legal : IsLegal [] 0 moments) (run : IsRun limit script outcomes (entries_of moments)) where
  abbrev ps : List Put
  ps = history [] moments

  abbrev journal : Entries
  journal = entries_of moments

  -- what the statement of a version read
  record Reads (v : ℕ) (p : Put) : Type 0 where
    read : ℕ
    is : version_read (own p.tag journal) ≡ Some read
    below : read ≤ v
    previous : IsCommitted ps v

  reads : (v : ℕ) (p : Put) → suc v < 2 ^ 64 → put_under ps (commit_text (suc v)) ≡ Some p → Reads v p
  reads v p small is =
      let s = serial_at limit script outcomes moments legal run v small (is_some (put_under ps (commit_text (suc v))) p is) in
      let same : s.by ≡ p = some_same s.by p (sym s.is_by ∙ is) in
      record { read = s.read; is = subst (λ (q : Put). version_read (own q.tag journal) ≡ Some s.read) same s.is_read; below = (s.serial).below; previous = s.previous }

  same_tag_of : (a b : Tag) → a.actor ≡ b.actor → a.statement ≡ b.statement → a ≡ b
  same_tag_of a b is also = λ i. record { actor = is i; statement = also i }

  -- the statement of a version read the one before
  at_least : (actor : ℕ) → IsOfSession actor moments → (v : ℕ) (p : Put) → suc v < 2 ^ 64 → put_under ps (commit_text (suc v)) ≡ Some p → (read : ℕ) → version_read (own p.tag journal) ≡ Some read → v ≤ read
  at_least actor one zero p small is read also = omega arith
  at_least actor one (suc u) p small is read also = by (nat_lt (q.0).tag.statement p.tag.statement) refl (nat_lt p.tag.statement (q.0).tag.statement) refl
    where
      q : (q : Put) × (put_under ps (commit_text (suc u)) ≡ Some q)
      q = some_put (put_under ps (commit_text (suc u))) (reads (suc u) p small is).previous

      same_actor : (q.0).tag.actor ≡ p.tag.actor
      same_actor = one (suc u) q.0 (omega arith) (omega (arith, small)) q.1 ∙ sym (one (suc (suc u)) p (omega arith) small is)

      by : (b : Bool) → nat_lt (q.0).tag.statement p.tag.statement ≡ b → (d : Bool) → nat_lt p.tag.statement (q.0).tag.statement ≡ d → suc u ≤ read
      by true e d f = let less : (q.0).tag.statement < p.tag.statement = grind (arith, nat_tests) in covers_at limit script outcomes moments legal run q.0 p.tag (suc u) read (omega (arith, small)) q.1 (same_actor, less) also
      by false e true f =
          let less : p.tag.statement < (q.0).tag.statement = grind (arith, nat_tests) in
          let r = reads u q.0 (omega (arith, small)) q.1 in
          let le = covers_at limit script outcomes moments legal run p (q.0).tag (suc (suc u)) r.read small is (sym same_actor, less) r.is in
          let under = r.below in
          absurd (omega (arith, le, under))
      by false e false f =
          let same : (q.0).tag.statement ≡ p.tag.statement = grind (arith, nat_tests) in
          let one : suc u ≡ suc (suc u) = once_at limit script outcomes moments legal run (suc u) (suc (suc u)) q.0 p (omega (arith, small)) small q.1 is (same_tag_of (q.0).tag p.tag same_actor same) in
          absurd (omega (arith, one))

  none_misses : (actor : ℕ) → IsOfSession actor moments → (v : ℕ) → v < 2 ^ 64 → NoneMisses script journal ps v
  none_misses actor one v small k lt p is read also op is_op =
      let few : suc k < 2 ^ 64 = omega (arith, lt, small) in
      let r = reads k p few is in
      let same : r.read ≡ read = some_same r.read read (sym r.is ∙ also) in
      let le = r.below in
      let more = at_least actor one k p few is read also in
      inl (omega (arith, same, le, more))

  pub rows_of_session : RowsOfOneSession script moments
  rows_of_session actor one v small is = folded_at limit script outcomes moments legal run v small is (none_misses actor one v small)
