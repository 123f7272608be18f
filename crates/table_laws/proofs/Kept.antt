-- What an answered statement keeps is again the table of its versions: the one that it began with, or the one that it loaded of the commits that it got.
use Rattle.std.proofs.Common.{◌≡◌, ◌⊎◌, inl, inr, ℕ, zero, suc, ◌+◌, Bool, true, false, List, [], ◌∷◌, ◌++◌, length, refl, sym, subst}
use Rattle.std.specs.Prelude.{MatchBool, MatchOption, Option, Some, None, Result, Ok, Err, nat_lt}
use Rattle.std.specs.Str.{bytes_eq}
use Rattle.edge_api.specs.declared.call.Tag.{Tag}
use Rattle.edge_api.specs.declared.call.Call.TheVariants.{Get}
use Rattle.edge_api.specs.declared.call.Listed.{Listed}
use Rattle.edge_api.specs.declared.call.JournalEntry.{JournalEntry}
use Rattle.row_base.specs.declared.schema.Column.{Column}
use Rattle.op_types.specs.declared.statement.Statement.{Statement}
use Rattle.op_types.specs.declared.statement.Statement.TheVariants.{Table, Insert, Select}
use Rattle.op_types.specs.declared.refusal.Refusal.{Refusal}
use Rattle.op_types.specs.declared.refusal.Refusal.TheVariants as refusal
use Rattle.op_types.specs.declared.refusal.Clash.{Clash}
use Rattle.op_types.specs.fault.Feature.TheVariants.{Versions}
use Rattle.op_types.specs.declared.reply.Reply.{Reply}
use Rattle.op_types.specs.declared.reply.Reply.TheVariants.{Created, Rows}
use Rattle.table_rules.specs.Names.{log_prefix, commit_text, data_text}
use Rattle.line_texts.specs.Texts.{text_of_columns, text_of_add, text_of_rows}
use Rattle.snapshot_replay.specs.Table.{Snapshot, paths_of}
use Rattle.call_phases.specs.Phases.{Entries, OnGot, AtNow, AtList, AtGet, AtPutNew}
use Rattle.call_phases.specs.Called.{called_get}
use Rattle.call_phases.specs.Gets.{OnReading, AtGets}
use Rattle.call_phases.specs.declared.gets.GetFault.{GetFault}
use Rattle.call_phases.specs.declared.gets.GetFault.TheVariants as get_fault
use Rattle.call_phases.proofs.Follow.{on_time, on_names, on_got, on_put}
use Rattle.committer.specs.declared.judge.BodyFault.{BodyFault}
use Rattle.committer.specs.declared.judge.BodyFault.TheVariants as body_fault
use Rattle.committer.specs.declared.judge.Verdict.{Verdict}
use Rattle.committer.specs.declared.judge.Verdict.TheVariants as verdict
use Rattle.committer.specs.declared.fault.AttemptFault.{AttemptFault}
use Rattle.committer.specs.declared.fault.AttemptFault.TheVariants as fault
use Rattle.committer.specs.declared.fault.Landed.{Landed}
use Rattle.committer.specs.Attempts.{Terms, outlasts, OnBody, OnVerdict, Judged, AtCommitPut, Puts, AtAttempt}
use Rattle.statement_calls.specs.declared.finish.Kept.{Kept}
use Rattle.statement_calls.specs.declared.finish.Finish.{Finish}
use Rattle.statement_calls.specs.declared.statement.TableStatement.{TableStatement}
use Rattle.statement_calls.specs.declared.statement.TableStatement.TheVariants as over
use Rattle.statement_calls.specs.Bounds.{version_limit}
use Rattle.statement_calls.specs.Judging.{CommitPlan, Bodies, Judges}
use Rattle.statement_calls.specs.Listing.{newest, missing}
use Rattle.statement_calls.specs.Objects.{next_commit, apply_next, commits_left, next_file, scan_next}
use Rattle.statement_calls.specs.Outcome.{IsOpen, Ends, Replies, refusal_of_load, refusal_of_scan, refusal_of_attempt}
use Rattle.statement_calls.specs.Answered.{retention, names_of, Base, base_of, kept_after, committed, AtCommit, AfterScan, AfterLoad, AtLoad, LoadsFrom, Loads, Makes, AfterList, Answered}
use Rattle.table_laws.specs.Runs.{kept_in}
use Rattle.table_laws.proofs.Sessions.{GotIn, KnownKept}
use Rattle.table_laws.proofs.Loads.{Loading, loading_on, all_loaded, base_known, after_known}

module _ (K : List ℕ → List ℕ → Type 0) (out : Option Finish) where
  abbrev IsKnown : Type 0
  IsKnown = KnownKept K (kept_in out)

  -- what entries get is known
  abbrev Shows : Entries → Type 0
  Shows es = (n b : List ℕ) → GotIn es n b → K n b

  later : (e : JournalEntry) (es : Entries) → Shows (e ∷ es) → Shows es
  later e es shows n b got = shows n b (inr got)

  -- phases that keep this where the statement ends in them
  module _ (kept : Option Kept) (held : KnownKept K kept) where
    ends_known : (r : Reply) (es : Entries) → Replies out kept r es → IsKnown
    ends_known r es h = subst (λ (o : Option Finish). KnownKept K (kept_in o)) (sym h.1) held

    refused_known : (r : Refusal) (es : Entries) → Ends out kept r es → IsKnown
    refused_known r es h = subst (λ (o : Option Finish). KnownKept K (kept_in o)) (sym h.1) held

    open_known : IsOpen out kept → IsKnown
    open_known (inl none) = subst (λ (o : Option Finish). KnownKept K (kept_in o)) (sym none) tt
    open_known (inr short) = subst (λ (o : Option Finish). KnownKept K (kept_in o)) (sym short) held

    now_known : (r : Refusal) (next : ℕ → Entries → Type 0) (es : Entries) → Shows es → AtNow (IsOpen out kept) (Ends out kept r) next es → ((t : ℕ) (rest : Entries) → Shows rest → next t rest → IsKnown) → IsKnown
    now_known r next [] shows h k = open_known h
    now_known r next (e ∷ es) shows h k = on_time e.answer h.1 (λ is f. refused_known r es f) (λ t is n. k t es (later e es shows) n)

    list_known : (r : Refusal) (prefix : List ℕ) (next : List Listed → Entries → Type 0) (es : Entries) → Shows es → AtList (IsOpen out kept) prefix (Ends out kept r) next es
        → ((l : List Listed) (rest : Entries) → Shows rest → next l rest → IsKnown) → IsKnown
    list_known r prefix next [] shows h k = open_known h
    list_known r prefix next (e ∷ es) shows h k = on_names e.answer h.1 (λ is f. refused_known r es f) (λ l is n. k l es (later e es shows) n)

    get_known : (r q : Refusal) (name : List ℕ) (next : List ℕ → Entries → Type 0) (es : Entries) → Shows es → AtGet (IsOpen out kept) name (Ends out kept r) (Ends out kept q) next es
        → ((b : List ℕ) (rest : Entries) → Shows rest → next b rest → IsKnown) → IsKnown
    get_known r q name next [] shows h k = open_known h
    get_known r q name next (e ∷ es) shows h k = on_got e.answer h.1 (λ is f. refused_known r es f) (λ is m. refused_known q es m) (λ b is n. k b es (later e es shows) n)

    put_known : (name body : List ℕ) (F S T : Entries → Type 0) (es : Entries) → Shows es → AtPutNew (IsOpen out kept) name body F S T es
        → ((rest : Entries) → Shows rest → F rest → IsKnown) → ((rest : Entries) → Shows rest → S rest → IsKnown) → ((rest : Entries) → Shows rest → T rest → IsKnown) → IsKnown
    put_known name body F S T [] shows h f s t = open_known h
    put_known name body F S T (e ∷ es) shows h f s t = on_put e.answer h.1 (λ is. f es (later e es shows)) (λ is. s es (later e es shows)) (λ is. t es (later e es shows))

    -- gets by a reader, by what holds of what was read so far
    module _ {R F : Type 0} (wants : R → Option (List ℕ)) (after : R → List ℕ → Result R F) (refused_by : GetFault F → Refusal) (next : R → Entries → Type 0) (P : R → Type 0)
        (reads : (r new : R) (name body : List ℕ) → wants r ≡ Some name → K name body → after r body ≡ Ok new → P r → P new) where
      abbrev Gets : R → Entries → Type 0
      Gets r es = AtGets wants after (IsOpen out kept) (λ f rest. Ends out kept (refused_by f) rest) next r es

      got_known : (name : List ℕ) (es : Entries) (x : Result R F) → Ends out kept (refused_by get_fault.NoMemory) es ⊎ OnReading x (λ f. Ends out kept (refused_by (get_fault.Bad name f)) es) (λ new. Gets new es)
          → ((new : R) → x ≡ Ok new → Gets new es → IsKnown) → IsKnown
      got_known name es x (inl short) k = refused_known (refused_by get_fault.NoMemory) es short
      got_known name es (Ok new) (inr on) k = k new refl on
      got_known name es (Err f) (inr on) k = refused_known (refused_by (get_fault.Bad name f)) es on

      gets_known : (r : R) (es : Entries) → P r → Shows es → Gets r es → ((r : R) (rest : Entries) → wants r ≡ None → P r → Shows rest → next r rest → IsKnown) → IsKnown
      gets_known r [] p shows h k = by (wants r) refl h
        where
          by : (o : Option (List ℕ)) → wants r ≡ o → MatchOption o (next r []) (λ name. IsOpen out kept) → IsKnown
          by None is on = k r [] is p shows on
          by (Some name) is on = open_known on
      gets_known r (e ∷ es) p shows h k = by (λ new p' on. gets_known new es p' (later e es shows) on k) (wants r) refl h
        where
          by : ((new : R) → P new → Gets new es → IsKnown) → (o : Option (List ℕ)) → wants r ≡ o
              → MatchOption o (next r (e ∷ es))
              (λ name. (e.call ≡ Get name) × OnGot e.answer (Ends out kept (refused_by (get_fault.Fault (called_get name))) es) (Ends out kept (refused_by (get_fault.Missing name)) es)
              (λ body. Ends out kept (refused_by get_fault.NoMemory) es ⊎ OnReading (after r body) (λ f. Ends out kept (refused_by (get_fault.Bad name f)) es) (λ new. Gets new es)))
              → IsKnown
          by again None is on = k r (e ∷ es) is p shows on
          by again (Some name) is on =
              on_got e.answer on.1 (λ a f. refused_known (refused_by (get_fault.Fault (called_get name))) es f) (λ a m. refused_known (refused_by (get_fault.Missing name)) es m)
              (λ body a n. got_known name es (after r body) n (λ new read rest. again new (reads r new name body is (shows name body (inl (on.0, a))) read p) rest))

    -- attempts of a commit
    module _ (terms : Terms) (landed : Landed → Reply) where
      abbrev fails : CommitPlan → AttemptFault Clash → Entries → Type 0
      fails p f rest = Ends out kept (refusal_of_attempt f) rest

      abbrev lands : CommitPlan → Landed → Entries → Type 0
      lands p l rest = Replies out kept (landed l) rest

      judged_known : (version : ℕ) (p : CommitPlan) (body : List ℕ) (again : CommitPlan → Entries → Type 0) (es : Entries) → Judged Bodies Judges terms (λ p. IsOpen out kept) fails lands version p body again es
          → ((new : CommitPlan) → again new es → IsKnown) → IsKnown
      judged_known version p body again es h k = by h.0 h.3
        where
          by : (v : Verdict Clash) → OnVerdict v (again h.1 es) (λ clash. fails h.1 (fault.Conflict version clash) es) → IsKnown
          by (verdict.Clear winner) on = k h.1 on
          by (verdict.Clash c) on = refused_known (refusal.Conflict version c) es on

      commit_put_known : (version : ℕ) (p : CommitPlan) (text : List ℕ) (l : Landed) (again : List ℕ → CommitPlan → Entries → Type 0) (es : Entries) → Shows es
          → AtCommitPut Bodies Judges terms (λ p. IsOpen out kept) fails lands version p text (lands p l) again es
          → ((body : List ℕ) (new : CommitPlan) (rest : Entries) → Shows rest → again body new rest → IsKnown) → IsKnown
      commit_put_known version p text l again es shows h k =
          put_known (commit_text version) text _ _ _ es shows h
          (λ rest shown on. get_known _ _ (commit_text version) _ rest shown on (λ found rest' shown' on'. by found rest' shown' (bytes_eq found text) on'))
          (λ rest shown on. ends_known (landed l) rest on)
          (λ rest shown on. get_known _ _ (commit_text version) _ rest shown on (λ found rest' shown' on'. judged_known version p found (again found) rest' on' (λ new on''. k found new rest' shown' on'')))
        where
          by : (found : List ℕ) (rest : Entries) → Shows rest → (b : Bool) → MatchBool b (lands p l rest) (Judged Bodies Judges terms (λ p. IsOpen out kept) fails lands version p found (again found) rest) → IsKnown
          by found rest shown true on = ends_known (landed l) rest on
          by found rest shown false on = judged_known version p found (again found) rest on (λ new on'. k found new rest shown on')

      puts_known : (version now : ℕ) (p : CommitPlan) (l : Landed) (again : List ℕ → CommitPlan → Entries → Type 0) (es : Entries) → Shows es
          → Puts Bodies Judges terms (λ p. IsOpen out kept) fails lands version now p (λ new. lands new l) again es
          → ((body : List ℕ) (new : CommitPlan) (rest : Entries) → Shows rest → again body new rest → IsKnown) → IsKnown
      puts_known version now p l again es shows h k = by h.0 h.3
        where
          by : (made : Result (List ℕ) BodyFault) → OnBody made (fails h.1 fault.NoMemory es) (λ bytes. fails h.1 (fault.TooLarge bytes) es)
              (λ text. AtCommitPut Bodies Judges terms (λ p. IsOpen out kept) fails lands version h.1 text (lands h.1 l) again es) → IsKnown
          by (Ok text) on = commit_put_known version h.1 text l again es shows on k
          by (Err body_fault.NoMemory) on = refused_known refusal.NoMemory es on
          by (Err (body_fault.TooLarge bytes)) on = refused_known (refusal.TooLarge bytes) es on

      attempt_known : (left lost : ℕ) (winners : List (List ℕ)) (p : CommitPlan) (es : Entries) → Shows es → AtAttempt Bodies Judges terms (λ p. IsOpen out kept) fails lands left lost winners p es → IsKnown
      attempt_known zero lost winners p es shows h = refused_known (refusal.TooManyAttempts lost) es h
      attempt_known (suc left) lost winners p es shows h =
          now_known _ _ es shows h (λ now rest shown on.
          by (λ body new rest' shown' on'. attempt_known left (suc lost) (winners ++ body ∷ []) new rest' shown' on') now rest shown (outlasts terms now) on)
        where
          by : ((body : List ℕ) (new : CommitPlan) (rest : Entries) → Shows rest → AtAttempt Bodies Judges terms (λ p. IsOpen out kept) fails lands left (suc lost) (winners ++ body ∷ []) new rest → IsKnown)
              → (now : ℕ) (rest : Entries) → Shows rest → (b : Bool)
              → MatchBool b (fails p (fault.Outlasted terms.start now) rest)
              (Puts Bodies Judges terms (λ p. IsOpen out kept) fails lands (terms.first + lost) now p (λ new. lands new (record { version = terms.first + lost; attempts = suc lost; now = now; winners = winners }))
              (λ winner new. AtAttempt Bodies Judges terms (λ p. IsOpen out kept) fails lands left (suc lost) (winners ++ winner ∷ []) new) rest)
              → IsKnown
          by again now rest shown true on = refused_known (refusal.Outlasted terms.start now) rest on
          by again now rest shown false on = puts_known (terms.first + lost) now p (record { version = terms.first + lost; attempts = suc lost; now = now; winners = winners }) _ rest shown on again

  module _ (tag : Tag) (limit : ℕ) where
    commit_known : (kept : Option Kept) → KnownKept K kept → (start first : ℕ) (plan : CommitPlan) (landed : Landed → Reply) (es : Entries) → Shows es → AtCommit tag limit out kept start first plan landed es → IsKnown
    commit_known kept held start first plan landed es shows h = attempt_known kept held (record { start = start; retention = retention; first = first }) landed limit 0 [] plan es shows h

    loaded_known : (statement : TableStatement) (kept : Option Kept) → KnownKept K kept → (start read : ℕ) (s : Snapshot) (es : Entries) → Shows es → AfterLoad tag limit out statement start read kept s es → IsKnown
    loaded_known (over.Insert rows) kept held start read s es shows h =
        put_known kept held (data_text tag start 0) (text_of_rows rows) _ _ _ es shows h (λ rest shown on. refused_known kept held _ rest on)
        (λ rest shown on. commit_known kept held start (suc read) (record { text = text_of_add (data_text tag start 0); makes_table = false }) (committed read) rest shown on) (λ rest shown on. refused_known kept held _ rest on)
    loaded_known over.Select kept held start read s es shows h =
        gets_known kept held next_file scan_next refusal_of_scan (λ f rest. AfterScan tag limit out kept read (length s.files) f rest) (λ f. Unit {0}) (λ f new name body wanted known is p. tt) (record { paths = paths_of s.files; got = [] }) es tt shows h
        (λ f rest none p shown on. elim on [ inl short ↦ refused_known kept held refusal.NoMemory rest short | inr rows ↦ ends_known kept held (Rows read rows.0 (length f.got) (length s.files)) rest rows.2 ])

    base_on : (statement : TableStatement) (start v : ℕ) (base : Base) (es : Entries) → Loading K (suc v) base.commits → KnownKept K base.spare → Shows es → AtLoad tag limit out statement start v base es → IsKnown
    base_on statement start v base es known held shows h =
        gets_known base.spare held next_commit apply_next refusal_of_load
        (λ c rest. AfterLoad tag limit out statement start v (Some (kept_after base.spare (record { versions = suc v; state = c.table }))) c.table rest)
        (Loading K (suc v)) (loading_on K (suc v)) base.commits es known shows h
        (λ c rest done x shown on. loaded_known statement (Some (kept_after base.spare (record { versions = suc v; state = c.table }))) (after_known K base.spare (record { versions = suc v; state = c.table }) held (all_loaded K (suc v) c done x)) start v c.table rest shown on)

    loads_known : (statement : TableStatement) (kept : Option Kept) → KnownKept K kept → (start : ℕ) (l : List Listed) (o : Option ℕ) (es : Entries) → Shows es → Loads tag limit out statement start l kept o es → IsKnown
    loads_known statement kept held start l None es shows h = refused_known kept held refusal.NoTable es h
    loads_known statement kept held start l (Some v) es shows h = by (nat_lt v version_limit) h
      where
        from : (o : Option ℕ) → MatchOption o (AtLoad tag limit out statement start v (base_of kept v) es) (λ k. Ends out kept (refusal.LogGone (commit_text k)) es) → IsKnown
        from None on = let base = base_known K kept v held in base_on statement start v (base_of kept v) es base.0 base.1 shows on
        from (Some k) on = refused_known kept held (refusal.LogGone (commit_text k)) es on

        by : (b : Bool) → MatchBool b (LoadsFrom tag limit out statement start l kept v (base_of kept v) es) (Ends out kept (refusal.Unsupported Versions) es) → IsKnown
        by true (inl short) = refused_known kept held refusal.NoMemory es short
        by true (inr on) = from (missing l (base_of kept v).commits.at (commits_left (base_of kept v).commits)) on
        by false on = refused_known kept held (refusal.Unsupported Versions) es on

    makes_known : (kept : Option Kept) → KnownKept K kept → (columns : List Column) (start : ℕ) (o : Option ℕ) (es : Entries) → Shows es → Makes tag limit out columns start kept o es → IsKnown
    makes_known kept held columns start None es shows h = commit_known kept held start 0 (record { text = text_of_columns (names_of columns); makes_table = true }) (λ l. Created) es shows h
    makes_known kept held columns start (Some v) es shows h = refused_known kept held refusal.TableThere es h

    listed_known : (statement : Statement) (kept : Option Kept) → KnownKept K kept → (start : ℕ) (l : List Listed) (es : Entries) → Shows es → AfterList tag limit out statement kept start l es → IsKnown
    listed_known (Table spec) kept held start l es shows h = makes_known kept held spec.columns start (newest l) es shows h
    listed_known (Insert rows) kept held start l es shows h = loads_known (over.Insert rows) kept held start l (newest l) es shows h
    listed_known Select kept held start l es shows h = loads_known over.Select kept held start l (newest l) es shows h

-- what an answered statement keeps is known, if what it began with is and all that it gets
pub answered_known : (K : List ℕ → List ℕ → Type 0) (tag : Tag) (limit : ℕ) (kept : Option Kept) → KnownKept K kept → (statement : Statement) (es : Entries) (out : Option Finish) → ((n b : List ℕ) → GotIn es n b → K n b)
    → Answered tag limit kept statement es out → KnownKept K (kept_in out)
answered_known K tag limit kept held statement es out shows h =
    now_known K out kept held _ _ es shows h (λ start rest shown on. list_known K out kept held _ log_prefix _ rest shown on (λ l rest' shown' on'. listed_known K out tag limit statement kept held start l rest' shown' on'))
