-- The arrows of a statement: a phase, and what follows it, told of what readers and judges stand for.
use Rattle.std.proofs.Common.{◌≡◌, ◌⊎◌, inl, inr, ℕ, zero, suc, ◌<◌, List, [], ◌∷◌, length, Bool, true, false, refl, sym, subst, arith}
use Rattle.std.specs.Prelude.{nat_lt, Option, Some, None, MatchOption, MatchBool, IfSome, IsSome, Result, Ok, Err}
use Rattle.edge_api.specs.declared.call.Tag.{Tag}
use Rattle.edge_api.specs.declared.actor.Fed.TheVariants.{NoMemory}
use Rattle.edge_api.specs.declared.call.Listed.{Listed}
use Rattle.row_base.specs.declared.row.Datum.{Datum}
use Rattle.op_types.specs.declared.refusal.ObjectFault.{ObjectFault}
use Rattle.op_types.specs.declared.refusal.Refusal.{Refusal}
use Rattle.op_types.specs.declared.refusal.Refusal.TheVariants as refusal
use Rattle.op_types.specs.declared.reply.Reply.{Reply}
use Rattle.table_rules.specs.Names.{data_text}
use Rattle.line_texts.specs.Texts.{text_of_add, text_of_rows}
use Rattle.snapshot_replay.specs.Table.{Snapshot, paths_of}
use Rattle.call_phases.specs.Phases.{Entries}
use Rattle.call_phases.specs.Endings.{Then}
use Rattle.call_phases.specs.Machine.{Stops}
use Rattle.call_phases.specs.Step.{FedBy}
use Rattle.call_phases.specs.Gets.{AtGets, GetsAll}
use Rattle.call_phases.specs.Puts.{PutsAll}
use Rattle.call_phases.specs.Views.{result_by}
use Rattle.call_phases.specs.declared.gets.GetFault.{GetFault}
use Rattle.call_phases.specs.declared.puts.File.{File}
use Rattle.call_phases.proofs.Chain.{then_gets, then_puts}
use Rattle.call_phases.proofs.Views.{gets_view}
use Rattle.committer.specs.Attempts.{AttemptsEnd}
use Rattle.committer.specs.Machine.{first_after}
use Rattle.committer.specs.declared.fault.Landed.{Landed}
use Rattle.committer.specs.declared.fault.Won.{Won}
use Rattle.committer.proofs.Endings.{then_attempts_view}
use Rattle.statement_calls.specs.declared.finish.Finish.{Finish}
use Rattle.statement_calls.specs.declared.finish.Kept.{Kept}
use Rattle.statement_calls.specs.declared.statement.TableStatement.{TableStatement}
use Rattle.statement_calls.specs.Bounds.{version_limit}
use Rattle.statement_calls.specs.Judging.{CommitPlan, Bodies, Judges}
use Rattle.statement_calls.specs.Objects as law
use Rattle.statement_calls.specs.Outcome.{refusal_of_load, refusal_of_scan, refusal_of_put, refusal_of_attempt, IsOpen, Ends, Replies}
use Rattle.statement_calls.specs.Answered.{retention, Base, base_of, AtCommit, AfterPuts, Appends, AfterScan, Selects, AfterLoad, AtLoad, LoadsFrom, Loads}
use Rattle.txn_machine.specs.declared.commits.Commits.{Commits}
use Rattle.txn_machine.specs.declared.files.Files.{Files}
use Rattle.txn_machine.specs.declared.judge.CommitJudge.{CommitJudge}
use Rattle.txn_machine.specs.declared.stage.Stage.{Stage}
use Rattle.txn_machine.specs.Judging.{plan_of, Makes, Says}
use Rattle.txn_machine.specs.Readers.{commits_of, with_commits, wanted_commit, commits_after, files_of, with_files, wanted_file, files_after, kept_of}
use Rattle.txn_machine.specs.Machine.{ByLoad, ByScan, ByPut, ByAttempt, landed_after, call_of, Rest}

pub match_true : (b : Bool) (P Q : Type 0) → b ≡ true → P → MatchBool b P Q
match_true true P Q is h = h
match_true false P Q is h = cc

pub match_none : {A : Type 0} (o : Option A) (P : Type 0) (Q : A → Type 0) → o ≡ None → P → MatchOption o P Q
match_none None P Q is h = h
match_none (Some a) P Q is h = cc

pub match_some : {A : Type 0} (o : Option A) (a : A) (P : Type 0) (Q : A → Type 0) → o ≡ Some a → Q a → MatchOption o P Q
match_some None a P Q is h = cc
match_some (Some b) a P Q is h = let same : b ≡ a = cc in subst Q (sym same) h

-- a commit that is needed isn't listed
pub map_gone : {A : Type 0} (o : Option A) (a : A) (N P : Type 0) (Q : A → Type 0) → o ≡ Some a → N ⊎ Q a → N ⊎ MatchOption o P Q
map_gone o a N P Q is (inl n) = inl n
map_gone o a N P Q is (inr q) = inr (match_some o a P Q is q)

-- what the readers stand for goes on as they do
commits_told : (c : Commits) (r : Result law.Commits ObjectFault) → result_by commits_of (result_by (with_commits c) r) ≡ r
commits_told c (Ok k) = refl
commits_told c (Err f) = refl

files_told : (f : Files) (r : Result law.Files ObjectFault) → result_by files_of (result_by (with_files f) r) ≡ r
files_told f (Ok k) = refl
files_told f (Err x) = refl

module _ (tag : Tag) (limit : ℕ) (out : Option Finish) where
  -- the commit is attempted, and the reply follows
  pub then_commit : (kept : Option Kept) (start first : ℕ) (j : CommitJudge) (landed : Landed → Reply) (es : Entries)
      → Then (AttemptsEnd Makes Says (record { start = start; retention = retention; first = first }) limit 0 [] j) (out ≡ None) (ByAttempt kept out) (λ (w : Won CommitJudge) rest. Replies out kept (landed w.landed) rest) es
      → AtCommit tag limit out kept start first (plan_of j) landed es
  then_commit kept start first j landed es h =
      then_attempts_view plan_of Makes Says Bodies Judges (λ j now made new b. b) (λ j winner v new b. b) (record { start = start; retention = retention; first = first }) (out ≡ None) (ByAttempt kept out)
      (λ p. IsOpen out kept) (λ p f rest. Ends out kept (refusal_of_attempt f) rest) (λ p l rest. Replies out kept (landed l) rest) es (λ k e. inl e) (λ l e. (refl, e)) (λ j e. inr e)
      (λ (w : Won CommitJudge) rest. Replies out kept (landed w.landed) rest) (λ j l rest e. e) limit 0 [] j h

  -- memory was wanting before the first attempt
  pub no_commit : (kept : Option Kept) (start first : ℕ) (p : CommitPlan) (landed : Landed → Reply) (es : Entries) → 0 < limit → Ends out kept refusal.NoMemory es → AtCommit tag limit out kept start first p landed es
  no_commit kept start first p landed es some h = by limit some
    where
      by : (n : ℕ) → 0 < n → AtCommit tag n out kept start first p landed es
      by zero some = absurd (omega (arith, some))
      by (suc n) some = subst (AtCommit tag (suc n) out kept start first p landed) (sym h.0) (inr h.1)

  -- the data file is put, and the commit that adds it is attempted
  pub then_append : (kept : Option Kept) (start read : ℕ) (rows : List (List Datum)) (text : List ℕ) (files : List File) (es : Entries)
      → text ≡ text_of_add (data_text tag start 0) → files ≡ record { name = data_text tag start 0; body = text_of_rows rows } ∷ []
      → Then (PutsAll files) (out ≡ None) (ByPut kept out) (λ u rest. AtCommit tag limit out kept start (first_after (Some read)) (record { text = text; makes_table = false }) (landed_after (Some read)) rest) es → Appends tag limit out rows kept start read es
  then_append kept start read rows text files es said put h =
      let first : first_after (Some read) ≡ suc read = omega arith in
      let commit : ℕ → List ℕ → Entries → Type 0 = λ n t rest. AtCommit tag limit out kept start n (record { text = t; makes_table = false }) (landed_after (Some read)) rest in
      let named = subst (λ (n : ℕ). Then (PutsAll files) (out ≡ None) (ByPut kept out) (λ u rest. commit n text rest) es) first h in
      let told = subst (λ (t : List ℕ). Then (PutsAll files) (out ≡ None) (ByPut kept out) (λ u rest. commit (suc read) t rest) es) said named in
      let one = subst (λ (fs : List File). Then (PutsAll fs) (out ≡ None) (ByPut kept out) (λ u rest. AfterPuts tag limit out kept start read rest) es) put told in
      then_puts (out ≡ None) (ByPut kept out) (IsOpen out kept) (λ f rest. Ends out kept (refusal_of_put f) rest) es inl (λ f q. (refl, q)) inr (λ u rest. AfterPuts tag limit out kept start read rest)
      (record { name = data_text tag start 0; body = text_of_rows rows } ∷ []) one

  -- the files are got, and their rows are the reply
  pub then_scan : (kept : Option Kept) (read live : ℕ) (s : Snapshot) (f : Files) (es : Entries) → files_of f ≡ record { paths = paths_of s.files; got = [] } → live ≡ length s.files
      → Then (GetsAll wanted_file files_after f) (out ≡ None) (ByScan kept out) (λ k rest. AfterScan tag limit out kept read live (files_of k) rest) es → Selects tag limit out s kept read es
  then_scan kept read live s f es first all h =
      let after : ℕ → law.Files → Entries → Type 0 = λ n k rest. AfterScan tag limit out kept read n k rest in
      let counted = subst (λ (n : ℕ). Then (GetsAll wanted_file files_after f) (out ≡ None) (ByScan kept out) (λ k rest. after n (files_of k) rest) es) all h in
      let fails : GetFault ObjectFault → Entries → Type 0 = λ f rest. Ends out kept (refusal_of_scan f) rest in
      let gets = then_gets wanted_file files_after (out ≡ None) (ByScan kept out) (IsOpen out kept) fails es inl (λ f q. (refl, q)) inr (λ k rest. after (length s.files) (files_of k) rest) f counted in
      subst (λ (k : law.Files). AtGets law.next_file law.scan_next (IsOpen out kept) fails (after (length s.files)) k es) first (gets_view files_of wanted_file files_after law.next_file law.scan_next (λ f. refl) (λ f text. files_told f (law.scan_next (files_of f) text)) (IsOpen out kept) fails (after (length s.files)) f es gets)

  -- memory was wanting before the first file
  pub no_scan : (kept : Option Kept) (read : ℕ) (s : Snapshot) (es : Entries) → Ends out kept refusal.NoMemory es → Selects tag limit out s kept read es
  no_scan kept read s es h = subst (Selects tag limit out s kept read) (sym h.0) (by (paths_of s.files))
    where
      by : (paths : List (List ℕ)) → MatchOption (law.first_of paths) (AfterScan tag limit out kept read (length s.files) (record { paths = paths; got = [] }) []) (λ name. IsOpen out kept)
      by [] = inl (refl, h.1)
      by (p ∷ ps) = inr h.1

  -- the commits are got, and the statement does its own
  pub then_load : (statement : TableStatement) (start read : ℕ) (base : Base) (c : Commits) (spare : Option Kept) (es : Entries) → commits_of c ≡ base.commits → spare ≡ base.spare
      → Then (GetsAll wanted_commit commits_after c) (out ≡ None) (ByLoad spare out) (λ (k : Commits) rest. AfterLoad tag limit out statement start read (Some (kept_of spare read k.table)) k.table rest) es
      → AtLoad tag limit out statement start read base es
  then_load statement start read base c spare es from same h =
      let after : law.Commits → Entries → Type 0 = λ k rest. AfterLoad tag limit out statement start read (Some (kept_of spare read k.table)) k.table rest in
      let fails : GetFault ObjectFault → Entries → Type 0 = λ f rest. Ends out spare (refusal_of_load f) rest in
      let gets = then_gets wanted_commit commits_after (out ≡ None) (ByLoad spare out) (IsOpen out spare) fails es inl (λ f q. (refl, q)) inr (λ k rest. after (commits_of k) rest) c h in
      let told = gets_view commits_of wanted_commit commits_after law.next_commit law.apply_next (λ c. refl) (λ c text. commits_told c (law.apply_next (commits_of c) text)) (IsOpen out spare) fails after c es gets in
      let at : law.Commits → Option Kept → Type 0 = λ k o. AtLoad tag limit out statement start read (record { commits = k; spare = o }) es in
      subst (λ (o : Option Kept). at base.commits o) same (subst (λ (k : law.Commits). at k spare) from told)

  -- the newest version is supported
  pub loads_on : (statement : TableStatement) (start : ℕ) (l : List Listed) (kept : Option Kept) (v read : ℕ) (es : Entries) → nat_lt v version_limit ≡ true → read ≡ v
      → LoadsFrom tag limit out statement start l kept read (base_of kept read) es → Loads tag limit out statement start l kept (Some v) es
  loads_on statement start l kept v read es small same h =
      match_true (nat_lt v version_limit) _ _ small (subst (λ (n : ℕ). LoadsFrom tag limit out statement start l kept n (base_of kept n) es) same h)

  -- a commit that is needed isn't listed, unless memory was wanting
  pub no_log : (kept : Option Kept) (r s : Refusal) (es : Entries) → (r ≡ s) ⊎ (r ≡ refusal.NoMemory) → Ends out kept r es → Ends out kept refusal.NoMemory es ⊎ Ends out kept s es
  no_log kept r s es (inl e) h = inr (subst (λ (x : Refusal). Ends out kept x es) e h)
  no_log kept r s es (inr e) h = inl (subst (λ (x : Refusal). Ends out kept x es) e h)

-- memory was wanting for the call of a phase: nothing follows
if_some : {A : Type 0} (o : Option A) (P : Type 0) → IsSome o → IfSome o (λ a. P) → P
if_some None P some h = cc
if_some (Some a) P some h = h

pub unfed_at : (self old new : Stage) → self ≡ old → IsSome (call_of self) → IfSome (call_of old) (λ call. FedBy (Rest old) call NoMemory (Rest new)) → Stops Rest self new
unfed_at self old new is some goes = subst (λ (s : Stage). Stops Rest s new) (sym is) (if_some (call_of old) (Stops Rest old new) (subst (λ (s : Stage). IsSome (call_of s)) is some) goes)
