-- What was loaded is what the commits make.
use Rattle.std.proofs.Common.{◌≡◌, ◌⊎◌, inl, inr, ◌≤◌, ℕ, suc, Bool, true, false, List, [], ◌∷◌, ◌++◌, length, refl, sym, ap, ◌∙◌, subst, append_assoc, append-nil, arith}
use Rattle.std.specs.Prelude.{nat_lt, if◌then◌else◌, Option, Some, None, IfSome, MatchOption, Result, Ok, Err, MatchResult}
use Rattle.std.proofs.lemmas.Bool.Decides.{nat_tests}
use Rattle.row_base.specs.declared.limits.TheConstants.{VERSION_LIMIT}
use Rattle.edge_api.specs.declared.call.Answer.TheVariants.{Body}
use Rattle.edge_api.specs.declared.call.Call.TheVariants.{Get}
use Rattle.edge_api.specs.declared.call.JournalEntry.{JournalEntry}
use Rattle.edge_api.specs.declared.call.Listed.{Listed}
use Rattle.log_actions.specs.Commit.{actions_of}
use Rattle.log_actions.specs.declared.action.Action.{Action}
use Rattle.log_actions.specs.declared.fault.Feature.TheVariants.{Versions}
use Rattle.log_actions.specs.declared.fault.LogFault.{LogFault}
use Rattle.log_state.specs.Table.{Table, IsTableOf, applied, next_version}
use Rattle.table_rules.specs.Names.{commit_text}
use Rattle.call_phases.specs.Phases.{Entries, OnGot}
use Rattle.call_phases.specs.Called.{called_get}
use Rattle.call_phases.specs.Ending.{Ending, Ended}
use Rattle.call_phases.specs.Endings.{IsOpenEnd, HasFailed, HasEnded}
use Rattle.call_phases.specs.Gets.{AtGets, OnReading}
use Rattle.call_phases.specs.declared.gets.GetFault.TheVariants as get
use Rattle.call_phases.proofs.Follow.{on_got}
use Rattle.snapshot_load.specs.declared.fault.LoadFailed.{LoadFailed}
use Rattle.snapshot_load.specs.declared.fault.LoadFault.{LoadFault}
use Rattle.snapshot_load.specs.declared.fault.LoadFault.TheVariants.{NoMemory, NoTable, Unsupported}
use Rattle.snapshot_load.specs.declared.loaded.Asked.TheVariants.{Newest}
use Rattle.snapshot_load.specs.declared.loaded.Loaded.{Loaded}
use Rattle.snapshot_load.specs.Commits.{Commits, next_commit, behind, apply_next, Base, from_first, from_table, is_up_to, base_of}
use Rattle.snapshot_load.specs.Faults.{fault_of_gets}
use Rattle.snapshot_load.specs.Laws.{AreGot, IsReplay, LoadsAreReplays}
use Rattle.snapshot_load.specs.Listing.{newest}
use Rattle.snapshot_load.specs.Loads.{if_supported, fault_of_listing, failed_by, loaded_by, LoadsAll}
use Rattle.snapshot_load.specs.Machine.{LoadsBase}
use Rattle.snapshot_load.proofs.Tables.{none_made, made_more}
use Rattle.snapshot_load.proofs.Versions.{next_is, version_is}

-- the table before these commits is that of others
record Standing (before : List (List Action)) (c : Commits) : Type 0 where
  pub made : IsTableOf before c.table
  pub at : c.at ≡ next_version c.table.version
  pub within : c.at ≤ c.end

-- these commits are got, and make the table with the others
record Got (before : List (List Action)) (c : Commits) (es rest : Entries) (t : Table) : Type 0 where
  pub commits : List (List Action)
  pub got : AreGot c.at commits rest es
  pub table : IsTableOf (before ++ commits) t
  pub end : next_version t.version ≡ c.end

standing_on : (before : List (List Action)) (c : Commits) (actions : List Action) → nat_lt c.at c.end ≡ true → Standing before c → Standing (before ++ actions ∷ []) (record { at = suc c.at; end = c.end; table = applied c.table c.at actions })
standing_on before c actions less s = record { made = made_more before actions c.table c.at s.at s.made; at = refl; within = grind (arith, nat_tests, less) }

module _ (l : List Listed) (spare : Option Table) (loaded : Loaded) (rest : Entries) where
  abbrev ending : Ending LoadFailed Loaded
  ending = Ended loaded rest

  never : {A : Type 0} (f : LoadFailed) (es : Entries) → HasFailed ending f es → A
  never f es h = let e = h.1 in cc

  never_open : {A : Type 0} (f : LoadFailed) → IsOpenEnd f ending → A
  never_open f (inl e) = cc
  never_open f (inr e) = cc

  abbrev AtCommits : Commits → Entries → Type 0
  AtCommits c es =
      AtGets next_commit apply_next (IsOpenEnd (failed_by NoMemory spare) ending) (λ f es. HasFailed ending (failed_by (fault_of_gets f) spare) es) (λ k es. HasEnded ending (loaded_by l k.table spare) es) c es

  -- no commit is left
  at_end : (before : List (List Action)) (c : Commits) (es : Entries) → nat_lt c.at c.end ≡ false → Standing before c → HasEnded ending (loaded_by l c.table spare) es → Got before c es rest loaded.state
  at_end before c es none s h =
      let same : loaded ≡ loaded_by l c.table spare = cc in
      let tail : rest ≡ es = cc in
      let state : loaded.state ≡ c.table = ap (λ (x : Loaded). x.state) same in
      let within = s.within in
      let end : c.at ≡ c.end = grind (arith, nat_tests, none, within) in
      record {
        commits = [];
        got = sym tail;
        table = subst (IsTableOf (before ++ [])) (sym state) (subst (λ (cs : List (List Action)). IsTableOf cs c.table) (sym (append-nil before)) s.made);
        end = ap (λ (t : Table). next_version t.version) state ∙ sym s.at ∙ end;
      }

  -- the first commit's body came
  module _ (before : List (List Action)) (c : Commits) (e : JournalEntry) (es : Entries) (less : nat_lt c.at c.end ≡ true) (s : Standing before c) (called : e.call ≡ Get (commit_text c.at))
      (again : (actions : List Action) (new : Commits) → Standing (before ++ actions ∷ []) new → AtCommits new es → Got (before ++ actions ∷ []) new es rest loaded.state) where
    one_more : (body : List ℕ) (actions : List Action) → e.answer ≡ Body body → actions_of body ≡ Ok actions → AtCommits (record { at = suc c.at; end = c.end; table = applied c.table c.at actions }) es
        → Got before c (e ∷ es) rest loaded.state
    one_more body actions answered reads h =
        let got = again actions (record { at = suc c.at; end = c.end; table = applied c.table c.at actions }) (standing_on before c actions less s) h in
        record {
          commits = actions ∷ got.commits;
          got = (called, body, answered, reads, got.got);
          table = subst (λ (cs : List (List Action)). IsTableOf cs loaded.state) (append_assoc before (actions ∷ []) got.commits) got.table;
          end = got.end;
        }

    by_actions : (body : List ℕ) (name : List ℕ) (r : Result (List Action) LogFault) → e.answer ≡ Body body → actions_of body ≡ r
        → OnReading (behind c r) (λ f. HasFailed ending (failed_by (fault_of_gets (get.Bad name f)) spare) es) (λ new. AtCommits new es) → Got before c (e ∷ es) rest loaded.state
    by_actions body name (Ok actions) answered reads h = one_more body actions answered reads h
    by_actions body name (Err f) answered reads h = never _ es h

    by_body : (body : List ℕ) → e.answer ≡ Body body → HasFailed ending (failed_by NoMemory spare) es ⊎ OnReading (apply_next c body) (λ f. HasFailed ending (failed_by (fault_of_gets (get.Bad (commit_text c.at) f)) spare) es) (λ new. AtCommits new es)
        → Got before c (e ∷ es) rest loaded.state
    by_body body answered (inl h) = never _ es h
    by_body body answered (inr h) = by_actions body (commit_text c.at) (actions_of body) answered refl h

  gets_replay : (before : List (List Action)) (c : Commits) (es : Entries) → Standing before c → AtCommits c es → Got before c es rest loaded.state
  gets_replay before c [] s h = by (nat_lt c.at c.end) refl h
    where
      by : (b : Bool) → nat_lt c.at c.end ≡ b → MatchOption (if b then Some (commit_text c.at) else None) (HasEnded ending (loaded_by l c.table spare) []) (λ name. IsOpenEnd (failed_by NoMemory spare) ending) → Got before c [] rest loaded.state
      by true less h = never_open _ h
      by false none h = at_end before c [] none s h
  gets_replay before c (e ∷ es) s h = by (nat_lt c.at c.end) refl h (λ actions new. gets_replay (before ++ actions ∷ []) new es)
    where
      by : (b : Bool) → nat_lt c.at c.end ≡ b
          → MatchOption (if b then Some (commit_text c.at) else None) (HasEnded ending (loaded_by l c.table spare) (e ∷ es))
          (λ name. (e.call ≡ Get name) × OnGot e.answer (HasFailed ending (failed_by (fault_of_gets (get.Fault (called_get name))) spare) es) (HasFailed ending (failed_by (fault_of_gets (get.Missing name)) spare) es)
          (λ body. HasFailed ending (failed_by NoMemory spare) es ⊎ OnReading (apply_next c body) (λ f. HasFailed ending (failed_by (fault_of_gets (get.Bad name f)) spare) es) (λ new. AtCommits new es)))
          → ((actions : List Action) (new : Commits) → Standing (before ++ actions ∷ []) new → AtCommits new es → Got (before ++ actions ∷ []) new es rest loaded.state) → Got before c (e ∷ es) rest loaded.state
      by true less h again = on_got e.answer h.1 (λ a x. never _ es x) (λ a x. never _ es x) (λ body a x. by_body before c e es less s h.0 again body a x)
      by false none h again = at_end before c (e ∷ es) none s h

-- where a load begins, the table is that of the kept one's commits or of none
record Begins (before : List (List Action)) (version : ℕ) (base : Base) : Type 0 where
  pub first : List (List Action)
  pub from : (first ≡ []) ⊎ (first ≡ before)
  pub standing : Standing first base.commits
  pub end : base.commits.end ≡ suc version

begins_first : (before : List (List Action)) (spare : Option Table) (version : ℕ) → Begins before version (from_first spare version)
begins_first before spare version = record { first = []; from = inl refl; standing = record { made = none_made; at = refl; within = omega arith }; end = refl }

begins_at : (before : List (List Action)) (kept : Option Table) (version : ℕ) → IfSome kept (IsTableOf before) → Begins before version (base_of kept version)
begins_at before None version known = begins_first before None version
begins_at before (Some t) version known = by (is_up_to version t.version) refl
  where
    within : (o : Option ℕ) → is_up_to version o ≡ true → next_version o ≤ suc version
    within None up = omega arith
    within (Some w) up = let le : w ≤ version = grind (arith, nat_tests, up) in omega arith

    by : (b : Bool) → is_up_to version t.version ≡ b → Begins before version (if b then from_table t version else from_first (Some t) version)
    by true up = record { first = before; from = inr refl; standing = record { made = known; at = refl; within = within t.version up }; end = refl }
    by false later = begins_first before (Some t) version

module _ (l : List Listed) (kept : Option Table) (before : List (List Action)) (es rest : Entries) (loaded : Loaded) (known : IfSome kept (IsTableOf before)) where
  from_base : (version : ℕ) (base : Base) → newest l ≡ Some version → Begins before version base → LoadsBase l base es (Ended loaded rest) → IsReplay before l es rest loaded.state
  from_base version base is b h =
      let got = gets_replay l base.spare loaded rest b.first base.commits es b.standing h in
      let at : base.commits.at ≡ length b.first = b.standing.at ∙ next_is b.first base.commits.table b.standing.made in
      record {
        first = b.first;
        from = b.from;
        commits = got.commits;
        got = subst (λ (n : ℕ). AreGot n got.commits rest es) at got.got;
        table = got.table;
        version = version_is loaded.state.version version (got.end ∙ b.end) ∙ sym is;
      }

  abbrev Fails : LoadFault → Type 0
  Fails f = HasFailed (Ended loaded rest) (failed_by f kept) es

  none_failed : {A : Type 0} (f : LoadFault) → Fails f → A
  none_failed f h = let e = h.1 in cc

  abbrev From : ℕ → Type 0
  From v = Fails NoMemory ⊎ MatchOption (fault_of_listing l v (base_of kept v).commits) (LoadsBase l (base_of kept v) es (Ended loaded rest)) Fails

  by_listing : (version : ℕ) → newest l ≡ Some version → (o : Option LoadFault) → MatchOption o (LoadsBase l (base_of kept version) es (Ended loaded rest)) Fails → IsReplay before l es rest loaded.state
  by_listing version is None h = from_base version (base_of kept version) is (begins_at before kept version known) h
  by_listing version is (Some f) h = none_failed f h

  by_version : (version : ℕ) → newest l ≡ Some version → (b : Bool) → MatchResult (if b then Ok version else Err (Unsupported Versions)) From Fails → IsReplay before l es rest loaded.state
  by_version version is true (inl h) = none_failed NoMemory h
  by_version version is true (inr h) = by_listing version is (fault_of_listing l version (base_of kept version).commits) h
  by_version version is false h = none_failed (Unsupported Versions) h

  by_newest : (o : Option ℕ) → newest l ≡ o → MatchResult (if_supported o) From Fails → IsReplay before l es rest loaded.state
  by_newest None is h = none_failed NoTable h
  by_newest (Some version) is h = by_version version is (nat_lt version VERSION_LIMIT) h

  replays : LoadsAll Newest l kept es (Ended loaded rest) → IsReplay before l es rest loaded.state
  replays h = by_newest (newest l) refl h

pub all_replays : LoadsAreReplays
all_replays l kept before es rest loaded known h = replays l kept before es rest loaded known h
