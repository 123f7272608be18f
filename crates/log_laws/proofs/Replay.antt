-- The table that commits leave says what they do, from version to version.
-- Above Commits; nothing above the crate cites it.
-- The crate's laws of replay stand here (replay_agrees, each_step_agrees, each_commit_applies, listing_agrees).
use Rattle.std.proofs.Common.{◌≡◌, ℕ, List, [], ◌∷◌, refl, sym, ◌∙◌, ap, subst}
use Rattle.std.specs.Prelude.{Option, Some, None, option_map}
use Rattle.log_actions.specs.declared.action.MetaData.{MetaData}
use Rattle.log_actions.specs.declared.action.Txn.{Txn as TxnAction}
use Rattle.log_actions.specs.declared.action.Action.{Action}
use Rattle.log_state.specs.Newest.{actions_in, newer, newest, metadata_in, txn_on, action_on, live_by}
use Rattle.log_state.specs.Stamps.{stamp_in, stamp_after, stamp_from}
use Rattle.log_state.specs.Table.{txn_of, action_of, next_version, version_from}
use Rattle.log_state.proofs.Newer.{newest_append, newer_assoc, newer_none}
use Rattle.table_files.specs.Files.{File, file_in}
use Rattle.table_files.specs.Commits.{Commit, commit_of}
use Rattle.table_changes.specs.Table.{reconciled, file_at, number_in}
use Rattle.log_laws.specs.Replay.{AreSaid, stamp_said, files_at, meta_at, number_at, stamp_at, ReplayAgrees, EachStepAgrees}
use Rattle.log_laws.proofs.Commits.{behind, live_newer, file_after, meta_said, number_of, number_newer, number_said, time_said}

-- ---- one more version

module _ (said : ℕ → Commit) where
  files_next : (w : Option ℕ) → files_at said (Some (next_version w)) ≡ reconciled (files_at said w) (said (next_version w)).lines
  files_next None = refl
  files_next (Some v) = refl

  meta_next : (w : Option ℕ) → meta_at said (Some (next_version w)) ≡ newer (meta_at said w) (said (next_version w)).meta
  meta_next None = sym (newer_none (said 0).meta)
  meta_next (Some v) = refl

  number_next : (app : List ℕ) (w : Option ℕ) → number_at said app (Some (next_version w)) ≡ newer (number_at said app w) (number_in app (said (next_version w)).txns)
  number_next app None = sym (newer_none (number_in app (said 0).txns))
  number_next app (Some v) = refl

  stamp_next : (w : Option ℕ) → stamp_at said (Some (next_version w)) ≡ Some (stamp_after (stamp_at said w) (stamp_said (said (next_version w))))
  stamp_next None = refl
  stamp_next (Some v) = refl

  -- of a commit that the version says
  module _ (w : Option ℕ) (all : List Action) (is : said (next_version w) ≡ commit_of all) where
    file_step : (p : List ℕ) (old new : Option Action) → option_map file_in (live_by old) ≡ file_at p (files_at said w) → new ≡ newer old (newest (action_on p) all)
        → option_map file_in (live_by new) ≡ file_at p (files_at said (Some (next_version w)))
    file_step p old new h at =
        ap (λ (o : Option Action). option_map file_in (live_by o)) at
        ∙ live_newer old (newest (action_on p) all)
        ∙ ap (λ (o : Option File). behind o (newest (action_on p) all)) h
        ∙ sym (file_after p all (files_at said w))
        ∙ ap (λ (t : Commit). file_at p (reconciled (files_at said w) t.lines)) (sym is)
        ∙ ap (file_at p) (sym (files_next w))

    meta_step : (old new : Option MetaData) → old ≡ meta_at said w → new ≡ newer old (newest metadata_in all) → new ≡ meta_at said (Some (next_version w))
    meta_step old new h at =
        at ∙ ap (λ (o : Option MetaData). newer o (newest metadata_in all)) h
        ∙ ap (newer (meta_at said w)) (sym (meta_said all))
        ∙ ap (λ (t : Commit). newer (meta_at said w) t.meta) (sym is)
        ∙ sym (meta_next w)

    number_step : (app : List ℕ) (old new : Option TxnAction) → number_of old ≡ number_at said app w → new ≡ newer old (newest (txn_on app) all) → number_of new ≡ number_at said app (Some (next_version w))
    number_step app old new h at =
        ap number_of at
        ∙ number_newer old (newest (txn_on app) all)
        ∙ ap (λ (o : Option ℕ). newer o (number_of (newest (txn_on app) all))) h
        ∙ ap (newer (number_at said app w)) (sym (number_said app all))
        ∙ ap (λ (t : Commit). newer (number_at said app w) (number_in app t.txns)) (sym is)
        ∙ sym (number_next app w)

    stamp_step : (old : Option ℕ) → old ≡ stamp_at said w → Some (stamp_after old (stamp_in all)) ≡ stamp_at said (Some (next_version w))
    stamp_step old h =
        ap (λ (o : Option ℕ). Some (stamp_after o (stamp_in all))) h
        ∙ ap (λ (o : Option ℕ). Some (stamp_after (stamp_at said w) o)) (sym (time_said all))
        ∙ ap (λ (t : Commit). Some (stamp_after (stamp_at said w) (stamp_said t))) (sym is)
        ∙ sym (stamp_next w)

pub each_step_agrees : EachStepAgrees
each_step_agrees said old new commit agrees is applied =
    let w = old.version in record {
      file = λ path. subst (λ (v : Option ℕ). option_map file_in (live_by (action_of new path)) ≡ file_at path (files_at said v)) (sym applied.version)
          (file_step said w commit is path (action_of old path) (action_of new path) (agrees.file path) (applied.action path));
      meta = meta_step said w commit is old.meta new.meta agrees.meta applied.meta ∙ ap (meta_at said) (sym applied.version);
      number = λ app. number_step said w commit is app (txn_of old app) (txn_of new app) (agrees.number app) (applied.txn app) ∙ ap (number_at said app) (sym applied.version);
      stamp = applied.stamp ∙ stamp_step said w commit is old.stamp agrees.stamp ∙ ap (stamp_at said) (sym applied.version);
    }

-- ---- all versions

module _ (said : ℕ → Commit) where
  one_more : {A : Type 0} (part : Action → Option A) (old : Option A) (commit : List Action) (more : List (List Action))
      → newer old (newest part (actions_in (commit ∷ more))) ≡ newer (newer old (newest part commit)) (newest part (actions_in more))
  one_more part old commit more = ap (newer old) (newest_append part commit (actions_in more)) ∙ sym (newer_assoc old (newest part commit) (newest part (actions_in more)))

  all_files : (p : List ℕ) (commits : List (List Action)) (w : Option ℕ) (old : Option Action) → AreSaid said (next_version w) commits → option_map file_in (live_by old) ≡ file_at p (files_at said w)
      → option_map file_in (live_by (newer old (newest (action_on p) (actions_in commits)))) ≡ file_at p (files_at said (version_from w commits))
  unfolding newest
  all_files p [] w old are h = h
  all_files p (c ∷ more) w old are h =
      ap (λ (o : Option Action). option_map file_in (live_by o)) (one_more (action_on p) old c more)
      ∙ all_files p more (Some (next_version w)) (newer old (newest (action_on p) c)) are.1 (file_step said w c are.0 p old (newer old (newest (action_on p) c)) h refl)

  all_meta : (commits : List (List Action)) (w : Option ℕ) (old : Option MetaData) → AreSaid said (next_version w) commits → old ≡ meta_at said w
      → newer old (newest metadata_in (actions_in commits)) ≡ meta_at said (version_from w commits)
  unfolding newest
  all_meta [] w old are h = h
  all_meta (c ∷ more) w old are h =
      one_more metadata_in old c more ∙ all_meta more (Some (next_version w)) (newer old (newest metadata_in c)) are.1 (meta_step said w c are.0 old (newer old (newest metadata_in c)) h refl)

  all_numbers : (app : List ℕ) (commits : List (List Action)) (w : Option ℕ) (old : Option TxnAction) → AreSaid said (next_version w) commits → number_of old ≡ number_at said app w
      → number_of (newer old (newest (txn_on app) (actions_in commits))) ≡ number_at said app (version_from w commits)
  unfolding newest
  all_numbers app [] w old are h = h
  all_numbers app (c ∷ more) w old are h =
      ap number_of (one_more (txn_on app) old c more)
      ∙ all_numbers app more (Some (next_version w)) (newer old (newest (txn_on app) c)) are.1 (number_step said w c are.0 app old (newer old (newest (txn_on app) c)) h refl)

  all_stamps : (commits : List (List Action)) (w old : Option ℕ) → AreSaid said (next_version w) commits → old ≡ stamp_at said w → stamp_from old commits ≡ stamp_at said (version_from w commits)
  all_stamps [] w old are h = h
  all_stamps (c ∷ more) w old are h = all_stamps more (Some (next_version w)) (Some (stamp_after old (stamp_in c))) are.1 (stamp_step said w c are.0 old h)

pub replay_agrees : ReplayAgrees
replay_agrees said commits t are is =
    let all = actions_in commits in record {
      file = λ path. ap (λ (o : Option Action). option_map file_in (live_by o)) (is.reconciled.action path ∙ sym (newer_none (newest (action_on path) all)))
          ∙ all_files said path commits None None are refl ∙ ap (λ (v : Option ℕ). file_at path (files_at said v)) (sym is.version);
      meta = is.reconciled.meta ∙ sym (newer_none (newest metadata_in all)) ∙ all_meta said commits None None are refl ∙ ap (meta_at said) (sym is.version);
      number = λ app. ap number_of (is.reconciled.txn app ∙ sym (newer_none (newest (txn_on app) all))) ∙ all_numbers said app commits None None are refl ∙ ap (number_at said app) (sym is.version);
      stamp = is.stamp ∙ all_stamps said commits None None are refl ∙ ap (stamp_at said) (sym is.version);
    }
