-- A table of the versions below one says what these do.
-- Above Replay; nothing above the crate cites it.
-- The crate's law of replay by versions stands here (versions_agree).
use Rattle.std.proofs.Common.{◌≡◌, ℕ, zero, suc, ◌+◌, ◌<◌, List, [], ◌∷◌, ◌++◌, length, length-append, refl, ◌∙◌, ap, subst, arith}
use Rattle.std.specs.Prelude.{Option, Some, None}
use Rattle.log_actions.specs.declared.action.Action.{Action}
use Rattle.log_state.specs.Table.{Table, next_version, version_from, IsTableOf}
use Rattle.log_state.proofs.Tables.{version_more}
use Rattle.table_files.specs.Commits.{Commit, commit_of}
use Rattle.log_laws.specs.Replay.{AreSaid}
use Rattle.log_laws.specs.Versions.{commits_below, version_below, VersionsAgree}
use Rattle.log_laws.proofs.Replay.{replay_agrees}

newest_is : (says : ℕ → List Action) (v : ℕ) → version_from None (commits_below says v) ≡ version_below v
newest_is says zero = refl
newest_is says (suc v) = version_more None (commits_below says v) (says v) ∙ ap (λ (w : Option ℕ). Some (next_version w)) (newest_is says v) ∙ next_is v
  where
    next_is : (v : ℕ) → Some (next_version (version_below v)) ≡ Some v
    next_is zero = refl
    next_is (suc v) = refl

-- the version of a table of the versions below one
pub table_version : (says : ℕ → List Action) (v : ℕ) (t : Table) → IsTableOf (commits_below says v) t → t.version ≡ version_below v
table_version says v t table = table.version ∙ newest_is says v

module _ (said : ℕ → Commit) where
  said_more : (from : ℕ) (commits : List (List Action)) (all : List Action) → AreSaid said from commits → said (from + length commits) ≡ commit_of all → AreSaid said from (commits ++ all ∷ [])
  said_more from [] all are is = (subst (λ (v : ℕ). said v ≡ commit_of all) (omega arith) is, tt)
  said_more from (c ∷ more) all are is = (are.0, said_more (suc from) more all are.1 (subst (λ (v : ℕ). said v ≡ commit_of all) (omega arith) is))

  module _ (says : ℕ → List Action) where
    so_many : (v : ℕ) → length (commits_below says v) ≡ v
    so_many zero = refl
    so_many (suc v) = length_more (commits_below says v) (says v) ∙ ap suc (so_many v)
      where
        length_more : (commits : List (List Action)) (all : List Action) → length (commits ++ all ∷ []) ≡ suc (length commits)
        length_more commits all = omega (arith, length-append commits (all ∷ []))

    all_said : (v : ℕ) → ((k : ℕ) → k < v → said k ≡ commit_of (says k)) → AreSaid said 0 (commits_below says v)
    all_said zero is = tt
    all_said (suc v) is =
        let here : v ≡ 0 + length (commits_below says v) = let n = so_many v in omega arith in
        said_more 0 (commits_below says v) (says v) (all_said v (λ k lt. is k (omega arith))) (subst (λ (w : ℕ). said w ≡ commit_of (says v)) here (is v (omega arith)))

pub versions_agree : VersionsAgree
versions_agree says said v t is table = (table_version says v t table, replay_agrees said (commits_below says v) t (all_said said says v is) table)
