-- The table that gets of commits load, by what is known of the commits.
use Rattle.std.proofs.Common.{◌≡◌, ℕ, suc, ◌≤◌, ◌<◌, Bool, true, false, List, refl, sym, subst, arith}
use Rattle.std.specs.Prelude.{Option, Some, None, Ok, nat_lt, if◌then◌else◌}
use Rattle.std.proofs.lemmas.Bool.Decides.{nat_tests}
use Rattle.table_rules.specs.Names.{commit_text}
use Rattle.snapshot_replay.specs.Table.{Commit, applied}
use Rattle.statement_calls.specs.declared.finish.Kept.{Kept}
use Rattle.statement_calls.specs.Texts.{read_commit, commit_fault}
use Rattle.statement_calls.specs.Objects.{Commits, next_commit, behind, apply_next}
use Rattle.statement_calls.specs.Answered.{Base, from_first, base_of, kept_after}
use Rattle.table_laws.proofs.Sessions.{LoadedTo, KnownKept}
use Rattle.table_laws.proofs.Known.{loaded_more}

-- commits up to an end, with the table of those before
pub record Loading (knows : List ℕ → List ℕ → Type 0) (end : ℕ) (c : Commits) : Type 0 where
  pub loaded : LoadedTo knows c.at c.table
  pub within : c.at ≤ c.end
  pub same : c.end ≡ end

pub loading_more : (G H : List ℕ → List ℕ → Type 0) → ((n b : List ℕ) → G n b → H n b) → (end : ℕ) (c : Commits) → Loading G end c → Loading H end c
loading_more G H more end c x = record { loaded = loaded_more G H more c.at c.table x.loaded; within = x.within; same = x.same }

-- one commit more
pub loading_on : (knows : List ℕ → List ℕ → Type 0) (end : ℕ) (c new : Commits) (name body : List ℕ) → next_commit c ≡ Some name → knows name body → apply_next c body ≡ Ok new → Loading knows end c → Loading knows end new
loading_on knows end c new name body wanted known is x = by (nat_lt c.at c.end) refl wanted
  where
    with_commit : (t : Commit) → c.at < c.end → commit_text c.at ≡ name → read_commit c.at body ≡ Some t → record { at = suc c.at; end = c.end; table = applied c.table t } ≡ new → Loading knows end new
    with_commit t less same reads made =
        let le : suc c.at ≤ c.end = omega arith in
        subst (λ (n : Commits). Loading knows end n) made
        (record { loaded = (c.table, body, t, x.loaded, subst (λ (n : List ℕ). knows n body) (sym same) known, reads, refl); within = le; same = x.same })

    by_commit : (o : Option Commit) → read_commit c.at body ≡ o → c.at < c.end → commit_text c.at ≡ name → behind c (commit_fault c.at body) o ≡ Ok new → Loading knows end new
    by_commit None reads less same made = cc
    by_commit (Some t) reads less same made = with_commit t less same reads (cc)

    by : (b : Bool) → nat_lt c.at c.end ≡ b → (if b then Some (commit_text c.at) else None) ≡ Some name → Loading knows end new
    by true less first = by_commit (read_commit c.at body) refl (grind (arith, nat_tests)) (cc) is
    by false more first = cc

-- no commit is left
pub all_loaded : (knows : List ℕ → List ℕ → Type 0) (end : ℕ) (c : Commits) → next_commit c ≡ None → Loading knows end c → LoadedTo knows end c.table
all_loaded knows end c none x = subst (λ (n : ℕ). LoadedTo knows n c.table) (by (nat_lt c.at c.end) refl none) x.loaded
  where
    by : (b : Bool) → nat_lt c.at c.end ≡ b → (if b then Some (commit_text c.at) else None) ≡ None → c.at ≡ end
    by true less first = cc
    by false more first = let le = x.within in let same = x.same in let above : c.end ≤ c.at = grind (arith, nat_tests) in omega arith

abbrev base_if : Kept → ℕ → Bool → Base
base_if k v b = if b then from_first (Some k) v else record { commits = record { at = k.versions; end = suc v; table = k.state }; spare = None }

module _ (knows : List ℕ → List ℕ → Type 0) where
  -- a load begins with what is kept, or with no table
  pub base_known : (kept : Option Kept) (v : ℕ) → KnownKept knows kept → Loading knows (suc v) (base_of kept v).commits × KnownKept knows (base_of kept v).spare
  base_known None v held = let le : 0 ≤ suc v = omega arith in (record { loaded = refl; within = le; same = refl }, tt)
  base_known (Some k) v held = by (nat_lt (suc v) k.versions) refl
    where
      by : (b : Bool) → nat_lt (suc v) k.versions ≡ b → Loading knows (suc v) (base_if k v b).commits × KnownKept knows (base_if k v b).spare
      by true more = let le : 0 ≤ suc v = omega arith in (record { loaded = refl; within = le; same = refl }, held)
      by false less = let le : k.versions ≤ suc v = grind (arith, nat_tests) in (record { loaded = held; within = le; same = refl }, tt)

  -- what is kept after a load
  pub after_known : (spare : Option Kept) (loaded : Kept) → KnownKept knows spare → LoadedTo knows loaded.versions loaded.state → KnownKept knows (Some (kept_after spare loaded))
  after_known None loaded held known = known
  after_known (Some k) loaded held known = held
