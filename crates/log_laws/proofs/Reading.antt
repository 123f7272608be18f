-- Over what the versions below say each version's text reads as the actions of its plan: by all below, from version 0 on.
-- Above Written and Stamps; nothing above the crate cites it.
-- The crate's laws on versions stand here (each_plan_fits, same_text_is_own, each_version_reads, inserts_read).
use Rattle.std.proofs.Common.{◌≡◌, ◌⊎◌, inl, inr, ℕ, zero, suc, ◌+◌, ◌≤◌, ◌<◌, ◌^◌, ◌-◌, List, [], ◌∷◌, ◌++◌, refl, sym, ◌∙◌, ap, subst, arith}
use Rattle.std.specs.Prelude.{Option, Some, None, Result, IfSome}
use Rattle.log_actions.specs.declared.action.CommitInfo.{CommitInfo}
use Rattle.log_actions.specs.declared.action.Action.{Action}
use Rattle.log_actions.specs.declared.fault.LogFault.{LogFault}
use Rattle.log_actions.specs.Twice.{is_on_path}
use Rattle.log_actions.specs.Whole.{IsVersion, IsStamp, IsWhole, AreWhole}
use Rattle.log_state.specs.Newest.{actions_in, newer, newest, action_on}
use Rattle.log_state.specs.Stamps.{first_info, stamp_in}
use Rattle.log_state.proofs.Newer.{newest_append}
use Rattle.log_state.proofs.Owns.{of_newer, if_passed}
use Rattle.log_state.proofs.Tables.{actions_more}
use Rattle.table_files.specs.Commits.{Commit}
use Rattle.commit_plans.specs.declared.plan.CommitPlan.{CommitPlan}
use Rattle.commit_plans.specs.Plans.{next_stamp, actions_at}
use Rattle.commit_plans.proofs.Wholes.{table_is_whole, insert_is_whole}
use Rattle.log_laws.specs.Written.{said_by}
use Rattle.log_laws.specs.Versions.{commits_below, stamp_below, Rises, or_nothing, actions_by, NewestAreWhole, IsPlanned, ArePlanned, Fits, HasRead, EachPlanFits, SameTextIsOwn, EachVersionReads, IsMade, plan_of, clock_of, said_of, InsertsRead}
use Rattle.log_laws.proofs.Written.{written_reads, in_words, insert_is}
use Rattle.log_laws.proofs.Versions.{table_version}
use Rattle.log_laws.proofs.Stamps.{at_least, HasStamp, rises_at, stamp_next, more_stamps}

-- ---- the newest actions are whole

newest_whole : (path : List ℕ) (earlier all : List Action) → AreWhole earlier all → IfSome (newest (action_on path) all) IsWhole
unfolding newest
newest_whole path earlier [] whole = tt
newest_whole path earlier (a ∷ more) whole =
    of_newer IsWhole (action_on path a) (newest (action_on path) more) (if_passed IsWhole a (is_on_path path a) (λ e. whole.0)) (newest_whole path (earlier ++ a ∷ []) more whole.2)

none_newest : NewestAreWhole []
unfolding newest
none_newest path = tt

whole_more : (commits : List (List Action)) (all : List Action) → NewestAreWhole commits → AreWhole [] all → NewestAreWhole (commits ++ all ∷ [])
whole_more commits all before whole path =
    subst (λ (o : Option Action). IfSome o IsWhole) (sym (ap (newest (action_on path)) (actions_more commits all) ∙ newest_append (action_on path) (actions_in commits) all))
    (of_newer IsWhole (newest (action_on path) (actions_in commits)) (newest (action_on path) all) (before path) (newest_whole path [] all whole))

-- ---- one version over all below

module _ (texts : ℕ → List ℕ) where
  abbrev says : ℕ → List Action
  says = actions_by texts

  record Below (v : ℕ) : Type 0 where
    stamps : (k : ℕ) → k < v → HasStamp says k
    newest : (k : ℕ) → k ≤ v → NewestAreWhole (commits_below says k)

  -- of a text that was planned for it
  module _ (v : ℕ) (small : v < 2 ^ 60) (below : Below v) (text : List ℕ) (is : IsPlanned texts v text) where
    abbrev stamp : ℕ
    stamp = next_stamp is.plan.last is.now

    rises : Rises says v stamp
    rises = subst (λ (o : Option ℕ). Rises says v (next_stamp o is.now)) (sym is.last) (rises_at says v is.now below.stamps is.in_time)

    whole : AreWhole [] (actions_at is.plan is.now)
    whole = let most = rises.most in is.whole (omega arith) below.newest

    fits : Fits texts v text is.plan is.now (said_by is.plan is.now)
    fits = record { reads = written_reads text is.plan is.now whole is.writes; rises = rises; whole = whole }

  -- of its own text
  module _ (v : ℕ) (small : v < 2 ^ 60) (below : Below v) (is : IsPlanned texts v (texts v)) where
    fits_own : Fits texts v (texts v) is.plan is.now (said_by is.plan is.now)
    fits_own = fits v small below (texts v) is

    said : says v ≡ actions_at is.plan is.now
    said = ap or_nothing fits_own.reads.actions

    stamp_now : stamp_below says (suc v) ≡ Some (next_stamp is.plan.last is.now)
    stamp_now = stamp_next says v (next_stamp is.plan.last is.now) (ap stamp_in said ∙ fits_own.reads.stamp)

    newest_now : NewestAreWhole (commits_below says (suc v))
    newest_now = whole_more (commits_below says v) (says v) (below.newest v (omega arith)) (subst (AreWhole []) (sym said) fits_own.whole)

    claimed : HasRead texts v is.plan is.now (said_by is.plan is.now)
    claimed = record { fits = fits_own; says = said; stamp = stamp_now; newest = newest_now }

    one_more : Below (suc v)
    one_more = record {
      stamps = more_stamps says v (record { stamp = next_stamp is.plan.last is.now; is = stamp_now; rises = fits_own.rises }) below.stamps;
      newest = λ k le. by k le (at_least k v);
    }
      where
        by : (k : ℕ) → k ≤ suc v → (k ≤ v) ⊎ (v < k) → NewestAreWhole (commits_below says k)
        by k le (inl before) = below.newest k before
        by k le (inr beyond) = let here : suc v ≡ k = omega arith in subst (λ (j : ℕ). NewestAreWhole (commits_below says j)) here newest_now

  none_below : Below 0
  none_below = record {
    stamps = λ k lt. absurd (omega arith);
    newest = λ k le. let first : 0 ≡ k = omega arith in subst (λ (j : ℕ). NewestAreWhole (commits_below says j)) first none_newest;
  }

  below_all : (v : ℕ) → v ≤ 2 ^ 60 → ArePlanned texts v → Below v
  below_all zero le facts = none_below
  below_all (suc v) le facts = one_more v (omega arith) (below_all v (omega arith) (λ k lt. facts k (omega arith))) (facts v (omega arith))

pub each_plan_fits : EachPlanFits
each_plan_fits texts v small facts text is = fits texts v small (below_all texts v (omega arith) facts) text is

pub each_version_reads : EachVersionReads
each_version_reads texts top few facts v lt = claimed texts v (omega arith) (below_all texts v (omega arith) (λ k below. facts k (omega arith))) (facts v lt)

-- the statement that actions name
abbrev or_no_id : Option (List ℕ) → List ℕ
or_no_id None = []
or_no_id (Some id) = id

abbrev id_in : Option CommitInfo → List ℕ
id_in None = []
id_in (Some i) = or_no_id i.txn_id

pub same_text_is_own : SameTextIsOwn
unfolding first_info
same_text_is_own texts v small facts text one other =
    let mine = (each_plan_fits texts v small facts text one).reads.actions in
    let theirs = (each_plan_fits texts v small facts text other).reads.actions in
    ap (λ (r : Result (List Action) LogFault). id_in (first_info (or_nothing r))) (sym mine ∙ theirs)

-- ---- a table's making, and inserts

version_small : (read : ℕ) (version : Option ℕ) → read < 2 ^ 60 → version ≡ Some read → IfSome version IsVersion
version_small read version small is = subst (λ (o : Option ℕ). IfSome o IsVersion) (sym is) (omega arith)

last_small : (last : Option ℕ) (now : ℕ) → IsStamp (next_stamp last now) → IfSome last (λ s. s < 2 ^ 62)
last_small None now small = tt
last_small (Some s) now small = omega arith

now_small : (last : Option ℕ) (now : ℕ) → IsStamp (next_stamp last now) → IsStamp now
now_small None now small = small
now_small (Some s) now small = omega arith

abbrev planned : (texts : ℕ → List ℕ) (v : ℕ) → v < 2 ^ 60 → IsMade texts v → IsPlanned texts v (texts v)
planned texts zero small m = record {
  plan = plan_of texts 0 m;
  now = m.now;
  writes = m.writes;
  last = refl;
  in_time = m.in_time;
  whole = λ stamp below. table_is_whole m.id m.start m.level m.schema m.partition m.properties m.now m.amount stamp m.sorted;
}
planned texts (suc v) small m = record {
  plan = plan_of texts (suc v) m;
  now = m.now;
  writes = m.writes;
  last = refl;
  in_time = m.in_time;
  whole = λ stamp below.
      let before = m.below in
      let last = stamp_below (actions_by texts) (suc v) in
      insert_is_whole m.table m.id m.level m.txn m.files last m.now (version_small m.read m.table.version (omega arith) (table_version (actions_by texts) (suc m.read) m.table m.loaded)) (last_small last m.now stamp) (now_small last m.now stamp)
      m.known m.whole m.apart;
}

said_so : (texts : ℕ → List ℕ) (v : ℕ) (plan : CommitPlan) (now : ℕ) (said other : Commit) → said ≡ other → HasRead texts v plan now said → HasRead texts v plan now other
said_so texts v plan now said other same h = record {
  fits = record { reads = in_words (texts v) plan now said other same h.fits.reads; rises = h.fits.rises; whole = h.fits.whole };
  says = h.says;
  stamp = h.stamp;
  newest = h.newest;
}

of_made : (texts : ℕ → List ℕ) (v : ℕ) (small : v < 2 ^ 60) (m : IsMade texts v)
    → HasRead texts v (planned texts v small m).plan (planned texts v small m).now (said_by (planned texts v small m).plan (planned texts v small m).now) → HasRead texts v (plan_of texts v m) (clock_of texts v m) (said_of texts v m)
of_made texts zero small m h = h
of_made texts (suc v) small m h =
    said_so texts (suc v) (plan_of texts (suc v) m) m.now (said_by (plan_of texts (suc v) m) m.now) (said_of texts (suc v) m)
    (insert_is (stamp_below (actions_by texts) (suc v)) m.table m.id m.level m.txn m.files m.now m.changes) h

few_below : (top v : ℕ) → top ≤ 2 ^ 60 → v < top → v < 2 ^ 60
few_below top v few lt = omega arith

pub inserts_read : InsertsRead
inserts_read texts top few facts v lt =
    of_made texts v (few_below top v few lt) (facts v lt) (each_version_reads texts top few (λ k below. planned texts k (few_below top k few below) (facts k below)) v lt)
