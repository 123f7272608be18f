-- Stamps rise from version to version, and stay near the readings of the clock.
-- Below Reading; nothing above the crate cites it.
-- The crate's law on stamps stands here (stamps_rise).
use Rattle.std.proofs.Common.{◌≡◌, ◌⊎◌, inl, inr, ℕ, zero, suc, ◌+◌, ◌≤◌, ◌<◌, ◌^◌, max, Bool, true, false, List, [], ◌∷◌, refl, sym, ◌∙◌, ap, subst, arith}
use Rattle.std.specs.Prelude.{Option, Some, None, nat_le}
use Rattle.std.proofs.lemmas.Bool.Decides.{nat_tests}
use Rattle.row_base.specs.declared.limits.TheConstants.{LAST_TIME}
use Rattle.log_actions.specs.declared.action.Action.{Action}
use Rattle.log_state.specs.Stamps.{stamp_in, stamp_after}
use Rattle.log_state.proofs.Stamps.{stamp_append}
use Rattle.commit_plans.specs.Plans.{next_stamp}
use Rattle.log_laws.specs.Versions.{commits_below, stamp_below, Rises, IsStamped, StampsRise}

pub at_least : (v w : ℕ) → (v ≤ w) ⊎ (w < v)
at_least v w = by (nat_le v w) refl
  where
    by : (b : Bool) → nat_le v w ≡ b → (v ≤ w) ⊎ (w < v)
    by true e = inl (grind (arith, nat_tests))
    by false e = inr (grind (arith, nat_tests))

module _ (says : ℕ → List Action) where
  -- a version that has a stamp, over all below it
  pub record HasStamp (v : ℕ) : Type 0 where
    pub stamp : ℕ
    pub is : stamp_below says (suc v) ≡ Some stamp
    pub rises : Rises says v stamp

  pub most_at : (v now : ℕ) → ((k : ℕ) → k < v → HasStamp k) → now ≤ LAST_TIME → next_stamp (stamp_below says v) now ≤ LAST_TIME + v
  most_at zero now all in_time = omega arith
  most_at (suc v) now all in_time =
      let h = all v (omega arith) in
      let most = h.rises.most in
      subst (λ (o : Option ℕ). next_stamp o now ≤ LAST_TIME + suc v) (sym h.is) (omega arith)

  above_at : (v now : ℕ) → ((k : ℕ) → k < v → HasStamp k) → (k s : ℕ) → k ≤ v → stamp_below says k ≡ Some s → s < next_stamp (stamp_below says v) now
  above_at zero now all k s le is =
      let first : k ≡ 0 = omega arith in
      let bad : None ≡ Some s = subst (λ (j : ℕ). stamp_below says j ≡ Some s) first is in
      cc
  above_at (suc v) now all k s le is = subst (λ (o : Option ℕ). s < next_stamp o now) (sym h.is) (by (at_least k v))
    where
      h : HasStamp v
      h = all v (omega arith)

      by : (k ≤ v) ⊎ (v < k) → s < max now (suc h.stamp)
      by (inl below) = let lt = h.rises.above k s below is in omega arith
      by (inr beyond) =
          let here : k ≡ suc v = omega arith in
          let there : Some h.stamp ≡ Some s = sym h.is ∙ subst (λ (j : ℕ). stamp_below says j ≡ Some s) here is in
          let same : h.stamp ≡ s = cc in
          omega arith

  pub rises_at : (v now : ℕ) → ((k : ℕ) → k < v → HasStamp k) → now ≤ LAST_TIME → Rises says v (next_stamp (stamp_below says v) now)
  rises_at v now all in_time = record { most = most_at v now all in_time; above = above_at v now all }

  -- the stamp of a commit that says one
  pub stamp_next : (v stamp : ℕ) → stamp_in (says v) ≡ Some stamp → stamp_below says (suc v) ≡ Some stamp
  stamp_next v stamp said = stamp_append None (commits_below says v) (says v ∷ []) ∙ ap (λ (o : Option ℕ). Some (stamp_after (stamp_below says v) o)) said

  pub more_stamps : (v : ℕ) → HasStamp v → ((k : ℕ) → k < v → HasStamp k) → (k : ℕ) → k < suc v → HasStamp k
  more_stamps v h all k lt = by (at_least v k)
    where
      by : (v ≤ k) ⊎ (k < v) → HasStamp k
      by (inl here) = let same : v ≡ k = omega arith in subst HasStamp same h
      by (inr below) = all k below

  module _ (top : ℕ) (facts : (k : ℕ) → k < top → IsStamped says k) where
    all_below : (v : ℕ) → v ≤ top → (k : ℕ) → k < v → HasStamp k
    all_below zero le k lt = absurd (omega arith)
    all_below (suc v) le k lt =
        let below = all_below v (omega arith) in
        let f = facts v (omega arith) in
        let stamp = next_stamp (stamp_below says v) f.now in
        more_stamps v (record { stamp = stamp; is = stamp_next v stamp f.is; rises = rises_at v f.now below f.in_time }) below k lt

pub stamps_rise : StampsRise
stamps_rise says top facts v lt =
    let f = facts v lt in (stamp_next says v (next_stamp (stamp_below says v) f.now) f.is, rises_at says v f.now (all_below says top facts v (omega arith)) f.in_time)
