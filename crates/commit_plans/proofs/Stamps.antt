-- The stamp of a plan's commit is above those before it.
use Rattle.std.proofs.Common.{◌≡◌, ◌≤◌, ◌<◌, ◌^◌, ℕ, Bool, true, false, nat_le, if◌then◌else◌, List, [], ◌∷◌, ◌++◌, Option, Some, None, IfSome, refl, sym, ap, ◌∙◌, subst, arith}
use Rattle.std.proofs.lemmas.Bool.Decides.{nat_tests}
use Rattle.std.specs.Cmp.{nat_cmp_is}
use Rattle.std.specs.List.{AllByRecursion}
use Rattle.std.specs.List.Sorted.{IsStrictlySortedBy}
use Rattle.std.specs.Ordering.{nat_cmp}
use Rattle.std.specs.declared.cmp.Ordering.TheVariants.{Less}
use Rattle.log_actions.specs.declared.action.Action.{Action}
use Rattle.log_state.specs.Stamps.{stamp_in, stamp_after, stamp_from, stamps_from, first_info, if_stamp}
use Rattle.log_state.proofs.Stamps.{stamp_append}
use Rattle.row_base.specs.declared.limits.TheConstants.{LAST_TIME}
use Rattle.commit_plans.specs.declared.plan.CommitPlan.{CommitPlan}
use Rattle.commit_plans.specs.Plans.{actions_at, behind, behind_all, next_stamp}
use Rattle.commit_plans.specs.Laws.{StampRises, StampsRise}

-- a commit that says the next stamp has it, also where it is too late to count
counted : (last : Option ℕ) (now : ℕ) → now ≤ LAST_TIME → stamp_after last (if_stamp (next_stamp last now)) ≡ next_stamp last now
counted last now early = by last (nat_le (next_stamp last now) (2 ^ 62)) refl
  where
    by : (last : Option ℕ) (b : Bool) → nat_le (next_stamp last now) (2 ^ 62) ≡ b → stamp_after last (if b then Some (next_stamp last now) else None) ≡ next_stamp last now
    by last true e = refl
    by None false e = absurd (grind (arith, nat_tests, e, early))
    by (Some l) false e = grind (arith, nat_tests, e, early)

own : (plan : CommitPlan) (now : ℕ) → now ≤ LAST_TIME → stamp_after plan.last (stamp_in (actions_at plan now)) ≡ next_stamp plan.last now
unfolding stamp_in first_info
own plan now early = counted plan.last now early

above : (last : Option ℕ) (now : ℕ) → IfSome last (λ l. l < next_stamp last now)
above None now = tt
above (Some l) now = omega arith

clock : (last : Option ℕ) (now : ℕ) → now ≤ next_stamp last now
clock None now = omega arith
clock (Some l) now = omega arith

is_less : (x y : ℕ) → x < y → nat_cmp x y ≡ Less
is_less x y h = sym (nat_cmp_is x y Less h)

less_is : (x y : ℕ) → nat_cmp x y ≡ Less → x ≤ y
less_is x y h = grind (arith, nat_tests, h)

-- a number below all stamps is below one more that is above the newest
all_more : (x s n : ℕ) (cs : List (List Action)) (a : List Action) → x ≤ s → AllByRecursion (λ y. nat_cmp x y ≡ Less) (stamps_from (Some s) cs)
    → stamp_after (stamp_from (Some s) cs) (stamp_in a) ≡ n → IfSome (stamp_from (Some s) cs) (λ l. l < n) → AllByRecursion (λ y. nat_cmp x y ≡ Less) (stamps_from (Some s) (cs ++ a ∷ []))
all_more x s n [] a low all is high = (subst (λ m. nat_cmp x m ≡ Less) (sym is) (is_less x n (omega (arith, low, high))), tt)
all_more x s n (c ∷ cs) a low all is high =
    let t = stamp_after (Some s) (stamp_in c) in
    (all.0, all_more x t n cs a (less_is x t all.0) all.1 is high)

rising : (last : Option ℕ) (n : ℕ) (cs : List (List Action)) (a : List Action) → stamp_after (stamp_from last cs) (stamp_in a) ≡ n → IfSome (stamp_from last cs) (λ l. l < n)
    → IsStrictlySortedBy nat_cmp (stamps_from last cs) → IsStrictlySortedBy nat_cmp (stamps_from last (cs ++ a ∷ []))
unfolding IsStrictlySortedBy
rising last n [] a is high sorted = (tt, tt)
rising last n (c ∷ cs) a is high sorted =
    let t = stamp_after last (stamp_in c) in
    (all_more t t n cs a (omega arith) sorted.0 is high, rising (Some t) n cs a is high sorted.1)

last_behind : (plan : CommitPlan) (ws : List (List Action)) → (behind_all plan ws).last ≡ stamp_from plan.last ws
last_behind plan [] = refl
last_behind plan (w ∷ ws) = last_behind (behind plan w) ws

over : (commits : List (List Action)) (plan : CommitPlan) (now : ℕ) → plan.last ≡ stamp_from None commits → now ≤ LAST_TIME → StampRises commits plan now
over commits plan now last early =
    let mine = actions_at plan now in
    let high : IfSome (stamp_from None commits) (λ l. l < next_stamp plan.last now) = subst (λ o. IfSome o (λ l. l < next_stamp plan.last now)) last (above plan.last now) in
    let is : stamp_after (stamp_from None commits) (stamp_in mine) ≡ next_stamp plan.last now = ap (λ o. stamp_after o (stamp_in mine)) (sym last) ∙ own plan now early in
    record {
      said = stamp_append None commits (mine ∷ []) ∙ ap Some is;
      clock = clock plan.last now;
      above = high;
      rising = rising None (next_stamp plan.last now) commits mine is high;
    }

pub stamps_rise : StampsRise
stamps_rise commits winners table plan now is last early =
    over (commits ++ winners) (behind_all plan winners) now
    (last_behind plan winners ∙ ap (λ o. stamp_from o winners) (last ∙ is.stamp) ∙ sym (stamp_append None commits winners)) early
