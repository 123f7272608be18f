-- What is planned is whole.
use Rattle.std.proofs.Common.{◌≡◌, ◌<◌, ◌^◌, ℕ, Bool, true, false, ◌||◌, List, [], ◌∷◌, ◌++◌, map, Option, Some, None, IfSome, refl, arith}
use Rattle.std.specs.List.{list_any}
use Rattle.std.specs.List.Sorted.{IsStrictlySortedBy}
use Rattle.log_actions.specs.declared.action.AddFile.{AddFile}
use Rattle.log_actions.specs.declared.action.Txn.{Txn}
use Rattle.log_actions.specs.declared.action.Action.{Action}
use Rattle.log_actions.specs.declared.action.Action.TheVariants as actions
use Rattle.log_actions.specs.Twice.{is_of_application, is_on_path, is_twice}
use Rattle.log_actions.specs.Whole.{AreWhole, IsStamp, IsWhole}
use Rattle.commit_plans.specs.declared.plan.CommitPlan.{CommitPlan}
use Rattle.commit_plans.specs.Plans.{info_at, next_stamp, insert_plan, txn_actions}
use Rattle.commit_plans.specs.Made.{made_protocol, made_metadata}
use Rattle.commit_plans.specs.Laws.{NoneHas, AreApart, AreWholeFiles, TablePlansAreWhole, InsertPlansAreWhole}

pub table_is_whole : TablePlansAreWhole
unfolding made_protocol made_metadata is_twice IsStrictlySortedBy
table_is_whole id start level schema partition properties now amount small sorted = ((small, tt), refl, ((omega arith, omega arith), refl, ((tt, amount, sorted), refl, tt)))

-- none of the earlier actions is on the path of a file
abbrev AreFresh : List Action → List AddFile → Type 0
AreFresh earlier [] = Unit {0}
AreFresh earlier (f ∷ fs) = (list_any (is_on_path f.path) earlier ≡ false) × AreFresh earlier fs

any_more : (p : Action → Bool) (earlier : List Action) (a : Action) → list_any p earlier ≡ false → p a ≡ false → list_any p (earlier ++ a ∷ []) ≡ false
any_more p [] a h e = rw e refl
any_more p (x ∷ xs) a h e = by (p x) h (λ g. any_more p xs a g e)
  where
    by : (b : Bool) → (b || list_any p xs) ≡ false → (list_any p xs ≡ false → list_any p (xs ++ a ∷ []) ≡ false) → (b || list_any p (xs ++ a ∷ [])) ≡ false
    by true h rest = absurd cc
    by false h rest = rest h

fresh_after : (earlier : List Action) (f : AddFile) (fs : List AddFile) → AreFresh earlier fs → NoneHas f.path fs → AreFresh (earlier ++ actions.Add f ∷ []) fs
fresh_after earlier f [] fresh apart = tt
fresh_after earlier f (g ∷ gs) fresh apart = (any_more (is_on_path g.path) earlier (actions.Add f) fresh.0 apart.0, fresh_after earlier f gs fresh.1 apart.1)

adds_are_whole : (earlier : List Action) (fs : List AddFile) → AreFresh earlier fs → AreWholeFiles fs → AreApart fs → AreWhole earlier (map actions.Add fs)
unfolding is_twice
adds_are_whole earlier [] fresh whole apart = tt
adds_are_whole earlier (f ∷ fs) fresh whole apart = (whole.0, fresh.0, adds_are_whole (earlier ++ actions.Add f ∷ []) fs (fresh_after earlier f fs fresh.1 apart.0) whole.1 apart.1)

fresh_first : (earlier : List Action) (fs : List AddFile) → ((q : List ℕ) → list_any (is_on_path q) earlier ≡ false) → AreFresh earlier fs
fresh_first earlier [] none = tt
fresh_first earlier (f ∷ fs) none = (none f.path, fresh_first earlier fs none)

stamp_is_small : (last : Option ℕ) (now : ℕ) → IfSome last (λ s. s < 2 ^ 62) → IsStamp now → IsStamp (next_stamp last now)
stamp_is_small None now below small = small
stamp_is_small (Some s) now below small = omega arith

pub insert_is_whole : InsertPlansAreWhole
unfolding is_twice
insert_is_whole table id level txn files last now version below small known whole apart =
    let plan : CommitPlan = record (insert_plan table id level txn files) { last = last } in
    ((stamp_is_small last now below small, version), refl, rest (actions.Info (info_at plan now)) txn known (λ q. refl) (λ q. refl))
  where
    rest : (info : Action) (txn : Option Txn) → IfSome txn (λ x. IsWhole (actions.Txn x)) → ((q : List ℕ) → is_on_path q info ≡ false) → ((q : List ℕ) → is_of_application q info ≡ false)
        → AreWhole (info ∷ []) (txn_actions txn ++ map actions.Add files)
    rest info None known none first = adds_are_whole (info ∷ []) files (fresh_first (info ∷ []) files (λ q. rw (none q) refl)) whole apart
    rest info (Some t) known none first = (
      known,
      rw (first t.app_id) refl,
      adds_are_whole (info ∷ actions.Txn t ∷ []) files (fresh_first (info ∷ actions.Txn t ∷ []) files (λ q. rw (none q) refl)) whole apart,
    )
