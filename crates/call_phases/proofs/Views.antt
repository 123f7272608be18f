-- Gets by a reader, told of what the reader stands for: a law names no struct of the program.
use Rattle.std.proofs.Common.{◌≡◌, ◌⊎◌, ℕ, List, [], ◌∷◌, subst}
use Rattle.std.specs.Prelude.{Option, MatchOption, Result, Ok, Err}
use Rattle.edge_api.specs.declared.call.Call.TheVariants.{Get}
use Rattle.call_phases.specs.Phases.{Entries, OnGot}
use Rattle.call_phases.proofs.Follow.{map_got}
use Rattle.call_phases.proofs.FollowLists.{map_option, map_either}
use Rattle.call_phases.specs.declared.gets.GetFault.{GetFault}
use Rattle.call_phases.specs.declared.gets.GetFault.TheVariants as get
use Rattle.call_phases.specs.Called.{called_get}
use Rattle.call_phases.specs.Gets.{OnReading, AtGets}
use Rattle.call_phases.specs.Views.{result_by}

module _ {R S E : Type 0} (view : R → S) where
  map_reading : (r : Result R E) (B : E → Type 0) (N : R → Type 0) (M : S → Type 0) → ((new : R) → N new → M (view new)) → OnReading r B N → OnReading (result_by view r) B M
  map_reading (Ok new) B N M n h = n new h
  map_reading (Err f) B N M n h = h

  module _ (wants : R → Option (List ℕ)) (after : R → List ℕ → Result R E) (wanted : S → Option (List ℕ)) (next : S → List ℕ → Result S E)
      (same : (r : R) → wants r ≡ wanted (view r)) (steps : (r : R) (body : List ℕ) → result_by view (after r body) ≡ next (view r) body) (O : Type 0) (F : GetFault E → Entries → Type 0) (N : S → Entries → Type 0) where
    pub gets_view : (r : R) (es : Entries) → AtGets wants after O F (λ r rest. N (view r) rest) r es → AtGets wanted next O F N (view r) es
    gets_view r [] h = subst (λ o. MatchOption o (N (view r) []) (λ name. O)) (same r) h
    gets_view r (e ∷ es) h =
        let on : List ℕ → Type 0 = λ name.
        (e.call ≡ Get name) × OnGot e.answer (F (get.Fault (called_get name)) es) (F (get.Missing name) es)
        (λ body. F get.NoMemory es ⊎ OnReading (next (view r) body) (λ f. F (get.Bad name f) es) (λ new. AtGets wanted next O F N new es)) in
        subst (λ o. MatchOption o (N (view r) (e ∷ es)) on) (same r)
        (map_option (wants r) _ _ _ on (λ h. h)
        (λ name h. (
          h.0,
          map_got e.answer _ _ _ _ _ _ (λ h. h) (λ h. h)
              (λ body. map_either (λ h. h) (λ h. subst (λ s. OnReading s (λ f. F (get.Bad name f) es) (λ new. AtGets wanted next O F N new es)) (steps r body)
              (map_reading (after r body) _ _ (λ new. AtGets wanted next O F N new es) (λ new. gets_view new es) h))) h.1,
        )) h)
