-- Phases of several calls may be told by what follows them: gets, puts and deletions.
use Rattle.std.proofs.Common.{◌≡◌, ◌⊎◌, inl, inr, ℕ, List, [], ◌∷◌}
use Rattle.std.specs.Prelude.{Option, Some, None, MatchOption, Result, Ok, Err}
use Rattle.call_phases.specs.Phases.{Entries}
use Rattle.call_phases.proofs.Follow.{map_got, map_put_new, map_delete}
use Rattle.call_phases.specs.declared.fault.CallFault.{CallFault}
use Rattle.call_phases.specs.declared.fault.CallFault.TheVariants as fault
use Rattle.call_phases.specs.declared.gets.GetFault.{GetFault}
use Rattle.call_phases.specs.declared.gets.GetFault.TheVariants as get
use Rattle.call_phases.specs.declared.puts.File.{File}
use Rattle.call_phases.specs.declared.puts.PutFault.{PutFault}
use Rattle.call_phases.specs.declared.puts.PutFault.TheVariants as put
use Rattle.call_phases.specs.Ending.{Ending}
use Rattle.call_phases.specs.Endings.{IsOpenEnd, HasFailed, HasEnded}
use Rattle.call_phases.specs.Called.{called_get, called_put, called_delete}
use Rattle.call_phases.specs.Gets.{OnReading, AtGets, GetsAll}
use Rattle.call_phases.specs.Puts.{AtPuts}
use Rattle.call_phases.specs.Delete.{AtDeletes}

pub map_option : {A : Type 0} (o : Option A) (P P' : Type 0) (Q Q' : A → Type 0) → (P → P') → ((a : A) → Q a → Q' a) → MatchOption o P Q → MatchOption o P' Q'
map_option None P P' Q Q' p q h = p h
map_option (Some a) P P' Q Q' p q h = q a h

map_reading : {R F : Type 0} (r : Result R F) (B B' : F → Type 0) (N N' : R → Type 0) → ((f : F) → B f → B' f) → ((new : R) → N new → N' new) → OnReading r B N → OnReading r B' N'
map_reading (Ok new) B B' N N' b n h = n new h
map_reading (Err f) B B' N N' b n h = b f h

pub map_either : {A A' B B' : Type 0} → (A → A') → (B → B') → A ⊎ B → A' ⊎ B'
map_either a b (inl h) = inl (a h)
map_either a b (inr h) = inr (b h)

match_none : {A : Type 0} (o : Option A) (P : Type 0) (Q : A → Type 0) → o ≡ None → P → MatchOption o P Q
match_none None P Q is h = h
match_none (Some a) P Q is h = cc

module _ {R E : Type 0} (wants : R → Option (List ℕ)) (after : R → List ℕ → Result R E) where
  -- nothing is wanted any more
  pub none_wanted : (O : Type 0) (F : GetFault E → Entries → Type 0) (N : R → Entries → Type 0) (r : R) (es : Entries) → wants r ≡ None → N r es → AtGets wants after O F N r es
  none_wanted O F N r [] is h = match_none (wants r) _ _ is h
  none_wanted O F N r (e ∷ es) is h = match_none (wants r) _ _ is h

  pub read_all : (r : R) (es : Entries) (o : Ending (GetFault E) R) → wants r ≡ None → HasEnded o r es → GetsAll wants after r es o
  read_all r es o is h = none_wanted (IsOpenEnd get.NoMemory o) (HasFailed o) (HasEnded o) r es is h

  module _ {O P : Type 0} (o : O → P) (F G : GetFault E → Entries → Type 0) (N M : R → Entries → Type 0) (f : (x : GetFault E) (es : Entries) → F x es → G x es) (n : (r : R) (es : Entries) → N r es → M r es) where
    pub map_gets : (r : R) (es : Entries) → AtGets wants after O F N r es → AtGets wants after P G M r es
    map_gets r [] h = map_option (wants r) _ _ _ _ (n r []) (λ name. o) h
    map_gets r (e ∷ es) h =
        map_option (wants r) _ _ _ _ (n r (e ∷ es))
        (λ name h. (
          h.0,
          map_got e.answer _ _ _ _ _ _ (f (get.Fault (called_get name)) es) (f (get.Missing name) es)
              (λ body. map_either (f get.NoMemory es) (map_reading (after r body) _ _ _ _ (λ x. f (get.Bad name x) es) (λ new. map_gets new es))) h.1,
        )) h

module _ {O P : Type 0} (o : O → P) (F G : PutFault → Entries → Type 0) (N M : Entries → Type 0) (f : (x : PutFault) (es : Entries) → F x es → G x es) (n : (es : Entries) → N es → M es) where
  pub map_puts : (fs : List File) (es : Entries) → AtPuts O F N fs es → AtPuts P G M fs es
  map_puts [] es h = n es h
  map_puts (x ∷ fs) es h = map_put_new o x.name x.body _ _ _ _ _ _ es (f (put.Fault (called_put x.name))) (map_puts fs) (f (put.NameTaken x.name)) h

module _ {O P : Type 0} (o : O → P) (F G : CallFault → Entries → Type 0) (N M : Entries → Type 0) (f : (x : CallFault) (es : Entries) → F x es → G x es) (n : (es : Entries) → N es → M es) where
  pub map_deletes : (names : List (List ℕ)) (es : Entries) → AtDeletes O F N names es → AtDeletes P G M names es
  map_deletes [] es h = n es h
  map_deletes (x ∷ names) es h = map_delete o x _ _ _ _ es (f (fault.Fault (called_delete x))) (map_deletes names) h
