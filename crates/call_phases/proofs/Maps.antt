-- A phase whose fault and result are made into others.
use Rattle.std.proofs.Common.{refl, subst}
use Rattle.std.specs.Prelude.{Option, Some, None, IfSome, Ok, Err}
use Rattle.edge_api.specs.declared.call.Call.{Call}
use Rattle.edge_api.specs.declared.actor.Fed.{Fed}
use Rattle.edge_api.specs.declared.actor.Fed.TheVariants as fed
use Rattle.call_phases.specs.Phases.{Entries}
use Rattle.call_phases.specs.Ending.{Ending, Open, Failed, Ended, ThenBy}
use Rattle.call_phases.specs.Endings.{EndsAs, HasEnded, HasFailed, Then, Maps, map_ending}
use Rattle.call_phases.specs.Machine.{Goes}

module _ {F F' X X' : Type 0} (f : F → F') (g : X → X') where
  pub maps_on : (P Q : Entries → Ending F X → Type 0) (es rest : Entries) (o : Ending F' X') → ((o : Ending F X) → P es o → Q rest o) → Maps f g P es o → Maps f g Q rest o
  maps_on P Q es rest o on h = (h.0, on h.0 h.1, h.2)

  -- the result, or the fault, that is handed back
  pub maps_done : (P : Entries → Ending F X → Type 0) (x : X) (es : Entries) (o : Ending F' X') → ((es : Entries) (o : Ending F X) → EndsAs (Ok x) es o → P es o) → HasEnded o (g x) es → Maps f g P es o
  maps_done P x es o ends h = (Ended x es, ends es (Ended x es) refl, h)

  pub maps_failed : (P : Entries → Ending F X → Type 0) (x : F) (es : Entries) (o : Ending F' X') → ((es : Entries) (o : Ending F X) → EndsAs (Err x) es o → P es o) → HasFailed o (f x) es → Maps f g P es o
  maps_failed P x es o ends h = (Failed x, ends es (Failed x) (h.0, refl), h.1)

  follows : (A : Type 0) (B : F' → Type 0) (N : X' → Entries → Type 0) (o : Ending F X) → ThenBy A B N (map_ending f g o) → ThenBy A (λ x. B (f x)) (λ x. N (g x)) o
  follows A B N Open h = h
  follows A B N (Failed x) h = h
  follows A B N (Ended x es) h = h

  -- what follows it, by what was made
  pub then_maps : (P : Entries → Ending F X → Type 0) (A : Type 0) (B : F' → Type 0) (N : X' → Entries → Type 0) (es : Entries) → Then (Maps f g P) A B N es → Then P A (λ x. B (f x)) (λ x. N (g x)) es
  then_maps P A B N es h = (h.1.0, h.1.1, follows A B N h.1.0 (subst (ThenBy A B N) h.1.2 h.2))

  -- it was fed
  pub maps_goes : {P L : Type 0} (rest : P → Entries → Ending F X → Type 0) (Rest : L → Entries → Ending F' X' → Type 0) (old new : P) (before after : L) (oc : Option Call) (input : Fed) → IfSome oc (λ c. Goes rest old c input new)
      → ((es : Entries) (o : Ending F' X') → Rest after es o → Maps f g (rest new) es o) → ((es : Entries) (o : Ending F' X') → Maps f g (rest old) es o → Rest before es o) → IfSome oc (λ c. Goes Rest before c input after)
  maps_goes rest Rest old new before after None input goes on is = tt
  maps_goes rest Rest old new before after (Some c) (fed.Answer answer) goes on is = λ tag es o h. is _ o (maps_on (rest new) (rest old) es _ o (λ o h. goes tag es o h) (on es o h))
  maps_goes rest Rest old new before after (Some c) fed.NoMemory goes on is = λ es o h.
      let m = on es o h in
      let s = goes es m.0 m.1 in
      (s.0, is es o (m.0, s.1, m.2))
