-- Counted faults of one part after another.
use Rattle.std.proofs.Common.{◌≡◌, ◌⊎◌, inl, inr, ℕ, ◌≤◌, List, [], ◌∷◌, ◌++◌, subst, arith}
use Rattle.edge_api.specs.declared.call.JournalEntry.{JournalEntry}
use Rattle.edge_api.specs.World.{Grows, Rose, FaultHasCause}
use Rattle.actor_core.specs.Faults.{HasFault, FaultsAreCounted}
use Rattle.actor_core.proofs.Pieces.{Told, grows_nothing, grows_more}

fault_in : (p q : List JournalEntry) → HasFault (p ++ q) → HasFault p ⊎ HasFault q
fault_in [] q h = inr h
fault_in (e ∷ p) q (inl here) = inl (inl here)
fault_in (e ∷ p) q (inr there) = elim (fault_in p q there) [ inl before ↦ inl (inr before) | inr after ↦ inr after ]

rose_later : (f g h : ℕ) → Rose f g → g ≤ h → Rose f h
rose_later f g h rose le = omega (arith, rose, le)

rose_before : (f g h : ℕ) → f ≤ g → Rose g h → Rose f h
rose_before f g h le rose = grind arith

-- no call
pub counted_nothing : (j k : Told) (f g : ℕ) → k ≡ j → f ≤ g → FaultsAreCounted j k f g
counted_nothing j k f g same le = record { later = le; part = []; grows = grows_nothing j k same; cause = λ h. absurd h }

-- one call
pub counted_one : (j k : Told) (f g : ℕ) (e : JournalEntry) → Grows j (e ∷ []) k → f ≤ g → FaultHasCause f g e.answer → FaultsAreCounted j k f g
counted_one j k f g e grows le cause = record {
  later = le;
  part = e ∷ [];
  grows = grows;
  cause = λ h. elim h [ inl is ↦ subst (FaultHasCause f g) is cause | inr none ↦ absurd none ];
}

-- one part after the other
pub counted_more : (i j k : Told) (f g h : ℕ) → FaultsAreCounted i j f g → FaultsAreCounted j k g h → FaultsAreCounted i k f h
counted_more i j k f g h first second = record {
  later = omega (arith, first.later, second.later);
  part = first.part ++ second.part;
  grows = grows_more i j k first.part second.part first.grows second.grows;
  cause = λ fault. elim (fault_in first.part second.part fault) [
    | inl before ↦ rose_later f g h (first.cause before) second.later
    | inr after ↦ rose_before f g h first.later (second.cause after)
  ];
}
