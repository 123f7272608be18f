-- Keys, one at a time from the last.
use Rattle.std.proofs.Common.{◌≡◌, ◌==◌, ◌<◌, ◌≤◌, ℕ, ◌-◌, suc, zero, true, List, [], ◌∷◌, length, drop, Some, arith, refl, subst}
use Rattle.std.specs.Prelude.{slice_get}
use Rattle.std.specs.List.{list_all}
use Rattle.std.proofs.lemmas.Bool.{and_parts, eqb-true}
use Rattle.row_base.specs.declared.row.Datum.{Datum}
use Rattle.predicates.specs.Kleene.{kleene_or}
use Rattle.prune.specs.declared.column.ColumnFacts.{ColumnFacts}
use Rattle.prune.specs.Facts.{key_if_there, keys_by}
use Rattle.prune.specs.Sets.{pairs}

pub same_length : (n : ℕ) (ks : List (List Datum)) (i : ℕ) (d : List Datum) → list_all (λ k. length k == n) ks ≡ true → slice_get ks i ≡ Some d → length d ≡ n
same_length n [] i d e is = cc
same_length n (k ∷ ks) zero d e is =
    let same : k ≡ d = cc in
    subst (λ x. length x ≡ n) same (eqb-true (length k) n (and_parts (length k == n) (list_all (λ k. length k == n) ks) e).0)
same_length n (k ∷ ks) (suc i) d e is = same_length n ks i d (and_parts (length k == n) (list_all (λ k. length k == n) ks) e).1 is

keys_step : (fs : List ColumnFacts) (cs : List ℕ) (ks : List (List Datum)) (i : ℕ) → i < length ks → keys_by fs cs (drop i ks) ≡ pairs kleene_or (key_if_there fs cs (slice_get ks i)) (keys_by fs cs (drop (suc i) ks))
unfolding keys_by
keys_step fs cs [] i l = absurd (omega (arith, l))
keys_step fs cs (k ∷ ks) zero l = refl
keys_step fs cs (k ∷ ks) (suc i) l = keys_step fs cs ks i (omega (arith, l))

-- the truths of the keys from the one before on
pub keys_before : (fs : List ColumnFacts) (cs : List ℕ) (ks : List (List Datum)) (i : ℕ) → 0 < i → i ≤ length ks → keys_by fs cs (drop (i - 1) ks) ≡ pairs kleene_or (key_if_there fs cs (slice_get ks (i - 1))) (keys_by fs cs (drop i ks))
keys_before fs cs ks zero p l = absurd (omega (arith, p))
keys_before fs cs ks (suc i) p l = let e : suc i - 1 ≡ i = omega arith in rw e (keys_step fs cs ks i (omega (arith, l)))
