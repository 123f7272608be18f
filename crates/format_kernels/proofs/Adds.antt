-- Added files are whole and none stands twice, so their text is read back.
use Rattle.std.proofs.Common.{◌≡◌, ℕ, zero, suc, ◌+◌, ◌^◌, ◌<◌, ◌≤◌, false, List, [], ◌∷◌, ◌++◌, length, map, refl, sym, ap, subst, ◌∙◌, arith, zero-add, lit≤}
use Rattle.std.specs.List.{range_with_len, list_any}
use Rattle.std.specs.List.Sorted.{IsStrictlySortedBy}
use Rattle.std.proofs.lemmas.List.FromFn.{map-range_with_len_more, length-map-range_with_len}
use Rattle.log_actions.specs.declared.action.Action.{Action}
use Rattle.log_actions.specs.declared.action.Action.TheVariants as actions
use Rattle.log_actions.specs.declared.action.AddFile.{AddFile}
use Rattle.log_actions.specs.Commit.{max_bytes}
use Rattle.log_actions.specs.Grammar.{Commit}
use Rattle.log_actions.specs.Twice.{is_twice, is_on_path}
use Rattle.log_actions.specs.Whole.{IsWhole, AreWhole}
use Rattle.format_kernels.specs.Commits.{path_of, file_of, adds}
use Rattle.format_kernels.proofs.Paths.{path_named, path_inside, other_path}

abbrev add : ℕ → Action
add number = actions.Add (file_of number)

adds_more : (n : ℕ) → adds n ++ add n ∷ [] ≡ adds (n + 1)
adds_more n = sym (map-range_with_len_more add 0 n n (zero-add n))

pub adds_next : (n : ℕ) (file : AddFile) (old new : List Action) → old ≡ adds n → file ≡ file_of n → new ≡ old ++ actions.Add file ∷ [] → new ≡ adds (n + 1)
adds_next n file old new before is e = e ∙ (rw (before, is) (adds_more n))

pub length-adds : (n : ℕ) → length (adds n) ≡ n
length-adds n = length-map-range_with_len add 0 n

file_whole : (n : ℕ) → n < 2 ^ 64 → IsWhole (add n)
unfolding file_of IsStrictlySortedBy
file_whole n low = (record { named = path_named n low; inside = path_inside n low }, tt, lit≤ tt, lit≤ tt, tt)

none_on_path : (from count n : ℕ) → from + count ≤ n → n < 2 ^ 64 → list_any (is_on_path (path_of n)) (map add (range_with_len from count)) ≡ false
unfolding file_of
none_on_path from zero n before low = refl
none_on_path from (suc count) n before low = rw (other_path from n (omega arith) low, none_on_path (from + 1) count n (omega arith) low) refl

not_twice : (n : ℕ) → n < 2 ^ 64 → is_twice (adds n) (add n) ≡ false
unfolding is_twice file_of
not_twice n low = none_on_path 0 n n (omega arith) low

whole_from : (from count : ℕ) (earlier : List Action) → earlier ≡ adds from → from + count ≤ 2 ^ 32 → AreWhole earlier (map add (range_with_len from count))
whole_from from zero earlier e few = tt
whole_from from (suc count) earlier e few = (
  file_whole from (omega arith),
  rw e (not_twice from (omega arith)),
  whole_from (from + 1) count (earlier ++ add from ∷ []) (ap (λ (all : List Action). all ++ add from ∷ []) e ∙ adds_more from) (omega arith),
)

adds_whole : (count : ℕ) → count < 2 ^ 32 → AreWhole [] (adds count)
adds_whole count few = whole_from 0 count [] refl (omega arith)

-- ---- the text is read

pub text_says : (text : List ℕ) (all : List Action) (n count : ℕ) → all ≡ adds n → n ≡ count → count < 2 ^ 32
    → (AreWhole [] all → length text ≤ max_bytes → Commit text all) → length text ≤ max_bytes → Commit text (adds count)
text_says text all n count made done few back short =
    let is : all ≡ adds count = made ∙ ap (λ (k : ℕ). adds k) done in
    subst (λ (some : List Action). Commit text some) is (back (subst (λ (some : List Action). AreWhole [] some) (sym is) (adds_whole count few)) short)
