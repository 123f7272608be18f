-- One more file that may be wanted, and how many there are.
use Rattle.std.proofs.Common.{◌≡◌, ℕ, suc, ◌+◌, ◌≤◌, ◌<◌, List, [], ◌∷◌, ◌++◌, length, map, drop, get_or, arith, refl, sym, ap, ◌∙◌, subst, append_assoc}
use Rattle.std.proofs.lemmas.List.{at_drop_more}
use Rattle.std.specs.Prelude.{Option, Some, None, Result, Ok, Err}
use Rattle.log_actions.specs.declared.action.AddFile.{AddFile}
use Rattle.row_base.specs.Faults.{◌>>=◌}
use Rattle.row_base.specs.Schema.{TableSchema}
use Rattle.predicates.specs.declared.pred.Pred.{Pred}
use Rattle.scan.specs.declared.fault.ScanFault.{ScanFault}
use Rattle.scan.specs.declared.wanted.WantedFile.{WantedFile}
use Rattle.scan.specs.Files.{if_wanted, before, wanted_in, with_last}

-- a file put last, before others, is one before the others
one_more : (files more : List WantedFile) (first : Option WantedFile) → files ++ before first more ≡ with_last files first ++ more
one_more files more None = refl
one_more files more (Some f) = sym (append_assoc files (f ∷ []) more)

-- what a further file adds to the others, and to those that come after it
pub step : (files : List WantedFile) (first : Option WantedFile) (rest : Result (List WantedFile) ScanFault)
    → (rest >>= λ more. Ok (with_last files first ++ more)) ≡ ((rest >>= λ more. Ok (before first more)) >>= λ more. Ok (files ++ more))
step files first (Ok more) = ap Ok (sym (one_more files more first))
step files first (Err e) = refl

module _ {X : Type 0} (schema : TableSchema) (pred : Pred ℕ) (now : X → AddFile) where
  -- the files so far, before those that are wanted of the files that are left
  pub goes_on : (xs : List X) (i : ℕ) (x : X) (files after : List WantedFile) (first : Option WantedFile) (whole : Result (List WantedFile) ScanFault) → i < length xs → x ≡ get_or xs i x
      → if_wanted schema pred (now x) ≡ Ok first → after ≡ with_last files first → (wanted_in schema pred (map now (drop i xs)) >>= λ more. Ok (files ++ more)) ≡ whole
      → (wanted_in schema pred (map now (drop (i + 1) xs)) >>= λ more. Ok (after ++ more)) ≡ whole
  unfolding wanted_in
  goes_on xs i x files after first whole lt here first_is after_is so_far =
      let rest = drop (i + 1) xs in
      let all : List X → Result (List WantedFile) ScanFault = λ l. wanted_in schema pred (map now l) >>= λ more. Ok (files ++ more) in
      ap (λ (n : List WantedFile). wanted_in schema pred (map now rest) >>= λ more. Ok (n ++ more)) after_is ∙ step files first (wanted_in schema pred (map now rest))
      ∙ ap (λ (r : Result (Option WantedFile) ScanFault). (r >>= λ first. wanted_in schema pred (map now rest) >>= λ more. Ok (before first more)) >>= λ more. Ok (files ++ more)) (sym first_is)
      ∙ ap (λ (y : X). all (y ∷ rest)) here ∙ sym (at_drop_more all xs i x lt) ∙ so_far

  more_before : (n : ℕ) (first : Option WantedFile) (more : List WantedFile) → length more ≤ n → length (before first more) ≤ suc n
  more_before n None more fewer = omega (arith, fewer)
  more_before n (Some f) more fewer = omega (arith, fewer)

  -- no more files are wanted than there are
  pub few : (xs : List X) (wanted : List WantedFile) → wanted_in schema pred (map now xs) ≡ Ok wanted → length wanted ≤ length xs
  unfolding wanted_in
  few [] wanted is = let none : [] ≡ wanted = cc in subst (λ (w : List WantedFile). length w ≤ 0) none (omega arith)
  few (x ∷ xs) wanted is = by (if_wanted schema pred (now x)) (wanted_in schema pred (map now xs)) (few xs) is
    where
      by : (first : Result (Option WantedFile) ScanFault) (rest : Result (List WantedFile) ScanFault) → ((more : List WantedFile) → rest ≡ Ok more → length more ≤ length xs)
          → (first >>= λ first. rest >>= λ more. Ok (before first more)) ≡ Ok wanted → length wanted ≤ suc (length xs)
      by (Ok first) (Ok more) fewer is =
          let all : before first more ≡ wanted = cc in
          subst (λ (w : List WantedFile). length w ≤ suc (length xs)) all (more_before (length xs) first more (fewer more refl))
      by (Ok first) (Err e) fewer is = cc
      by (Err e) rest fewer is = cc
