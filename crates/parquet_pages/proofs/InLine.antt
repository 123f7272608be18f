-- Steps of reading PLAIN values one behind the other.
use Rattle.std.proofs.Common.{◌≡◌, ℕ, suc, ◌+◌, ◌-◌, ◌<◌, ◌≤◌, List, [], ◌∷◌, ◌++◌, refl, sym, ap, ◌∙◌, arith, append_assoc, Option, Some, None, option_map}
use Rattle.std.proofs.lemmas.List.{append-nil}
use Rattle.row_base.specs.declared.row.Datum.{Datum}
use Rattle.row_base.specs.declared.row.Kind.{Kind}
use Rattle.parquet_pages.specs.declared.fault.BodyFault.{BodyFault}
use Rattle.parquet_pages.specs.declared.fault.BodyFault.TheVariants as body
use Rattle.parquet_pages.specs.Gives.{Fails}
use Rattle.parquet_pages.specs.Plain.{plain_value, values_in_line}

-- what is read of the rest, behind what was read before
abbrev pub Behind : List Datum → Option (List Datum) → Option (List Datum) → Type 0
Behind before rest whole = option_map (λ vs. before ++ vs) rest ≡ whole

next_value : (k : Kind) (count : ℕ) (rest : List ℕ) (v : Datum) (behind : List ℕ) → plain_value k rest ≡ Some (v, behind)
    → values_in_line k (suc count) rest ≡ option_map (λ (vs : List Datum). v ∷ vs) (values_in_line k count behind)
unfolding values_in_line
next_value k count rest v behind e = rw e refl

no_value : (k : Kind) (count : ℕ) (rest : List ℕ) → plain_value k rest ≡ None → values_in_line k (suc count) rest ≡ None
unfolding values_in_line
no_value k count rest e = rw e refl

left : (count i : ℕ) → i < count → count - i ≡ suc (count - (i + 1))
left count i lt = omega arith

one_further : (before : List Datum) (v : Datum) (o : Option (List Datum))
    → option_map (λ (vs : List Datum). (before ++ v ∷ []) ++ vs) o ≡ option_map (λ (vs : List Datum). before ++ vs) (option_map (λ (vs : List Datum). v ∷ vs) o)
one_further before v (Some vs) = ap Some (append_assoc before (v ∷ []) vs)
one_further before v None = refl

pub value_more : (k : Kind) (count i : ℕ) (rest behind : List ℕ) (before after : List Datum) (v : Datum) (whole : Option (List Datum)) → i < count
    → plain_value k rest ≡ Some (v, behind) → Behind before (values_in_line k (count - i) rest) whole → after ≡ before ++ v ∷ []
    → Behind after (values_in_line k (count - (i + 1)) behind) whole
value_more k count i rest behind before after v whole lt e so_far pushed =
    ap (λ (vs : List Datum). option_map (λ (ws : List Datum). vs ++ ws) (values_in_line k (count - (i + 1)) behind)) pushed
    ∙ one_further before v (values_in_line k (count - (i + 1)) behind)
    ∙ ap (λ (o : Option (List Datum)). option_map (λ (vs : List Datum). before ++ vs) o) (sym (next_value k (count - (i + 1)) rest v behind e))
    ∙ ap (λ n. option_map (λ (vs : List Datum). before ++ vs) (values_in_line k n rest)) (sym (left count i lt))
    ∙ so_far

pub value_fails : (f : BodyFault) (k : Kind) (count i : ℕ) (rest : List ℕ) (before : List Datum) (whole : Option (List Datum)) → i < count
    → Fails f (plain_value k rest) → Behind before (values_in_line k (count - i) rest) whole → Fails f whole
value_fails body.Damaged k count i rest before whole lt e so_far =
    sym so_far ∙ ap (λ n. option_map (λ (vs : List Datum). before ++ vs) (values_in_line k n rest)) (left count i lt)
    ∙ ap (λ (o : Option (List Datum)). option_map (λ (vs : List Datum). before ++ vs) o) (no_value k (count - (i + 1)) rest e)
value_fails body.NoMemory k count i rest before whole lt e so_far = tt

pub value_end : (k : Kind) (count i : ℕ) (rest : List ℕ) (before : List Datum) (whole : Option (List Datum)) → i ≤ count → count ≤ i
    → Behind before (values_in_line k (count - i) rest) whole → whole ≡ Some before
unfolding values_in_line
value_end k count i rest before whole le ge so_far =
    let none_left : count - i ≡ 0 = omega arith in
    sym so_far ∙ ap (λ n. option_map (λ (vs : List Datum). before ++ vs) (values_in_line k n rest)) none_left ∙ ap Some (append-nil before)
