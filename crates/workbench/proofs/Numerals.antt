-- What a word of digits parses to.
use Rattle.std.proofs.Common.{◌≡◌, ℕ, ◌^◌, ◌<◌, Bool, true, false, List, length, refl, sym, ap, ◌∙◌, nat_lt, inl, inr, cond, rules, Result, Ok, Err, Option, Some, None, IsUtf8}
use Rattle.std.specs.Result.{result_ok, OkIff}
use Rattle.std.specs.List.{list_all}
use Rattle.std.specs.Str.Parse.{digits_value, ParsesUnsigned}
use Rattle.std.specs.Char.{is_ascii_digit}
use Rattle.std.proofs.lemmas.Bool.{cases_lt, lt-ltb, le-ltb, ltb-true, and_parts}
use Rattle.std.proofs.lemmas.Str.{IsUtf8-from_ascii}
use Rattle.std.proofs.lemmas.Fmt.{IsAscii-from_digits}
use Rattle.std.proofs.lemmas.Str.Parse.{parse_digits}
use Rattle.row_base.proofs.Numerals.{by_test}
use Rattle.workbench.specs.Words.{are_digits, number_of}

parts : (text : List ℕ) → are_digits text ≡ true → (0 < length text) × (list_all is_ascii_digit text ≡ true)
parts text h =
    let both = and_parts (nat_lt 0 (length text)) (list_all is_ascii_digit text) h in
    (ltb-true 0 (length text) both.0, both.1)

number_by : (fits : Bool) (text : List ℕ) → are_digits text ≡ true → nat_lt (digits_value 10 text) (2 ^ 32) ≡ fits
    → number_of text ≡ cond fits (Some (digits_value 10 text)) None
number_by fits text is lt = rw (is, lt) refl

from_parsed : {E : Type 0} (r : Result ℕ E) (o : Option ℕ) (text : List ℕ) → are_digits text ≡ true
    → OkIff r ((0 < length text) × (digits_value 10 text < 2 ^ 32)) (digits_value 10 text) → o ≡ result_ok r → o ≡ number_of text
from_parsed (Ok n) o text is f e =
    let lt : nat_lt (digits_value 10 text) (2 ^ 32) ≡ true = lt-ltb (digits_value 10 text) (2 ^ 32) f.0.1 in
    e ∙ ap Some f.1 ∙ sym (number_by true text is lt)
from_parsed (Err fault) o text is f e = elim (cases_lt (digits_value 10 text) (2 ^ 32)) [
  | inl under ↦ absurd (f ((parts text is).0, under))
  | inr over ↦
      let lt : nat_lt (digits_value 10 text) (2 ^ 32) ≡ false = le-ltb (digits_value 10 text) (2 ^ 32) over in
      e ∙ sym (number_by false text is lt)
]

pub parsed : {E : Type 0} (text bs : List ℕ) (r : Result ℕ E) (o : Option ℕ) → true ≡ are_digits text → bs ≡ text → ParsesUnsigned 32 10 bs r
    → o ≡ result_ok r → o ≡ number_of text
parsed text bs r o is same h e = from_parsed r o text (sym is) (parse_digits by_test 32 text r (rw same at h) (parts text (sym is)).1) e

pub is_utf8 : (text : List ℕ) → true ≡ are_digits text → IsUtf8 text
is_utf8 text is = IsUtf8-from_ascii text (IsAscii-from_digits text (by_test.to text (parts text (sym is)).1))
