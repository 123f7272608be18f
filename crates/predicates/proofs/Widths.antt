-- What a checked sum, difference or product gives, by the tests of its width.
use Rattle.std.proofs.Common.{◌≡◌, ◌^◌, ℤ, pos, negsuc, true, Option, Some, None, sym, ap, ◌∙◌, inl, inr, if◌then◌else◌}
use Rattle.std.specs.Option.{SomeIff}
use Rattle.std.specs.Int.{w32, w64}
use Rattle.std.specs.Int.RustNames.{FitsSigned}
use Rattle.std.proofs.lemmas.Bool.{cases_Bool, lt-ltb, ltb-true}
use Rattle.row_base.specs.Numbers.{is_i64}
use Rattle.row_base.specs.Schema.{is_i32}
use Rattle.predicates.specs.Values.{long_in, integer_in}

fits_64 : (z : ℤ) → FitsSigned w64 z → is_i64 z ≡ true
fits_64 (pos n) f = lt-ltb n (2 ^ 63) f.sfits
fits_64 (negsuc n) f = lt-ltb n (2 ^ 63) f.sfits

fits_32 : (z : ℤ) → FitsSigned w32 z → is_i32 z ≡ true
fits_32 (pos n) f = lt-ltb n (2 ^ 31) f.sfits
fits_32 (negsuc n) f = lt-ltb n (2 ^ 31) f.sfits

from_64 : (z : ℤ) → is_i64 z ≡ true → FitsSigned w64 z
from_64 (pos n) f = record { sfits = ltb-true n (2 ^ 63) f }
from_64 (negsuc n) f = record { sfits = ltb-true n (2 ^ 63) f }

from_32 : (z : ℤ) → is_i32 z ≡ true → FitsSigned w32 z
from_32 (pos n) f = record { sfits = ltb-true n (2 ^ 31) f }
from_32 (negsuc n) f = record { sfits = ltb-true n (2 ^ 31) f }

pub long_where : (r : Option ℤ) (z : ℤ) → SomeIff r (FitsSigned w64 z) z → r ≡ long_in z
long_where (Some x) z p = ap Some p.1 ∙ sym (ap (λ b. if b then Some z else None) (fits_64 z p.0))
long_where None z p = elim (cases_Bool (is_i64 z)) [
  | inl within ↦ absurd (p (from_64 z within))
  | inr past ↦ sym (ap (λ b. if b then Some z else None) past)
]

pub integer_where : (r : Option ℤ) (z : ℤ) → SomeIff r (FitsSigned w32 z) z → r ≡ integer_in z
integer_where (Some x) z p = ap Some p.1 ∙ sym (ap (λ b. if b then Some z else None) (fits_32 z p.0))
integer_where None z p = elim (cases_Bool (is_i32 z)) [
  | inl within ↦ absurd (p (from_32 z within))
  | inr past ↦ sym (ap (λ b. if b then Some z else None) past)
]
