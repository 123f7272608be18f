-- What the texts of intervals say.
use Rattle.std.proofs.Common.{◌≡◌, ℕ, zero, suc, Bool, true, false, ◌==◌, ◌+◌, ◌*◌, ◌^◌, ◌<◌, ◌≤◌, nat_le, if◌then◌else◌, List, [], ◌∷◌, ◌++◌, length, drop, codes, get_or, Option, Some, None, refl, sym, ap, ◌∙◌, inl, inr, arith, rules, append_assoc, length-append}
use Rattle.std.specs.Option.{option_and_then, IfSome, IfNone}
use Rattle.std.specs.List.{list_all, before_first, after_first, position_or_len}
use Rattle.std.specs.Str.{bytes_eq}
use Rattle.std.specs.Fmt.{decimal}
use Rattle.std.specs.Char.{is_ascii_digit}
use Rattle.std.proofs.lemmas.Bool.{cases_lt, leb-true, le-leb, eqb-true, and_parts, both_ways}
use Rattle.std.proofs.lemmas.List.{take_at, drop_at, drop_all}
use Rattle.std.proofs.lemmas.List.Sums.{split_at_first, passes_at_first}
use Rattle.std.proofs.lemmas.Slice.Eq.{bytes_eq-Decides}
use Rattle.std.proofs.lemmas.Fmt.{digits_decimal}
use Rattle.row_base.specs.declared.limits.TheConstants.{MAX_WAIT}
use Rattle.row_base.specs.Numbers.{decimal_in}
use Rattle.row_base.proofs.Numerals.{by_test, decimal_is, decimal_written}
use Rattle.table_rules.specs.Intervals.{unit_in, scaled, amount_in, interval_in, IsInterval}
use Rattle.table_rules.proofs.Numerals.{some_then}

abbrev is_space : ℕ → Bool
is_space b = b == 32

digit_apart : (b : ℕ) (v : Bool) → (b == 32) ≡ v → is_ascii_digit b ≡ true → v ≡ false
digit_apart b false is h = refl
digit_apart b true is h =
    let e : b ≡ 32 = eqb-true b 32 is in
    absurd (both_ways (is_ascii_digit 32) refl (ap is_ascii_digit (sym e) ∙ h))

-- the first space stands behind the digits
place : (digits rest : List ℕ) → list_all is_ascii_digit digits ≡ true → position_or_len is_space (digits ++ (32 ∷ rest)) ≡ length digits
place [] rest h = refl
place (x ∷ xs) rest h =
    let parts = and_parts (is_ascii_digit x) (list_all is_ascii_digit xs) h in
    let no : (x == 32) ≡ false = digit_apart x (x == 32) refl parts.0 in
    let more = place xs rest parts.1 in
    rw no (omega (arith, more))

-- what stands before and behind the first space
front_of : (front rest : List ℕ) → position_or_len is_space (front ++ (32 ∷ rest)) ≡ length front → before_first is_space (front ++ (32 ∷ rest)) ≡ front
front_of front rest at = rw at (take_at front (32 ∷ rest) (length front) refl)

back_of : (front rest : List ℕ) → position_or_len is_space (front ++ (32 ∷ rest)) ≡ length front → after_first is_space (front ++ (32 ∷ rest)) ≡ rest
back_of front rest at =
    let split : front ++ (32 ∷ rest) ≡ (front ++ (32 ∷ [])) ++ rest = sym (append_assoc front (32 ∷ []) rest) in
    ap (λ n. drop (n + 1) (front ++ (32 ∷ rest))) at ∙ ap (drop (length front + 1)) split ∙ drop_at (front ++ (32 ∷ [])) rest (length front + 1) (length-append front (32 ∷ []))

-- a text with a space is what stands round it
around_is : (text : List ℕ) → position_or_len is_space text < length text → text ≡ before_first is_space text ++ (32 ∷ after_first is_space text)
around_is text lt =
    let byte : get_or text (position_or_len is_space text) 0 ≡ 32 = eqb-true (get_or text (position_or_len is_space text) 0) 32 (passes_at_first is_space text 0 lt) in
    split_at_first is_space text 0 lt ∙ ap (λ b. before_first is_space text ++ (b ∷ after_first is_space text)) byte

amount_by : (text : List ℕ) (number unit : Option ℕ) → decimal_in (before_first is_space text) ≡ number → unit_in (after_first is_space text) ≡ unit
    → amount_in text ≡ option_and_then (λ n. option_and_then (λ u. scaled n u) unit) number
unfolding amount_in
amount_by text number unit e f = rw (e, f) refl

no_unit : unit_in [] ≡ None
unfolding unit_in
no_unit = refl

no_amount : (number : Option ℕ) → option_and_then (λ n. option_and_then (λ u. scaled n u) None) number ≡ None
no_amount None = refl
no_amount (Some n) = refl

-- without a space there is no amount
amount-without : (text : List ℕ) → length text ≤ position_or_len is_space text → amount_in text ≡ None
amount-without text le =
    let empty : after_first is_space text ≡ [] = drop_all (position_or_len is_space text + 1) text (omega arith) in
    amount_by text (decimal_in (before_first is_space text)) None refl (ap unit_in empty ∙ no_unit) ∙ no_amount (decimal_in (before_first is_space text))

record IsAmount (text : List ℕ) (milliseconds : ℕ) : Type 0 where
  number : ℕ
  unit : List ℕ
  scale : ℕ
  is_unit : unit_in unit ≡ Some scale
  is_text : text ≡ decimal number ++ (32 ∷ unit)
  is_long : milliseconds ≡ number * scale
  is_bounded : milliseconds ≤ MAX_WAIT

amount_from : (text : List ℕ) (m : ℕ) (number unit : Option ℕ) → position_or_len is_space text < length text
    → decimal_in (before_first is_space text) ≡ number → unit_in (after_first is_space text) ≡ unit
    → option_and_then (λ n. option_and_then (λ u. scaled n u) unit) number ≡ Some m → IsAmount text m
amount_from text m None unit lt e f h = cc
amount_from text m (Some n) None lt e f h = cc
amount_from text m (Some n) (Some u) lt e f h =
    let q = some_then (nat_le (n * u) MAX_WAIT) (n * u) m h in
    let bound : n * u ≤ MAX_WAIT = leb-true (n * u) MAX_WAIT q.0 in
    let long : m ≡ n * u = sym q.1 in
    record {
      number = n;
      unit = after_first is_space text;
      scale = u;
      is_unit = f;
      is_text = around_is text lt ∙ ap (λ ds. ds ++ (32 ∷ after_first is_space text)) (decimal_is (before_first is_space text) n e);
      is_long = long;
      is_bounded = omega (arith, bound, long);
    }

amount_said : (text : List ℕ) (m : ℕ) → amount_in text ≡ Some m → IsAmount text m
amount_said text m h = elim (cases_lt (position_or_len is_space text) (length text)) [
  | inl lt ↦ amount_from text m (decimal_in (before_first is_space text)) (unit_in (after_first is_space text)) lt refl refl
      (sym (amount_by text (decimal_in (before_first is_space text)) (unit_in (after_first is_space text)) refl refl) ∙ h)
  | inr le ↦ let none = amount-without text le in cc
]

interval_by : (text : List ℕ) (is : Bool) → bytes_eq (before_first is_space text) (codes "interval") ≡ is → interval_in text ≡ (if is then amount_in (after_first is_space text) else None)
unfolding interval_in
interval_by text is e = rw e refl

interval_with : (text : List ℕ) (m : ℕ) → position_or_len is_space text < length text → before_first is_space text ≡ codes "interval"
    → IsAmount (after_first is_space text) m → IsInterval text m
interval_with text m lt word amount = record {
  number = amount.number;
  unit = amount.unit;
  scale = amount.scale;
  is_unit = amount.is_unit;
  is_text = around_is text lt ∙ ap (λ front. front ++ (32 ∷ after_first is_space text)) word ∙ ap (λ back. codes "interval" ++ (32 ∷ back)) amount.is_text;
  is_long = amount.is_long;
  is_bounded = amount.is_bounded;
}

interval_from : (text : List ℕ) (m : ℕ) (is : Bool) → bytes_eq (before_first is_space text) (codes "interval") ≡ is
    → (if is then amount_in (after_first is_space text) else None) ≡ Some m → IsInterval text m
interval_from text m false e h = cc
interval_from text m true e h = elim (cases_lt (position_or_len is_space text) (length text)) [
  | inl lt ↦ interval_with text m lt ((bytes_eq-Decides (before_first is_space text) (codes "interval")).0 e) (amount_said (after_first is_space text) m h)
  | inr le ↦
      let empty : after_first is_space text ≡ [] = drop_all (position_or_len is_space text + 1) text (omega arith) in
      let none : amount_in (after_first is_space text) ≡ None = ap amount_in empty ∙ amount-without [] (omega arith) in
      cc
]

-- what is read is named
pub interval_said : (text : List ℕ) (m : ℕ) → interval_in text ≡ Some m → IsInterval text m
interval_said text m h =
    interval_from text m (bytes_eq (before_first is_space text) (codes "interval")) refl (sym (interval_by text (bytes_eq (before_first is_space text) (codes "interval")) refl) ∙ h)

scaled_in : (n u : ℕ) → n * u ≤ MAX_WAIT → scaled n u ≡ Some (n * u)
scaled_in n u le = rw (le-leb (n * u) MAX_WAIT le) refl

positive_by : (a b c d e f : Bool) (s : ℕ)
    → (if a then Some 1 else (if b then Some 1000 else (if c then Some 60000 else (if d then Some 3600000 else (if e then Some 86400000 else (if f then Some 604800000 else None)))))) ≡ Some s
    → 0 < s
positive_by true b c d e f s h = let k : 1 ≡ s = cc in omega (arith, k)
positive_by false true c d e f s h = let k : 1000 ≡ s = cc in omega (arith, k)
positive_by false false true d e f s h = let k : 60000 ≡ s = cc in omega (arith, k)
positive_by false false false true e f s h = let k : 3600000 ≡ s = cc in omega (arith, k)
positive_by false false false false true f s h = let k : 86400000 ≡ s = cc in omega (arith, k)
positive_by false false false false false true s h = let k : 604800000 ≡ s = cc in omega (arith, k)
positive_by false false false false false false s h = cc

unit_positive : (unit : List ℕ) (s : ℕ) → unit_in unit ≡ Some s → 0 < s
unfolding unit_in
unit_positive unit s h = positive_by _ _ _ _ _ _ s h

le_times : (n s : ℕ) → 0 < s → n ≤ n * s
le_times n zero h = omega arith
le_times n (suc k) h = omega arith

amount_read : (n u : ℕ) (unit : List ℕ) → unit_in unit ≡ Some u → n * u ≤ MAX_WAIT → amount_in (decimal n ++ (32 ∷ unit)) ≡ Some (n * u)
amount_read n u unit is bound =
    let small : n < 2 ^ 64 = omega (arith, le_times n u (unit_positive unit u is), bound) in
    let at = place (decimal n) unit (digits_decimal by_test n small) in
    amount_by (decimal n ++ (32 ∷ unit)) (Some n) (Some u)
    (ap decimal_in (front_of (decimal n) unit at) ∙ decimal_written n small)
    (ap unit_in (back_of (decimal n) unit at) ∙ is)
    ∙ scaled_in n u bound

word_read : (amount : List ℕ) → interval_in (codes "interval" ++ (32 ∷ amount)) ≡ amount_in amount
word_read amount =
    let front : before_first is_space (codes "interval" ++ (32 ∷ amount)) ≡ codes "interval" = front_of (codes "interval") amount refl in
    interval_by (codes "interval" ++ (32 ∷ amount)) true (ap (λ word. bytes_eq word (codes "interval")) front)
    ∙ ap amount_in (back_of (codes "interval") amount refl)

-- what is named is read
pub interval_read : (text : List ℕ) (m : ℕ) → IsInterval text m → interval_in text ≡ Some m
interval_read text m h =
    let bound : h.number * h.scale ≤ MAX_WAIT = omega (arith, h.is_long, h.is_bounded) in
    ap interval_in h.is_text ∙ word_read (decimal h.number ++ (32 ∷ h.unit)) ∙ amount_read h.number h.scale h.unit h.is_unit bound ∙ ap Some (sym h.is_long)

pub interval_found : (o : Option ℕ) (text : List ℕ) → o ≡ interval_in text → IfSome o (IsInterval text)
interval_found None text e = search rules
interval_found (Some m) text e = interval_said text m (sym e)

pub no_interval : (o : Option ℕ) (text : List ℕ) → o ≡ interval_in text → IfNone o ((n : ℕ) → ¬ (IsInterval text n))
no_interval None text e = λ n h. let some = interval_read text n h in cc
no_interval (Some m) text e = search rules
