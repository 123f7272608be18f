-- What is written compact has no byte below 32, so no line end: a text of such lines falls into them.
use Rattle.std.proofs.Common.{◌≡◌, ◌≤◌, ◌<◌, ◌^◌, ◌+◌, ◌/◌, ◌%◌, ℕ, suc, List, [], ◌∷◌, ◌++◌, cond, Bool, true, false, nat_lt, arith, ℤ, pos, negsuc, decimal, ◌==◌, refl, ap, ◌∙◌, true≢false}
use Rattle.std.specs.Fmt.{signed_decimal}
use Rattle.std.specs.List.{onto_first}
use Rattle.std.specs.Char.{digit_char}
use Rattle.std.proofs.lemmas.Bool.{cond_both}
use Rattle.std.proofs.lemmas.Bool.Decides.{nat_tests}
use Rattle.std.proofs.lemmas.Fmt.{decimal_by_steps}
use Rattle.json.specs.Print.{escape_letter, escape_byte, escape, quoted}
use Rattle.serde_json.specs.Data.{Num, unsigned, negative, float, Data, null, boolean, number, string, array, object, Items, no_items, item, Members, no_members, member}
use Rattle.serde_json.specs.Written.{number_text, compact_text, items_text, members_text, comma_if}
use Rattle.json_lines.specs.Lines.{lines}
use Rattle.json_lines.specs.Written.{FitsInteger, FitsNumber, FitsData, FitsItems, FitsMembers}

-- no byte is a control character
abbrev pub High : List ℕ → Type 0
High [] = Unit {0}
High (x ∷ xs) = (32 ≤ x) × High xs

pub High-append : (xs ys : List ℕ) → High xs → High ys → High (xs ++ ys)
High-append [] ys h k = k
High-append (x ∷ xs) ys h k = (h.0, High-append xs ys h.1 k)

High-decimal : (n : ℕ) → n < 2 ^ 64 → High (decimal n)
High-decimal n h = decimal_by_steps (λ _ ds. High ds) (λ m small. (omega arith, tt)) (λ m ds big less. High-append ds ((48 + m % 10) ∷ []) less (omega arith, tt)) n h

letter_high : (x : ℕ) → nat_lt 0 (escape_letter x) ≡ true → 32 ≤ escape_letter x
letter_high x e = grind (arith, nat_tests)

digit_high : (d : ℕ) → 32 ≤ digit_char d
digit_high d = cond_both (nat_lt d 10) (48 + d) (87 + d) (λ c. 32 ≤ c) (λ e. omega arith) (λ e. omega arith)

above : (x : ℕ) → nat_lt x 32 ≡ false → 32 ≤ x
above x e = grind (arith, nat_tests)

High-escape_byte : (x : ℕ) → High (escape_byte x)
unfolding escape_byte
High-escape_byte x =
    cond_both (nat_lt 0 (escape_letter x)) (92 ∷ escape_letter x ∷ []) (cond (nat_lt x 32) (92 ∷ 117 ∷ 48 ∷ 48 ∷ digit_char (x / 16) ∷ digit_char (x % 16) ∷ []) (x ∷ [])) High
    (λ e. (omega arith, (letter_high x e, tt)))
    (λ e. cond_both (nat_lt x 32) (92 ∷ 117 ∷ 48 ∷ 48 ∷ digit_char (x / 16) ∷ digit_char (x % 16) ∷ []) (x ∷ []) High
    (λ f. (omega arith, (omega arith, (omega arith, (omega arith, (digit_high (x / 16), (digit_high (x % 16), tt)))))))
    (λ f. (above x f, tt)))

High-escape : (s : List ℕ) → High (escape s)
High-escape [] = tt
High-escape (x ∷ xs) = High-append (escape_byte x) (escape xs) (High-escape_byte x) (High-escape xs)

High-quoted : (s : List ℕ) → High (quoted s)
High-quoted s = (omega arith, High-append (escape s) (34 ∷ []) (High-escape s) (omega arith, tt))

High-signed : (z : ℤ) → FitsInteger z → High (signed_decimal z)
High-signed (pos n) h = High-decimal n (omega arith)
High-signed (negsuc n) h = (omega arith, High-decimal (suc n) (omega arith))

High-number : (n : Num) → FitsNumber n → High (number_text n)
High-number (unsigned n) h = High-decimal n h
High-number (negative z) h = High-signed z h
High-number (float x) h = tt

High-comma : (later : Bool) → High (comma_if later)
High-comma true = (omega arith, tt)
High-comma false = tt

mutual
  pub High-compact_text : (d : Data) → FitsData d → High (compact_text d)
  High-compact_text null h = (omega arith, (omega arith, (omega arith, (omega arith, tt))))
  High-compact_text (boolean true) h = (omega arith, (omega arith, (omega arith, (omega arith, tt))))
  High-compact_text (boolean false) h = (omega arith, (omega arith, (omega arith, (omega arith, (omega arith, tt)))))
  High-compact_text (number n) h = High-number n h
  High-compact_text (string s) h = High-quoted s
  High-compact_text (array ds) h = (omega arith, High-items false ds h)
  High-compact_text (object ms) h = (omega arith, High-members false ms h)

  High-items : (later : Bool) (ds : Items) → FitsItems ds → High (items_text later ds)
  High-items later no_items h = (omega arith, tt)
  High-items later (item d ds) h = High-append (comma_if later) _ (High-comma later) (High-append (compact_text d) (items_text true ds) (High-compact_text d h.0) (High-items true ds h.1))

  High-members : (later : Bool) (ms : Members) → FitsMembers ms → High (members_text later ms)
  High-members later no_members h = (omega arith, tt)
  High-members later (member k d ms) h =
      High-append (comma_if later) _ (High-comma later) (High-append (quoted k) _ (High-quoted k) (omega arith, High-append (compact_text d) (members_text true ms) (High-compact_text d h.0) (High-members true ms h.1)))

-- a line end after bytes that are none
split_here : (b : Bool) (x : ℕ) (l : List ℕ) (ls : List (List ℕ)) → b ≡ false → cond b ([] ∷ l ∷ ls) ((x ∷ l) ∷ ls) ≡ (x ∷ l) ∷ ls
split_here true x l ls e = absurd (true≢false e)
split_here false x l ls e = refl

not_end : (x : ℕ) → 32 ≤ x → (x == 10) ≡ false
not_end x h = grind (arith, nat_tests)

pub lines-line : (l rest : List ℕ) → High l → lines (l ++ 10 ∷ rest) ≡ l ∷ lines rest
lines-line [] rest h = refl
lines-line (x ∷ l) rest h =
    ap (λ ps. cond (x == 10) ([] ∷ ps) (onto_first x ps)) (lines-line l rest h.1) ∙ split_here (x == 10) x l (lines rest) (not_end x h.0)

-- one line of compact JSON, before what follows its end
pub lines-compact : (d : Data) (rest : List ℕ) → FitsData d → lines (compact_text d ++ 10 ∷ rest) ≡ compact_text d ∷ lines rest
lines-compact d rest h = lines-line (compact_text d) rest (High-compact_text d h)
