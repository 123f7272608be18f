-- Cutting a line into tokens is the inverse of spelling them.
use Rattle.std.proofs.Common.{◌≡◌, ℕ, zero, suc, ◌-◌, ◌<◌, ◌≤◌, Bool, true, false, cond, List, [], ◌∷◌, ◌++◌, length, take, drop, Option, Some, None, refl, sym, ap, subst, ◌∙◌, append_assoc, arith, inl, inr, ℤ, pos, neg_ℤ, ◌^◌, Result, Err, length-append}
use Rattle.std.specs.Prelude.{◌==◌, ◌&&◌, nat_le, nat_lt}
use Rattle.std.specs.List.{prefix_len}
use Rattle.std.specs.Str.Parse.{digits_value}
use Rattle.std.proofs.lemmas.List.{append-nil, take_at, drop_at, take-append-drop}
use Rattle.std.proofs.lemmas.List.Folds.{length-prefix_len}
use Rattle.std.proofs.lemmas.Bool.{eqb-true}
use Rattle.std.proofs.lemmas.Bool.Decides.{nat_tests}
use Rattle.script_tokens.specs.declared.token.Token.{Token}
use Rattle.script_tokens.specs.declared.token.Token.TheVariants.{Word, Number, Text, Symbol}
use Rattle.script_tokens.specs.declared.fault.ParseError.{ParseError}
use Rattle.script_tokens.specs.declared.fault.ParseError.TheVariants as errors
use Rattle.script_tokens.specs.Words.{is_letter, is_word_byte, is_digit, is_boundary, begins_digit, ends_value}
use Rattle.script_tokens.specs.Gives.{Fails}
use Rattle.row_base.specs.Readings.{◌>>=◌}
use Rattle.script_tokens.specs.Quoted.{body, plain}
use Rattle.script_tokens.specs.Tokens.{begins_letter, IsWord, IsDigits, symbol_text, is_sign, is_minus, SpellsToken, word, number, negative, text, symbol, SpellsTokens, nothing, space, token, SpellsLine}
use Rattle.script_tokens.specs.Reading.{Taken, word_of, word_at, unsigned_value, negative_value, number_of, number_at, negative_at, text_at, symbol_at, symbol_token_at, token_at, put, lex, line_tokens, starts_space}
use Rattle.script_tokens.proofs.Runs.{some_is, bind_some, cond_some, guarded, and_true, runs, run_is_run, begins_run, first_of_run, gap_no_word, gap_no_digit, letter_no_space, digit_no_space, digit_no_letter}
use Rattle.script_tokens.proofs.Texts.{inside_again, passed, gap_no_quote}
use Rattle.script_tokens.proofs.Symbols.{symbol_again, symbol_starts, symbol_is, is_minus_starts}

lex_skip : (value : Bool) (k : ℕ) (bs : List ℕ) → lex value k bs ≡ lex value 0 (drop k bs)
unfolding lex
lex_skip value zero [] = refl
lex_skip value zero (b ∷ bs) = refl
lex_skip value (suc k) [] = refl
lex_skip value (suc k) (b ∷ bs) = lex_skip value k bs

pub lex_space : (value : Bool) (bs : List ℕ) → starts_space bs ≡ true → lex value 0 bs ≡ lex value 0 (drop 1 bs)
unfolding lex
lex_space value [] h = absurd cc
lex_space value (b ∷ bs) h = rw h refl

left_over : (w rest bs : List ℕ) → bs ≡ w ++ rest → drop (length bs - length rest) bs ≡ rest
left_over w rest bs e =
    let n : length bs - length rest ≡ length w = omega (arith, ap length e, length-append w rest) in
    rw (n, e) (drop_at w rest (length w) refl)

lex_first : (value : Bool) (b : ℕ) (bs w : List ℕ) (t : Token) (rest : List ℕ) → bs ≡ w ++ rest → (b == 32) ≡ false → token_at value (b ∷ bs) ≡ Some (t, rest) → lex value 0 (b ∷ bs) ≡ put t (lex (ends_value t) 0 rest)
unfolding lex
lex_first value b bs w t rest e s h =
    rw (s, h) (ap (put t) (lex_skip (ends_value t) (length bs - length rest) bs ∙ ap (lex (ends_value t) 0) (left_over w rest bs e)))

-- a token that is read at the front of some bytes, and leaves the rest
pub lex_token : (value : Bool) (bs front : List ℕ) (t : Token) (rest : List ℕ) → bs ≡ front ++ rest → 0 < length front → starts_space bs ≡ false → token_at value bs ≡ Some (t, rest) → lex value 0 bs ≡ put t (lex (ends_value t) 0 rest)
lex_token value [] [] t rest e lt s h = absurd (omega arith)
lex_token value (b ∷ bs) [] t rest e lt s h = absurd (omega arith)
lex_token value [] (c ∷ w) t rest e lt s h = absurd cc
lex_token value (b ∷ bs) (c ∷ w) t rest e lt s h = lex_first value b bs w t rest (cc) s h

pub lex_none : (value : Bool) (bs : List ℕ) → 0 < length bs → starts_space bs ≡ false → token_at value bs ≡ None → lex value 0 bs ≡ None
unfolding lex
lex_none value [] lt s h = absurd (omega arith)
lex_none value (b ∷ bs) lt s h = rw (s, h) refl

-- ---- what is spelled so is read

record Again (value : Bool) (t : Token) (front rest : List ℕ) : Type 0 where
  some : 0 < length front
  no_space : starts_space (front ++ rest) ≡ false
  at : token_at value (front ++ rest) ≡ Some (t, rest)

cond_true : {A : Type 0} (c : Bool) (x y : A) → c ≡ true → cond c x y ≡ x
cond_true true x y h = refl
cond_true false x y h = absurd cc

cond_false : {A : Type 0} (c : Bool) (x y : A) → c ≡ false → cond c x y ≡ y
cond_false false x y h = refl
cond_false true x y h = absurd cc

at_most : (m n : ℕ) → m ≤ n → nat_le m n ≡ true
at_most m n h = grind (arith, nat_tests)

word_of_is : (n : ℕ) (w rest : List ℕ) → n ≡ length w → n ≤ 64 → is_boundary rest ≡ true → word_of n (w ++ rest) ≡ Some (Word w, rest)
word_of_is n w rest e le g = rw (at_most n 64 le, drop_at w rest n (sym e), take_at w rest n (sym e), g) refl

word_again : (value : Bool) (w rest : List ℕ) → IsWord w → is_boundary rest ≡ true → Again value (Word w) w rest
unfolding token_at word_at
word_again value [] rest h g = absurd (let k = h.0 in cc)
word_again value (b ∷ w) rest h g =
    let n : prefix_len is_word_byte (b ∷ (w ++ rest)) ≡ length (b ∷ w) = runs is_word_byte (b ∷ w) rest h.1 (gap_no_word rest g) in
    record {
      some = omega arith;
      no_space = letter_no_space b h.0;
      at = cond_true (is_letter b) (word_at (b ∷ (w ++ rest))) _ h.0 ∙ ap (λ (k : ℕ). word_of k (b ∷ (w ++ rest))) n ∙ word_of_is (length (b ∷ w)) (b ∷ w) rest refl h.2 g;
    }

number_of_is : (value : List ℕ → Option ℤ) (n : ℕ) (ds rest : List ℕ) (k : ℤ) → n ≡ length ds → value ds ≡ Some k → is_boundary rest ≡ true → number_of value n (ds ++ rest) ≡ Some (Number k, rest)
number_of_is value n ds rest k e v g = rw (drop_at ds rest n (sym e), take_at ds rest n (sym e), g, v) refl

unsigned_is : (ds : List ℕ) → digits_value 10 ds < 2 ^ 63 → unsigned_value ds ≡ Some (pos (digits_value 10 ds))
unfolding unsigned_value
unsigned_is ds lt = let t : nat_lt (digits_value 10 ds) (2 ^ 63) ≡ true = grind (arith, nat_tests) in rw t refl

negative_is : (ds : List ℕ) → digits_value 10 ds ≤ 2 ^ 63 → negative_value ds ≡ Some (neg_ℤ (pos (digits_value 10 ds)))
unfolding negative_value
negative_is ds le = rw (at_most (digits_value 10 ds) (2 ^ 63) le) refl

number_again : (value : Bool) (ds rest : List ℕ) → IsDigits ds → digits_value 10 ds < 2 ^ 63 → is_boundary rest ≡ true → Again value (Number (pos (digits_value 10 ds))) ds rest
unfolding token_at number_at
number_again value [] rest h lt g = absurd (omega (arith, h.0))
number_again value (d ∷ ds) rest h lt g =
    let digit = first_of_run is_digit d ds h.1 in
    let n : prefix_len is_digit (d ∷ (ds ++ rest)) ≡ length (d ∷ ds) = runs is_digit (d ∷ ds) rest h.1 (gap_no_digit rest g) in
    record {
      some = omega arith;
      no_space = digit_no_space d digit;
      at = cond_false (is_letter d) _ _ (digit_no_letter d digit) ∙ cond_true (is_digit d) (number_at (d ∷ (ds ++ rest))) _ digit
          ∙ ap (λ (k : ℕ). number_of unsigned_value k (d ∷ (ds ++ rest))) n
          ∙ number_of_is unsigned_value (length (d ∷ ds)) (d ∷ ds) rest (pos (digits_value 10 (d ∷ ds))) refl (unsigned_is (d ∷ ds) lt) g;
    }

begins_with : (ds rest : List ℕ) → IsDigits ds → begins_digit (ds ++ rest) ≡ true
begins_with [] rest h = absurd (omega (arith, h.0))
begins_with (d ∷ ds) rest h = first_of_run is_digit d ds h.1

negative_again : (ds rest : List ℕ) → IsDigits ds → digits_value 10 ds ≤ 2 ^ 63 → is_boundary rest ≡ true → Again false (Number (neg_ℤ (pos (digits_value 10 ds)))) (45 ∷ ds) rest
unfolding token_at negative_at
negative_again ds rest h le g =
    let n : prefix_len is_digit (ds ++ rest) ≡ length ds = runs is_digit ds rest h.1 (gap_no_digit rest g) in
    record {
      some = omega arith;
      no_space = refl;
      at = cond_true (begins_digit (ds ++ rest)) (negative_at (ds ++ rest)) (symbol_token_at (45 ∷ (ds ++ rest))) (begins_with ds rest h)
          ∙ ap (λ (k : ℕ). number_of negative_value k (ds ++ rest)) n
          ∙ number_of_is negative_value (length ds) ds rest (neg_ℤ (pos (digits_value 10 ds))) refl (negative_is ds le) g;
    }

text_read : (t inner rest : List ℕ) → body plain (inner ++ 39 ∷ rest) ≡ Some (t, rest) → is_boundary rest ≡ true → text_at ((inner ++ 39 ∷ []) ++ rest) ≡ Some (Text t, rest)
unfolding text_at
text_read t inner rest b g = rw (append_assoc inner (39 ∷ []) rest, b, g) refl

again : (value : Bool) (t : Token) (front rest : List ℕ) → SpellsToken value t front rest → Again value t front rest
unfolding token_at
again _ _ _ _ (word value w rest h g) = word_again value w rest h g
again _ _ _ _ (number value ds rest h lt g) = number_again value ds rest h lt g
again _ _ _ _ (negative ds rest h le g) = negative_again ds rest h le g
again _ _ _ _ (text value t inner rest s g) =
    record { some = omega arith; no_space = refl; at = text_read t inner rest (inside_again t inner rest s (gap_no_quote rest g)) g }
again _ _ _ _ (symbol value s rest g m) =
    record { some = (symbol_starts s rest).1; no_space = (symbol_starts s rest).0; at = symbol_again value s rest g m }

pub only : (value : Bool) (ts : List Token) (bs : List ℕ) → SpellsTokens value ts bs → lex value 0 bs ≡ Some ts
unfolding lex
only _ _ _ (nothing value) = refl
only _ _ _ (space value ts bs h) = only value ts bs h
only _ _ _ (token value t ts front bs s h) =
    let a = again value t front bs s in
    lex_token value (front ++ bs) front t bs refl a.some a.no_space a.at ∙ ap (put t) (only (ends_value t) ts bs h)

-- ---- what is read is spelled so

-- the bytes that spell the token at the front
pub record Front (value : Bool) (bs : List ℕ) (t : Token) (rest : List ℕ) : Type 0 where
  pub front : List ℕ
  pub some : 0 < length front
  pub parts : bs ≡ front ++ rest
  pub spelled : SpellsToken value t front rest

le_from : (m n : ℕ) → nat_le m n ≡ true → m ≤ n
le_from m n h = grind (arith, nat_tests)

lt_from : (m n : ℕ) → nat_lt m n ≡ true → m < n
lt_from m n h = grind (arith, nat_tests)

begins_take : (n b : ℕ) (bs : List ℕ) → 0 < n → is_letter b ≡ true → begins_letter (take n (b ∷ bs)) ≡ true
begins_take zero b bs lt h = absurd (omega arith)
begins_take (suc n) b bs lt h = h

-- the front is a run of some bytes
record Run (p : ℕ → Bool) (bs : List ℕ) (n : ℕ) : Type 0 where
  is_run : prefix_len p (take n bs) ≡ length (take n bs)
  long : length (take n bs) ≡ n
  some : 0 < n

run_at : (p : ℕ → Bool) (b : ℕ) (bs : List ℕ) → p b ≡ true → Run p (b ∷ bs) (prefix_len p (b ∷ bs))
run_at p b bs h = record { is_run = run_is_run p (b ∷ bs); long = length-prefix_len p (b ∷ bs); some = begins_run p b bs h }

front_word_of : (value : Bool) (b : ℕ) (bs : List ℕ) (n : ℕ) (x : Taken) → is_letter b ≡ true → Run is_word_byte (b ∷ bs) n → word_of n (b ∷ bs) ≡ Some x → Front value (b ∷ bs) x.0 x.1
front_word_of value b bs n x l r h =
    let k = guarded (nat_le n 64 && is_boundary (drop n (b ∷ bs))) (Some (Word (take n (b ∷ bs)), drop n (b ∷ bs))) x h in
    let j = and_true (nat_le n 64) (is_boundary (drop n (b ∷ bs))) k.0 in
    subst (λ (y : Taken). Front value (b ∷ bs) y.0 y.1) (some_is (Word (take n (b ∷ bs)), drop n (b ∷ bs)) x k.1) (record {
      front = take n (b ∷ bs);
      some = omega (arith, r.long, r.some);
      parts = sym (take-append-drop n (b ∷ bs));
      spelled = word value (take n (b ∷ bs)) (drop n (b ∷ bs)) (begins_take n b bs r.some l, r.is_run, omega (arith, r.long, le_from n 64 j.0)) j.1;
    })

front_word : (value : Bool) (b : ℕ) (bs : List ℕ) (x : Taken) → is_letter b ≡ true → word_at (b ∷ bs) ≡ Some x → Front value (b ∷ bs) x.0 x.1
unfolding word_at
front_word value b bs x l h =
    let wb : is_word_byte b ≡ true = rw l refl in
    front_word_of value b bs (prefix_len is_word_byte (b ∷ bs)) x l (run_at is_word_byte b bs wb) h

-- the digits of a number at the front
record Digits (value : List ℕ → Option ℤ) (bs : List ℕ) (x : Taken) : Type 0 where
  digits : List ℕ
  number_is : ℤ
  are : IsDigits digits
  given : value digits ≡ Some number_is
  parts : bs ≡ digits ++ x.1
  ends : is_boundary x.1 ≡ true
  token_is : x.0 ≡ Number number_is

digits_of : (value : List ℕ → Option ℤ) (bs : List ℕ) (n : ℕ) (x : Taken) → Run is_digit bs n → number_of value n bs ≡ Some x → Digits value bs x
digits_of value bs n x r h =
    let k = guarded (is_boundary (drop n bs)) (value (take n bs) >>= λ m. Some (Number m, drop n bs)) x h in
    let a = bind_some (value (take n bs)) (λ m. Some (Number m, drop n bs)) x k.1 in
    subst (λ (y : Taken). Digits value bs y) (some_is (Number a.0, drop n bs) x a.2) (record {
      digits = take n bs;
      number_is = a.0;
      are = (omega (arith, r.long, r.some), r.is_run);
      given = a.1;
      parts = sym (take-append-drop n bs);
      ends = k.0;
      token_is = refl;
    })

unsigned_from : (ds : List ℕ) (n : ℤ) → unsigned_value ds ≡ Some n → (digits_value 10 ds < 2 ^ 63) × (pos (digits_value 10 ds) ≡ n)
unfolding unsigned_value
unsigned_from ds n h =
    let k = guarded (nat_lt (digits_value 10 ds) (2 ^ 63)) (Some (pos (digits_value 10 ds))) n h in
    (lt_from _ _ k.0, some_is _ n k.1)

negative_from : (ds : List ℕ) (n : ℤ) → negative_value ds ≡ Some n → (digits_value 10 ds ≤ 2 ^ 63) × (neg_ℤ (pos (digits_value 10 ds)) ≡ n)
unfolding negative_value
negative_from ds n h =
    let k = guarded (nat_le (digits_value 10 ds) (2 ^ 63)) (Some (neg_ℤ (pos (digits_value 10 ds)))) n h in
    (le_from _ _ k.0, some_is _ n k.1)

front_number : (value : Bool) (b : ℕ) (bs : List ℕ) (x : Taken) → is_digit b ≡ true → number_at (b ∷ bs) ≡ Some x → Front value (b ∷ bs) x.0 x.1
unfolding number_at
front_number value b bs x d h =
    let g = digits_of unsigned_value (b ∷ bs) (prefix_len is_digit (b ∷ bs)) x (run_at is_digit b bs d) h in
    let v = unsigned_from g.digits g.number_is g.given in
    record {
      front = g.digits;
      some = g.are.0;
      parts = g.parts;
      spelled = subst (λ (t : Token). SpellsToken value t g.digits x.1) (ap (λ (n : ℤ). Number n) v.1 ∙ sym g.token_is) (number value g.digits x.1 g.are v.0 g.ends);
    }

run_behind : (bs : List ℕ) → begins_digit bs ≡ true → Run is_digit bs (prefix_len is_digit bs)
run_behind [] h = absurd cc
run_behind (b ∷ bs) h = run_at is_digit b bs h

front_negative : (bs : List ℕ) (x : Taken) → begins_digit bs ≡ true → negative_at bs ≡ Some x → Front false (45 ∷ bs) x.0 x.1
unfolding negative_at
front_negative bs x d h =
    let g = digits_of negative_value bs (prefix_len is_digit bs) x (run_behind bs d) h in
    let v = negative_from g.digits g.number_is g.given in
    record {
      front = 45 ∷ g.digits;
      some = omega arith;
      parts = ap (λ (u : List ℕ). 45 ∷ u) g.parts;
      spelled = subst (λ (t : Token). SpellsToken false t (45 ∷ g.digits) x.1) (ap (λ (n : ℤ). Number n) v.1 ∙ sym g.token_is) (negative g.digits x.1 g.are v.0 g.ends);
    }

signed_front : (value : Bool) (bs : List ℕ) (x : Taken) → is_sign value bs ≡ true → negative_at bs ≡ Some x → Front value (45 ∷ bs) x.0 x.1
signed_front false bs x s h = front_negative bs x s h
signed_front true bs x s h = absurd cc

front_text : (value : Bool) (bs : List ℕ) (x : Taken) → text_at bs ≡ Some x → Front value (39 ∷ bs) x.0 x.1
unfolding text_at
front_text value bs x h =
    let a = bind_some (body plain bs) (λ y. cond (is_boundary y.1) (Some (Text y.0, y.1)) None) x h in
    let k = guarded (is_boundary a.0.1) (Some (Text a.0.0, a.0.1)) x a.2 in
    let i = passed plain bs a.0 a.1 in
    subst (λ (y : Taken). Front value (39 ∷ bs) y.0 y.1) (some_is (Text a.0.0, a.0.1) x k.1) (record {
      front = 39 ∷ (i.inner ++ 39 ∷ []);
      some = omega arith;
      parts = ap (λ (u : List ℕ). 39 ∷ u) (i.parts ∙ sym (append_assoc i.inner (39 ∷ []) a.0.1));
      spelled = text value a.0.0 i.inner a.0.1 i.spelled k.0;
    })

no_sign : (m s : Bool) → (m ≡ true → s ≡ false) → (m && s) ≡ false
no_sign false s h = refl
no_sign true s h = h refl

front_mark : (value : Bool) (b : ℕ) (bs : List ℕ) (x : Taken) → (b == 45 && is_sign value bs) ≡ false → symbol_token_at (b ∷ bs) ≡ Some x → Front value (b ∷ bs) x.0 x.1
front_mark value b bs x m h =
    let a = bind_some (symbol_at (b ∷ bs)) (λ y. Some (Symbol y.0, y.1)) x h in
    let l = symbol_is (b ∷ bs) a.0 a.1 in
    let no : is_minus a.0.0 ≡ true → is_sign value a.0.1 ≡ false = λ k.
    let at = is_minus_starts a.0.0 a.0.1 b bs l.parts k in
    let e : (45 == 45 && is_sign value a.0.1) ≡ false = subst (λ (u : List ℕ). (45 == 45 && is_sign value u) ≡ false) at.1 (subst (λ (c : ℕ). (c == 45 && is_sign value bs) ≡ false) at.0 m) in
    e in
    subst (λ (y : Taken). Front value (b ∷ bs) y.0 y.1) (some_is (Symbol a.0.0, a.0.1) x a.2) (record {
      front = symbol_text a.0.0;
      some = (symbol_starts a.0.0 a.0.1).1;
      parts = l.parts;
      spelled = symbol value a.0.0 a.0.1 l.longest (no_sign (is_minus a.0.0) (is_sign value a.0.1) no);
    })

pub front : (value : Bool) (bs : List ℕ) (x : Taken) → token_at value bs ≡ Some x → Front value bs x.0 x.1
unfolding token_at
front value [] x h = absurd cc
front value (b ∷ bs) x h =
    elim (cond_some (is_letter b) (word_at (b ∷ bs)) _ x h) [
      | inl k ↦ front_word value b bs x k.0 k.1
      | inr h ↦ elim (cond_some (is_digit b) (number_at (b ∷ bs)) _ x h.1) [
        | inl k ↦ front_number value b bs x k.0 k.1
        | inr h ↦ elim (cond_some (b == 39) (text_at bs) _ x h.1) [
          | inl k ↦ subst (λ (c : ℕ). Front value (c ∷ bs) x.0 x.1) (sym (eqb-true _ _ k.0)) (front_text value bs x k.1)
          | inr h ↦ elim (cond_some (b == 45 && is_sign value bs) (negative_at bs) (symbol_token_at (b ∷ bs)) x h.1) [
            | inl k ↦
                let s = and_true (b == 45) (is_sign value bs) k.0 in
                subst (λ (c : ℕ). Front value (c ∷ bs) x.0 x.1) (sym (eqb-true _ _ s.0)) (signed_front value bs x s.1 k.1)
            | inr k ↦ front_mark value b bs x k.0 k.1
          ]
        ]
      ]
    ]

-- the token at the front leaves fewer bytes
pub fewer : (value : Bool) (bs : List ℕ) (x : Taken) → token_at value bs ≡ Some x → length x.1 < length bs
fewer value bs x h =
    let f = front value bs x h in
    omega (arith, f.some, ap length f.parts, length-append f.front x.1)

-- one step of cutting a line, at a token
pub lex_step : (value : Bool) (bs : List ℕ) (t : Token) (rest : List ℕ) → starts_space bs ≡ false → token_at value bs ≡ Some (t, rest) → lex value 0 bs ≡ put t (lex (ends_value t) 0 rest)
lex_step value bs t rest s h =
    let f = front value bs (t, rest) h in
    lex_token value bs f.front t rest f.parts f.some s h

behind_first : (b : ℕ) (bs front rest : List ℕ) → b ∷ bs ≡ front ++ rest → 0 < length front → drop (length bs - length rest) bs ≡ rest
behind_first b bs [] rest e lt = absurd (omega arith)
behind_first b bs (c ∷ w) rest e lt = left_over w rest bs (cc)

sound : (value : Bool) (k : ℕ) (bs : List ℕ) (ts : List Token) → lex value k bs ≡ Some ts → SpellsTokens value ts (drop k bs)
unfolding lex
sound value zero [] ts h = subst (λ (u : List Token). SpellsTokens value u []) (some_is [] ts h) (nothing value)
sound value (suc k) [] ts h = subst (λ (u : List Token). SpellsTokens value u []) (some_is [] ts h) (nothing value)
sound value (suc k) (b ∷ bs) ts h = sound value k bs ts h
sound value zero (b ∷ bs) ts h =
    elim (cond_some (b == 32) (lex value zero bs) (token_at value (b ∷ bs) >>= λ x. put x.0 (lex (ends_value x.0) (length bs - length x.1) bs)) ts h) [
      | inl c ↦ subst (λ (d : ℕ). SpellsTokens value ts (d ∷ bs)) (sym (eqb-true _ _ c.0)) (space value ts bs (sound value zero bs ts c.1))
      | inr c ↦
          let a = bind_some (token_at value (b ∷ bs)) (λ x. put x.0 (lex (ends_value x.0) (length bs - length x.1) bs)) ts c.1 in
          let d = bind_some (lex (ends_value a.0.0) (length bs - length a.0.1) bs) (λ us. Some (a.0.0 ∷ us)) ts a.2 in
          let f = front value (b ∷ bs) a.0 a.1 in
          let rest : SpellsTokens (ends_value a.0.0) d.0 a.0.1 = subst (SpellsTokens (ends_value a.0.0) d.0) (behind_first b bs f.front a.0.1 f.parts f.some) (sound (ends_value a.0.0) (length bs - length a.0.1) bs d.0 d.1) in
          let whole : SpellsTokens value (a.0.0 ∷ d.0) (f.front ++ a.0.1) = token value a.0.0 d.0 f.front a.0.1 f.spelled rest in
          subst (λ (u : List Token). SpellsTokens value u (b ∷ bs)) (some_is (a.0.0 ∷ d.0) ts d.2) (subst (SpellsTokens value (a.0.0 ∷ d.0)) (sym f.parts) whole)
    ]

pub found : (line : List ℕ) (ts : List Token) → line_tokens line ≡ Some ts → SpellsLine ts line
found line ts h = sound false 0 line ts h

-- ---- the loop

abbrev pub with_front : List Token → Option (List Token) → Option (List Token)
with_front front r = r >>= λ ts. Some (front ++ ts)

regroup : (front : List Token) (t : Token) (r : Option (List Token)) → with_front front (put t r) ≡ with_front (front ++ t ∷ []) r
regroup front t (Some x) = ap (λ (ts : List Token). Some ts) (simp append_assoc)
regroup front t None = refl

no_tokens : (r : Option (List Token)) → with_front [] r ≡ r
no_tokens (Some x) = refl
no_tokens None = refl

lex_end : (value : Bool) (bs : List ℕ) → length bs ≡ 0 → lex value 0 bs ≡ Some []
unfolding lex
lex_end value [] h = refl
lex_end value (b ∷ bs) h = absurd (omega arith)

-- what was read, before what the rest gives, is what the line gives
pub record Led (line : List ℕ) (value : Bool) (items : List Token) (rest : List ℕ) : Type 0 where
  pub led : with_front items (lex value 0 rest) ≡ line_tokens line

pub begins : (line : List ℕ) → Led line false [] line
begins line = record { led = no_tokens (line_tokens line) }

pub goes_on : (line : List ℕ) (value : Bool) (items : List Token) (rest : List ℕ) (t : Token) (after : List ℕ) → Led line value items rest → lex value 0 rest ≡ put t (lex (ends_value t) 0 after) → Led line (ends_value t) (items ++ t ∷ []) after
goes_on line value items rest t after l e = record { led = sym (regroup items t (lex (ends_value t) 0 after)) ∙ ap (with_front items) (sym e) ∙ l.led }

pub passes : (line : List ℕ) (value : Bool) (items : List Token) (rest after : List ℕ) → Led line value items rest → lex value 0 rest ≡ lex value 0 after → Led line value items after
passes line value items rest after l e = record { led = ap (with_front items) (sym e) ∙ l.led }

pub is_done : (line : List ℕ) (value : Bool) (items : List Token) (rest : List ℕ) → length rest ≡ 0 → Led line value items rest → line_tokens line ≡ Some items
is_done line value items rest h l = sym l.led ∙ ap (with_front items) (lex_end value rest h) ∙ ap (λ (u : List Token). Some u) (append-nil items)

abbrev err : {A : Type 0} → ParseError → Result A ParseError
err e = Err e

pub err_form : {A B : Type 0} (e : ParseError) (r : Option B) → Fails e r → err {A = A} e ≡ err {A = A} errors.Form → r ≡ None
err_form errors.Form r h q = h
err_form errors.NoMemory r h q = absurd cc

pub stops : (line : List ℕ) (value : Bool) (items : List Token) (rest : List ℕ) → Led line value items rest → lex value 0 rest ≡ None → line_tokens line ≡ None
stops line value items rest l e = sym l.led ∙ ap (with_front items) e
