-- The tokens of a line, and the bytes that spell them.
use Rattle.std.specs.Prelude.{◌≡◌, ℕ, pos, neg_ℤ, ◌<◌, ◌≤◌, ◌^◌, Bool, true, false, List, [], ◌∷◌, ◌++◌, length, ◌==◌, ◌||◌, ◌&&◌, not, codes}
use Rattle.std.specs.List.{prefix_len}
use Rattle.std.specs.Str.Parse.{digits_value}
use Rattle.script_tokens.specs.declared.token.Token.{Token}
use Rattle.script_tokens.specs.declared.token.Token.TheVariants.{Word, Number, Text, Symbol}
use Rattle.script_tokens.specs.declared.token.Symbol.{Symbol as SymbolValue}
use Rattle.script_tokens.specs.declared.token.Symbol.TheVariants.{Open, Close, Comma, Equal, NotEqual, Less, AtMost, Greater, AtLeast, Plus, Minus, Star, Dot}
use Rattle.script_tokens.specs.Words.{is_letter, is_word_byte, is_digit, is_boundary, begins_digit, ends_value}
use Rattle.script_tokens.specs.Quoted.{SpellsInside}

abbrev pub begins_letter : List ℕ → Bool
begins_letter [] = false
begins_letter (b ∷ bs) = is_letter b

-- a letter or _, then letters, digits and _, at most 64 bytes
abbrev pub IsWord : List ℕ → Type 0
IsWord w = (begins_letter w ≡ true) × (prefix_len is_word_byte w ≡ length w) × (length w ≤ 64)

-- one digit or more
abbrev pub IsDigits : List ℕ → Type 0
IsDigits ds = (0 < length ds) × (prefix_len is_digit ds ≡ length ds)

abbrev pub symbol_text : SymbolValue → List ℕ
symbol_text Open = codes "("
symbol_text Close = codes ")"
symbol_text Comma = codes ","
symbol_text Equal = codes "="
symbol_text NotEqual = codes "<>"
symbol_text Less = codes "<"
symbol_text AtMost = codes "<="
symbol_text Greater = codes ">"
symbol_text AtLeast = codes ">="
symbol_text Plus = codes "+"
symbol_text Minus = codes "-"
symbol_text Star = codes "*"
symbol_text Dot = codes "."

-- these bytes behind the symbol would make a longer one
abbrev pub goes_on : SymbolValue → List ℕ → Bool
goes_on Less [] = false
goes_on Less (b ∷ bs) = (b == 61) || (b == 62)
goes_on Greater [] = false
goes_on Greater (b ∷ bs) = b == 61
goes_on Open bs = false
goes_on Close bs = false
goes_on Comma bs = false
goes_on Equal bs = false
goes_on NotEqual bs = false
goes_on AtMost bs = false
goes_on AtLeast bs = false
goes_on Plus bs = false
goes_on Minus bs = false
goes_on Star bs = false
goes_on Dot bs = false

-- the - is a number's sign: digits follow it, and no value stands before it
abbrev pub is_sign : Bool → List ℕ → Bool
is_sign value bs = not value && begins_digit bs

abbrev pub is_minus : SymbolValue → Bool
is_minus Minus = true
is_minus Open = false
is_minus Close = false
is_minus Comma = false
is_minus Equal = false
is_minus NotEqual = false
is_minus Less = false
is_minus AtMost = false
is_minus Greater = false
is_minus AtLeast = false
is_minus Plus = false
is_minus Star = false
is_minus Dot = false

-- The bytes, before the rest of the line, spell the token. The first argument says whether a value stands before it.
pub data SpellsToken : Bool → Token → List ℕ → List ℕ → Type 0 where
  word : (value : Bool) (w rest : List ℕ) → IsWord w → is_boundary rest ≡ true → SpellsToken value (Word w) w rest
  number : (value : Bool) (ds rest : List ℕ) → IsDigits ds → digits_value 10 ds < 2 ^ 63 → is_boundary rest ≡ true → SpellsToken value (Number (pos (digits_value 10 ds))) ds rest
  negative : (ds rest : List ℕ) → IsDigits ds → digits_value 10 ds ≤ 2 ^ 63 → is_boundary rest ≡ true → SpellsToken false (Number (neg_ℤ (pos (digits_value 10 ds)))) (45 ∷ ds) rest
  text : (value : Bool) (t inner rest : List ℕ) → SpellsInside t inner → is_boundary rest ≡ true → SpellsToken value (Text t) (39 ∷ (inner ++ 39 ∷ [])) rest
  symbol : (value : Bool) (s : SymbolValue) (rest : List ℕ) → goes_on s rest ≡ false → (is_minus s && is_sign value rest) ≡ false → SpellsToken value (Symbol s) (symbol_text s) rest

-- The bytes spell the tokens, with any spaces between them, before them and behind them.
pub data SpellsTokens : Bool → List Token → List ℕ → Type 0 where
  nothing : (value : Bool) → SpellsTokens value [] []
  space : (value : Bool) (ts : List Token) (bs : List ℕ) → SpellsTokens value ts bs → SpellsTokens value ts (32 ∷ bs)
  token : (value : Bool) (t : Token) (ts : List Token) (front bs : List ℕ) → SpellsToken value t front bs → SpellsTokens (ends_value t) ts bs → SpellsTokens value (t ∷ ts) (front ++ bs)

-- The line spells the tokens.
abbrev pub SpellsLine : List Token → List ℕ → Type 0
SpellsLine ts line = SpellsTokens false ts line
