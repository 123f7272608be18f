-- How a line is cut into tokens.
use Rattle.std.specs.Prelude.{ℕ, zero, suc, ℤ, pos, neg_ℤ, ◌-◌, ◌^◌, Bool, false, List, [], ◌∷◌, Option, Some, None, if◌then◌else◌, length, take, drop, ◌==◌, ◌&&◌, nat_lt, nat_le}
use Rattle.std.specs.List.{prefix_len}
use Rattle.std.specs.Str.Parse.{digits_value}
use Rattle.script_tokens.specs.declared.token.Token.{Token}
use Rattle.script_tokens.specs.declared.token.Token.TheVariants.{Word, Number, Text, Symbol}
use Rattle.script_tokens.specs.declared.token.Symbol.{Symbol as SymbolValue}
use Rattle.script_tokens.specs.declared.token.Symbol.TheVariants.{Open, Close, Comma, Equal, NotEqual, Less, AtMost, Greater, AtLeast, Plus, Minus, Star, Dot}
use Rattle.script_tokens.specs.Words.{is_letter, is_word_byte, is_digit, is_boundary, ends_value}
use Rattle.row_base.specs.Readings.{◌>>=◌}
use Rattle.script_tokens.specs.Quoted.{body, plain}
use Rattle.script_tokens.specs.Tokens.{is_sign}

-- a token, and the bytes behind it
abbrev pub Taken : Type 0
Taken = Token × List ℕ

-- a word of this many bytes
abbrev pub word_of : ℕ → List ℕ → Option Taken
word_of n bs = if nat_le n 64 && is_boundary (drop n bs) then Some (Word (take n bs), drop n bs) else None

unfoldable pub word_at : List ℕ → Option Taken
word_at bs = word_of (prefix_len is_word_byte bs) bs

-- the number of these digits, if 64 bits hold it
unfoldable pub unsigned_value : List ℕ → Option ℤ
unsigned_value ds = if nat_lt (digits_value 10 ds) (2 ^ 63) then Some (pos (digits_value 10 ds)) else None

unfoldable pub negative_value : List ℕ → Option ℤ
negative_value ds = if nat_le (digits_value 10 ds) (2 ^ 63) then Some (neg_ℤ (pos (digits_value 10 ds))) else None

abbrev pub number_of : (List ℕ → Option ℤ) → ℕ → List ℕ → Option Taken
number_of value n bs = if is_boundary (drop n bs) then (value (take n bs) >>= λ k. Some (Number k, drop n bs)) else None

unfoldable pub number_at : List ℕ → Option Taken
number_at bs = number_of unsigned_value (prefix_len is_digit bs) bs

-- behind the sign
unfoldable pub negative_at : List ℕ → Option Taken
negative_at bs = number_of negative_value (prefix_len is_digit bs) bs

-- behind the opening quote
unfoldable pub text_at : List ℕ → Option Taken
text_at bs = body plain bs >>= λ x. (if is_boundary x.1 then Some (Text x.0, x.1) else None)

abbrev pub less_at : List ℕ → SymbolValue × List ℕ
less_at [] = (Less, [])
less_at (b ∷ bs) = if b == 61 then (AtMost, bs) else (if b == 62 then (NotEqual, bs) else (Less, b ∷ bs))

abbrev pub greater_at : List ℕ → SymbolValue × List ℕ
greater_at [] = (Greater, [])
greater_at (b ∷ bs) = if b == 61 then (AtLeast, bs) else (Greater, b ∷ bs)

-- a symbol of one byte
abbrev pub single : ℕ → Option SymbolValue
single b = if b == 40 then Some Open else (if b == 41 then Some Close else (if b == 44 then Some Comma else (if b == 61 then Some Equal else (if b == 43 then Some Plus else (if b == 45 then Some Minus else (if b == 42 then Some Star else (if b == 46 then Some Dot else None)))))))

unfoldable pub symbol_at : List ℕ → Option (SymbolValue × List ℕ)
symbol_at [] = None
symbol_at (b ∷ bs) = if b == 60 then Some (less_at bs) else (if b == 62 then Some (greater_at bs) else (single b >>= λ s. Some (s, bs)))

abbrev pub symbol_token_at : List ℕ → Option Taken
symbol_token_at bs = symbol_at bs >>= λ x. Some (Symbol x.0, x.1)

-- the token at the front; the first argument says whether a value stands before it
unfoldable pub token_at : Bool → List ℕ → Option Taken
token_at value [] = None
token_at value (b ∷ bs) = if is_letter b then word_at (b ∷ bs) else (if is_digit b then number_at (b ∷ bs) else (if b == 39 then text_at bs else (if b == 45 && is_sign value bs then negative_at bs else symbol_token_at (b ∷ bs))))

abbrev pub put : Token → Option (List Token) → Option (List Token)
put t o = o >>= λ ts. Some (t ∷ ts)

-- the tokens behind so many bytes
unfoldable pub lex : Bool → ℕ → List ℕ → Option (List Token)
lex value skip [] = Some []
lex value (suc skip) (b ∷ bs) = lex value skip bs
lex value zero (b ∷ bs) = if b == 32 then lex value zero bs else (token_at value (b ∷ bs) >>= λ x. put x.0 (lex (ends_value x.0) (length bs - length x.1) bs))

-- the tokens of a line
abbrev pub line_tokens : List ℕ → Option (List Token)
line_tokens line = lex false 0 line

abbrev pub put_some : Option Token → Option (List Token) → Option (List Token)
put_some None o = o
put_some (Some t) o = put t o

abbrev pub value_after : Bool → Option Token → Bool
value_after value None = value
value_after value (Some t) = ends_value t

abbrev pub starts_space : List ℕ → Bool
starts_space [] = false
starts_space (b ∷ bs) = b == 32
