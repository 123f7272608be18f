-- Numbers of a line have 64 bits.
use Rattle.std.proofs.Common.{ℕ, zero, suc, ◌<◌, ◌≤◌, ◌^◌, Bool, List, [], ◌∷◌, ◌++◌, arith}
use Rattle.std.specs.Prelude.{pos, neg_ℤ, FitsSigned}
use Rattle.std.specs.Int.{w64}
use Rattle.script_tokens.specs.declared.token.Token.{Token}
use Rattle.script_tokens.specs.declared.token.Token.TheVariants.{Word, Number, Text, Symbol}
use Rattle.script_tokens.specs.Words.{ends_value}
use Rattle.script_tokens.specs.Tokens.{SpellsToken, word, number, negative, text, symbol, SpellsTokens, nothing, space, token}

-- a number has 64 bits
abbrev pub FitsLong : Token → Type 0
FitsLong (Word w) = Unit {0}
FitsLong (Number n) = FitsSigned w64 n
FitsLong (Text t) = Unit {0}
FitsLong (Symbol s) = Unit {0}

abbrev pub AllFit : List Token → Type 0
AllFit [] = Unit {0}
AllFit (t ∷ ts) = FitsLong t × AllFit ts

pub fit_parts : (a b : List Token) → AllFit (a ++ b) → AllFit a × AllFit b
fit_parts [] b h = (tt, h)
fit_parts (t ∷ a) b h = let two = fit_parts a b h.1 in ((h.0, two.0), two.1)

above_fits : (n : ℕ) → n < 2 ^ 63 → FitsSigned w64 (pos n)
above_fits n small = record { sfits = small }

below_fits : (n : ℕ) → n ≤ 2 ^ 63 → FitsSigned w64 (neg_ℤ (pos n))
below_fits zero small = record { sfits = omega arith }
below_fits (suc n) small = record { sfits = omega (arith, small) }

token_fits : (value : Bool) (t : Token) (front rest : List ℕ) → SpellsToken value t front rest → FitsLong t
token_fits _ _ _ _ (word value w rest is g) = tt
token_fits _ _ _ _ (number value ds rest is small g) = above_fits _ small
token_fits _ _ _ _ (negative ds rest is small g) = below_fits _ small
token_fits _ _ _ _ (text value t inner rest is g) = tt
token_fits _ _ _ _ (symbol value s rest on minus) = tt

pub tokens_fit : (value : Bool) (ts : List Token) (bs : List ℕ) → SpellsTokens value ts bs → AllFit ts
tokens_fit _ _ _ (nothing value) = tt
tokens_fit _ _ _ (space value ts bs h) = tokens_fit value ts bs h
tokens_fit _ _ _ (token value t ts front bs one more) = (token_fits value t front bs one, tokens_fit (ends_value t) ts bs more)
