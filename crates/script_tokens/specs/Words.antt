-- Letters, and the words of the grammar.
use Rattle.std.specs.Prelude.{ℕ, Bool, true, false, List, [], ◌∷◌, ◌==◌, ◌||◌, not, codes}
use Rattle.std.specs.Char.{is_ascii_digit, is_ascii_alphabetic}
use Rattle.std.specs.Str.{bytes_eq}
use Rattle.std.specs.List.{list_any}
use Rattle.script_tokens.specs.declared.token.Token.{Token}
use Rattle.script_tokens.specs.declared.token.Token.TheVariants.{Word, Number, Text, Symbol}
use Rattle.script_tokens.specs.declared.token.Symbol.TheVariants.{Open, Close, Comma, Equal, NotEqual, Less, AtMost, Greater, AtLeast, Plus, Minus, Star, Dot}

abbrev pub is_digit : ℕ → Bool
is_digit b = is_ascii_digit b

-- a letter, or _
abbrev pub is_letter : ℕ → Bool
is_letter b = is_ascii_alphabetic b || (b == 95)

abbrev pub is_word_byte : ℕ → Bool
is_word_byte b = is_letter b || is_digit b

-- a word, a number or a text may end before these bytes: no letter, digit or quote follows
abbrev pub is_boundary : List ℕ → Bool
is_boundary [] = true
is_boundary (b ∷ bs) = not (is_word_byte b || (b == 39))

abbrev pub begins_digit : List ℕ → Bool
begins_digit [] = false
begins_digit (b ∷ bs) = is_digit b

-- ---- the words of the grammar, none of which is a name

-- the words that begin a line, those of statements, kinds of columns, literals, predicates and clauses
abbrev pub reserved_words : List (List ℕ)
reserved_words =
    codes "attempts" ∷ codes "open" ∷ codes "table" ∷ codes "session" ∷ codes "kill" ∷ codes "schedule" ∷ codes "wait"
    ∷ codes "insert" ∷ codes "delete" ∷ codes "update" ∷ codes "merge" ∷ codes "optimize" ∷ codes "vacuum" ∷ codes "alter" ∷ codes "select"
    ∷ codes "long" ∷ codes "integer" ∷ codes "boolean" ∷ codes "string" ∷ codes "date"
    ∷ codes "true" ∷ codes "false" ∷ codes "null"
    ∷ codes "and" ∷ codes "or" ∷ codes "not" ∷ codes "is"
    ∷ codes "partitioned" ∷ codes "by" ∷ codes "with" ∷ codes "txn" ∷ codes "where" ∷ codes "set" ∷ codes "key" ∷ codes "using" ∷ codes "source"
    ∷ codes "when" ∷ codes "matched" ∷ codes "then" ∷ codes "target" ∷ codes "retain" ∷ codes "dry" ∷ codes "run" ∷ codes "version" ∷ codes "timestamp"
    ∷ []

-- a word of the grammar
unfoldable pub is_reserved : List ℕ → Bool
is_reserved w = list_any (bytes_eq w) reserved_words

-- a literal by itself
abbrev pub is_constant : List ℕ → Bool
is_constant w = list_any (bytes_eq w) (codes "true" ∷ codes "false" ∷ codes "null" ∷ [])

-- a - behind this token is the symbol: it is a name, a literal, or )
abbrev pub ends_value : Token → Bool
ends_value (Word w) = is_constant w || not (is_reserved w)
ends_value (Number n) = true
ends_value (Text t) = true
ends_value (Symbol Open) = false
ends_value (Symbol Close) = true
ends_value (Symbol Comma) = false
ends_value (Symbol Equal) = false
ends_value (Symbol NotEqual) = false
ends_value (Symbol Less) = false
ends_value (Symbol AtMost) = false
ends_value (Symbol Greater) = false
ends_value (Symbol AtLeast) = false
ends_value (Symbol Plus) = false
ends_value (Symbol Minus) = false
ends_value (Symbol Star) = false
ends_value (Symbol Dot) = false
