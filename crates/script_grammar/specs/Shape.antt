-- The shapes of the grammar: what a shape stands for, which tokens spell it, and how tokens are read.
use Rattle.std.specs.Prelude.{◌≡◌, ℕ, zero, suc, ℤ, Bool, true, false, List, [], ◌∷◌, ◌++◌, length, Option, Some, None, ◌⊎◌, if◌then◌else◌, ◌==◌, codes}
use Rattle.std.specs.Str.{bytes_eq, is_utf8}
use Rattle.std.proofs.Common.{inl, inr}
use Rattle.row_base.specs.Readings.{◌>>=◌}
use Rattle.script_tokens.specs.declared.token.Token.{Token}
use Rattle.script_tokens.specs.declared.token.Token.TheVariants.{Word, Number, Text, Symbol}
use Rattle.script_tokens.specs.declared.token.Symbol.TheVariants.{Open, Close, Comma, Equal}
use Rattle.row_base.specs.declared.row.Datum.{Datum}
use Rattle.row_base.specs.declared.row.Datum.TheVariants as datum
use Rattle.row_base.specs.Dates.{IsDayNumber, date_in, text_of_day}
use Rattle.script_grammar.specs.Names.{is_name}

pub data Shape : Type 0 where
  nothing : Shape  -- no token
  a_number : Shape
  a_name : Shape
  a_literal : Shape  -- a number as a datum
  a_text : Shape  -- a text in quotes
  a_datum : Shape  -- a literal of any kind
  after : List ℕ → Shape → Shape  -- a word, then the shape
  before : Shape → List ℕ → Shape  -- the shape, then a word
  parens : Shape → Shape  -- the shape between ( and )
  assigned : Shape → Shape  -- =, then the shape
  both : Shape → Shape → Shape  -- one, then the other
  listed : Shape → Shape  -- one or more, with commas between them
  maybe : List ℕ → Shape → Shape  -- nothing, or a word and the shape
  choice : List ℕ → Shape → Shape → Shape  -- a word and the first shape, or the second shape

-- what a shape stands for
abbrev pub Value : Shape → Type 0
Value nothing = Unit {0}
Value a_number = ℤ
Value a_name = List ℕ
Value a_literal = Datum
Value a_text = List ℕ
Value a_datum = Datum
Value (after w s) = Value s
Value (before s w) = Value s
Value (parens s) = Value s
Value (assigned s) = Value s
Value (both s t) = Value s × Value t
Value (listed s) = List (Value s)
Value (maybe w s) = Option (Value s)
Value (choice w s t) = Value s ⊎ Value t

-- the tokens of a literal: so far of a number alone
abbrev pub literal_tokens : Datum → List Token
literal_tokens (datum.Long n) = Number n ∷ []
literal_tokens datum.Null = []
literal_tokens (datum.Integer n) = []
literal_tokens (datum.Boolean b) = []
literal_tokens (datum.Text t) = []
literal_tokens (datum.Date d) = []

abbrev pub is_literal : Datum → Bool
is_literal (datum.Long n) = true
is_literal datum.Null = false
is_literal (datum.Integer n) = false
is_literal (datum.Boolean b) = false
is_literal (datum.Text t) = false
is_literal (datum.Date d) = false

-- the tokens of a literal of any kind; a number of 32 bits has none
abbrev pub datum_tokens : Datum → List Token
datum_tokens datum.Null = Word (codes "null") ∷ []
datum_tokens (datum.Long n) = Number n ∷ []
datum_tokens (datum.Integer n) = []
datum_tokens (datum.Boolean true) = Word (codes "true") ∷ []
datum_tokens (datum.Boolean false) = Word (codes "false") ∷ []
datum_tokens (datum.Text t) = Text t ∷ []
datum_tokens (datum.Date n) = Word (codes "date") ∷ Text (text_of_day n) ∷ []

-- there is a literal of the datum: a text is UTF-8, and a date is of the years 1 to 9999
abbrev pub HasLiteral : Datum → Type 0
HasLiteral datum.Null = Unit {0}
HasLiteral (datum.Long n) = Unit {0}
HasLiteral (datum.Integer n) = ⊥
HasLiteral (datum.Boolean b) = Unit {0}
HasLiteral (datum.Text t) = is_utf8 t ≡ true
HasLiteral (datum.Date n) = IsDayNumber n

abbrev pub comma_before : {A : Type 0} → (A → List Token) → List A → List Token
comma_before f [] = []
comma_before f (v ∷ vs) = Symbol Comma ∷ (f v ++ comma_before f vs)

abbrev pub separated : {A : Type 0} → (A → List Token) → List A → List Token
separated f [] = []
separated f (v ∷ vs) = f v ++ comma_before f vs

-- the tokens that spell a value
abbrev pub spell : (s : Shape) → Value s → List Token
spell nothing v = []
spell a_number n = Number n ∷ []
spell a_name v = Word v ∷ []
spell a_literal d = literal_tokens d
spell a_text t = Text t ∷ []
spell a_datum d = datum_tokens d
spell (after w s) v = Word w ∷ spell s v
spell (before s w) v = spell s v ++ Word w ∷ []
spell (parens s) v = Symbol Open ∷ (spell s v ++ Symbol Close ∷ [])
spell (assigned s) v = Symbol Equal ∷ spell s v
spell (both s t) v = spell s v.0 ++ spell t v.1
spell (listed s) vs = separated (spell s) vs
spell (maybe w s) None = []
spell (maybe w s) (Some v) = Word w ∷ spell s v
spell (choice w s t) (inl v) = Word w ∷ spell s v
spell (choice w s t) (inr v) = spell t v

-- ---- reading, from left to right

abbrev pub word_at : List ℕ → List Token → Option (List Token)
word_at w (Word v ∷ ts) = if bytes_eq v w then Some ts else None
word_at w _ = None

abbrev pub name_at : List Token → Option (List ℕ × List Token)
name_at (Word v ∷ ts) = if is_name v then Some (v, ts) else None
name_at _ = None

abbrev pub number_at : List Token → Option (ℤ × List Token)
number_at (Number n ∷ ts) = Some (n, ts)
number_at _ = None

abbrev pub literal_at : List Token → Option (Datum × List Token)
literal_at (Number n ∷ ts) = Some (datum.Long n, ts)
literal_at _ = None

abbrev pub utf8_text : List ℕ → Option (List ℕ)
utf8_text t = if is_utf8 t then Some t else None

abbrev pub text_at : List Token → Option (List ℕ × List Token)
text_at (Text t ∷ ts) = utf8_text t >>= λ u. Some (u, ts)
text_at _ = None

-- a day, of a text as yyyy-MM-dd
abbrev pub day_at : List Token → Option (Datum × List Token)
day_at ts = text_at ts >>= λ x. date_in x.0 >>= λ n. Some (datum.Date n, x.1)

-- the literal that begins with a word
abbrev pub date_datum : List ℕ → List Token → Option (Datum × List Token)
date_datum w ts = if bytes_eq w (codes "date") then day_at ts else None

abbrev pub false_datum : List ℕ → List Token → Option (Datum × List Token)
false_datum w ts = if bytes_eq w (codes "false") then Some (datum.Boolean false, ts) else date_datum w ts

abbrev pub true_datum : List ℕ → List Token → Option (Datum × List Token)
true_datum w ts = if bytes_eq w (codes "true") then Some (datum.Boolean true, ts) else false_datum w ts

abbrev pub named_datum : List ℕ → List Token → Option (Datum × List Token)
named_datum w ts = if bytes_eq w (codes "null") then Some (datum.Null, ts) else true_datum w ts

abbrev pub datum_at : List Token → Option (Datum × List Token)
datum_at (Number n ∷ ts) = Some (datum.Long n, ts)
datum_at (Text t ∷ ts) = utf8_text t >>= λ u. Some (datum.Text u, ts)
datum_at (Word w ∷ ts) = named_datum w ts
datum_at _ = None

abbrev pub equal_at : List Token → Option (List Token)
equal_at (Symbol Equal ∷ ts) = Some ts
equal_at _ = None

abbrev pub open_at : List Token → Option (List Token)
open_at (Symbol Open ∷ ts) = Some ts
open_at _ = None

abbrev pub close_at : List Token → Option (List Token)
close_at (Symbol Close ∷ ts) = Some ts
close_at _ = None

abbrev pub comma_at : List Token → Option (List Token)
comma_at (Symbol Comma ∷ ts) = Some ts
comma_at _ = None

abbrev pub or_else : {A : Type 0} → Option (List Token) → (List Token → Option A) → Option A → Option A
or_else None f a = a
or_else (Some r) f a = f r

-- further items, each behind a comma; no more than fuel
unfoldable pub more_at : {A : Type 0} → (List Token → Option (A × List Token)) → ℕ → List Token → Option (List A × List Token)
more_at f zero ts = or_else (comma_at ts) (λ r. None) (Some ([], ts))
more_at f (suc fuel) ts = or_else (comma_at ts) (λ r. f r >>= λ x. more_at f fuel x.1 >>= λ ys. Some (x.0 ∷ ys.0, ys.1)) (Some ([], ts))

-- one item or more
unfoldable pub many_at : {A : Type 0} → (List Token → Option (A × List Token)) → List Token → Option (List A × List Token)
many_at f ts = f ts >>= λ x. more_at f (length ts) x.1 >>= λ ys. Some (x.0 ∷ ys.0, ys.1)

abbrev pub read : (s : Shape) → List Token → Option (Value s × List Token)
read nothing ts = Some (tt, ts)
read a_number ts = number_at ts
read a_name ts = name_at ts
read a_literal ts = literal_at ts
read a_text ts = text_at ts
read a_datum ts = datum_at ts
read (after w s) ts = word_at w ts >>= λ r. read s r
read (before s w) ts = read s ts >>= λ x. word_at w x.1 >>= λ r. Some (x.0, r)
read (parens s) ts = open_at ts >>= λ r. read s r >>= λ x. close_at x.1 >>= λ q. Some (x.0, q)
read (assigned s) ts = equal_at ts >>= λ r. read s r
read (both s t) ts = read s ts >>= λ x. read t x.1 >>= λ y. Some ((x.0, y.0), y.1)
read (listed s) ts = many_at (read s) ts
read (maybe w s) ts = or_else (word_at w ts) (λ r. read s r >>= λ x. Some (Some x.0, x.1)) (Some (None, ts))
read (choice w s t) ts = or_else (word_at w ts) (λ r. read s r >>= λ x. Some (inl x.0, x.1)) (read t ts >>= λ x. Some (inr x.0, x.1))

-- ---- which values are spelled so that they are read again, before the tokens that follow

abbrev pub FitsMore : {A : Type 0} → (A → List Token) → (A → List Token → Type 0) → List A → List Token → Type 0
FitsMore g fit [] rest = comma_at rest ≡ None
FitsMore g fit (v ∷ vs) rest = fit v (comma_before g vs ++ rest) × FitsMore g fit vs rest

abbrev pub FitsMany : {A : Type 0} → (A → List Token) → (A → List Token → Type 0) → List A → List Token → Type 0
FitsMany g fit [] rest = ⊥
FitsMany g fit (v ∷ vs) rest = fit v (comma_before g vs ++ rest) × FitsMore g fit vs rest

abbrev pub Fits : (s : Shape) → Value s → List Token → Type 0
Fits nothing v rest = Unit {0}
Fits a_number v rest = Unit {0}
Fits a_name v rest = is_name v ≡ true
Fits a_literal d rest = is_literal d ≡ true
Fits a_text t rest = is_utf8 t ≡ true
Fits a_datum d rest = HasLiteral d
Fits (after w s) v rest = Fits s v rest
Fits (before s w) v rest = Fits s v (Word w ∷ rest)
Fits (parens s) v rest = Fits s v (Symbol Close ∷ rest)
Fits (assigned s) v rest = Fits s v rest
Fits (both s t) v rest = Fits s v.0 (spell t v.1 ++ rest) × Fits t v.1 rest
Fits (listed s) vs rest = FitsMany (spell s) (Fits s) vs rest
Fits (maybe w s) None rest = word_at w rest ≡ None
Fits (maybe w s) (Some v) rest = Fits s v rest
Fits (choice w s t) (inl v) rest = Fits s v rest
Fits (choice w s t) (inr v) rest = (word_at w (spell t v ++ rest) ≡ None) × Fits t v rest

-- these tokens spell v, and then rest follows
pub record Spells (s : Shape) (ts : List Token) (v : Value s) (rest : List Token) : Type 0 where
  pub parts : ts ≡ spell s v ++ rest
  pub fits : Fits s v rest

abbrev pub ended : {A : Type 0} → A × List Token → Option A
ended x = if length x.1 == 0 then Some x.0 else None

-- a value that all of the tokens spell
unfoldable pub whole : (s : Shape) → List Token → Option (Value s)
whole s ts = read s ts >>= λ x. ended x
