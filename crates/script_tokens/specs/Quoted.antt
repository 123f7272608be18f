-- The inside of a text in quotes.
use Rattle.std.specs.Prelude.{◌≡◌, ℕ, ◌+◌, ◌*◌, ◌-◌, ◌<◌, Bool, true, false, List, [], ◌∷◌, Option, Some, None, if◌then◌else◌, length, ◌==◌, nat_le, ◌||◌, ◌&&◌, not}
use Rattle.row_base.specs.Readings.{◌>>=◌}
use Rattle.script_tokens.specs.declared.text.Piece.{Piece}
use Rattle.script_tokens.specs.declared.text.Piece.TheVariants as piece

-- ---- the grammar

-- a digit of base 16, in either case
abbrev pub digit_of : ℕ → Option ℕ
digit_of b = if nat_le 48 b && nat_le b 57 then Some (b - 48) else (if nat_le 97 b && nat_le b 102 then Some (b - 97 + 10) else (if nat_le 65 b && nat_le b 70 then Some (b - 65 + 10) else None))

-- one of 0 to 7
abbrev pub high_of : ℕ → Option ℕ
high_of b = if nat_le 48 b && nat_le b 55 then Some (b - 48) else None

-- stands for itself: neither a quote nor a backslash
abbrev pub is_plain : ℕ → Bool
is_plain b = not (b == 39 || (b == 92))

-- these bytes between quotes spell the text
pub data SpellsInside : List ℕ → List ℕ → Type 0 where
  nothing : SpellsInside [] []
  itself : (b : ℕ) (t bs : List ℕ) → is_plain b ≡ true → SpellsInside t bs → SpellsInside (b ∷ t) (b ∷ bs)
  two_quotes : (t bs : List ℕ) → SpellsInside t bs → SpellsInside (39 ∷ t) (39 ∷ 39 ∷ bs)
  two_backslashes : (t bs : List ℕ) → SpellsInside t bs → SpellsInside (92 ∷ t) (92 ∷ 92 ∷ bs)
  code : (h l high low : ℕ) (t bs : List ℕ) → high_of h ≡ Some high → digit_of l ≡ Some low → SpellsInside t bs → SpellsInside ((high * 16 + low) ∷ t) (92 ∷ 120 ∷ h ∷ l ∷ bs)

abbrev pub begins_quote : List ℕ → Bool
begins_quote [] = false
begins_quote (b ∷ bs) = b == 39

-- ---- reading

-- the place inside of an escape
pub data Mode : Type 0 where
  plain : Mode
  quoted : Mode
  slashed : Mode
  hex : Mode
  low : ℕ → Mode

abbrev pub put : ℕ → Option (List ℕ × List ℕ) → Option (List ℕ × List ℕ)
put b o = o >>= λ x. Some (b ∷ x.0, x.1)

-- the text up to the closing quote, and what follows it
unfoldable pub body : Mode → List ℕ → Option (List ℕ × List ℕ)
body plain [] = None
body plain (b ∷ bs) = if b == 39 then body quoted bs else (if b == 92 then body slashed bs else put b (body plain bs))
body quoted [] = Some ([], [])
body quoted (b ∷ bs) = if b == 39 then put 39 (body plain bs) else Some ([], b ∷ bs)
body slashed [] = None
body slashed (b ∷ bs) = if b == 92 then put 92 (body plain bs) else (if b == 120 then body hex bs else None)
body hex [] = None
body hex (b ∷ bs) = high_of b >>= λ d. body (low d) bs
body (low d) [] = None
body (low d) (b ∷ bs) = digit_of b >>= λ e. put (d * 16 + e) (body plain bs)

abbrev pub IsPiece : Option (List ℕ × List ℕ) → Piece → Type 0
IsPiece r (piece.Byte b rest) = r ≡ put b (body plain rest.now)
IsPiece r (piece.End rest) = r ≡ Some ([], rest.now)
IsPiece r piece.Bad = r ≡ None

abbrev pub IsShorter : ℕ → Piece → Type 0
IsShorter n (piece.Byte b rest) = length rest.now < n
IsShorter n (piece.End rest) = Unit {0}
IsShorter n piece.Bad = Unit {0}
