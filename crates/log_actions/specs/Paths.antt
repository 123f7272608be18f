-- Paths of data files, as they stand in the log (RFC 3986 for schemes and percent escapes).
use Rattle.std.specs.Prelude.{ℕ, Bool, false, ◌==◌, ◌||◌, ◌&&◌, List, [], ◌∷◌, if◌then◌else◌, Option, Some, None}
use Rattle.std.specs.Char.{is_ascii_alphabetic, is_ascii_alphanumeric}
use Rattle.std.specs.Str.{is_utf8}
use Rattle.percent_encoding.specs.Percent.{percent_decode}

-- bytes that are UTF-8
abbrev pub if_utf8 : List ℕ → Option (List ℕ)
if_utf8 bytes = if is_utf8 bytes then Some bytes else None

-- a path with its percent escapes undone, where that is UTF-8; what is no escape stays
unfoldable pub name_of_path : List ℕ → Option (List ℕ)
name_of_path path = if_utf8 (percent_decode path)

-- what may stand in a scheme behind its first letter
abbrev pub is_scheme_byte : ℕ → Bool
is_scheme_byte b = is_ascii_alphanumeric b || (b == 43) || (b == 45) || (b == 46)

-- some bytes of a scheme, and a colon
abbrev pub ends_scheme : List ℕ → Bool
ends_scheme [] = false
ends_scheme (b ∷ bs) = (b == 58) || (is_scheme_byte b && ends_scheme bs)

-- a leading slash, or a scheme
unfoldable pub is_absolute : List ℕ → Bool
is_absolute [] = false
is_absolute (b ∷ bs) = (b == 47) || (is_ascii_alphabetic b && ends_scheme bs)
