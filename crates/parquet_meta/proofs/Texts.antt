-- The test for UTF-8.
use Rattle.std.proofs.Common.{◌≡◌, ℕ, true, false, List, refl}
use Rattle.std.specs.Str.{IsUtf8, is_utf8}
use Rattle.std.proofs.lemmas.Bool.{cases_Bool}
use Rattle.std.proofs.lemmas.Str.{IsUtf8-from_is_utf8, is_utf8-from_IsUtf8}
use Rattle.std.proofs.Common.{inl, inr, Ok}
use Rattle.parquet_meta.specs.Pieces.{Piece}
use Rattle.parquet_meta.specs.Values.{binary_in, text_in}

pub not_utf8 : (bytes : List ℕ) → ¬ (IsUtf8 bytes) → is_utf8 bytes ≡ false
not_utf8 bytes never = elim (cases_Bool (is_utf8 bytes)) [ inl here ↦ absurd (never (IsUtf8-from_is_utf8 bytes here)) | inr e ↦ e ]

pub utf8 : (bytes : List ℕ) → IsUtf8 bytes → is_utf8 bytes ≡ true
utf8 bytes h = is_utf8-from_IsUtf8 bytes h

pub text_good : (piece : Piece) (place at : ℕ) (text other : List ℕ) (end : ℕ) → binary_in piece at ≡ Ok (text, end) → IsUtf8 text → other ≡ text → text_in piece place at ≡ Ok (other, end)
unfolding text_in
text_good piece place at text other end e h same = rw (e, utf8 text h, same) refl
