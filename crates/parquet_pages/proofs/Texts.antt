-- Which bytes are a text.
use Rattle.std.proofs.Common.{◌≡◌, ℕ, ◌≤◌, false, List, length, refl, Some, None, IsUtf8}
use Rattle.std.specs.Str.{is_utf8}
use Rattle.std.proofs.lemmas.Bool.{le-leb, false_from_ne_true}
use Rattle.std.proofs.lemmas.Str.{is_utf8-from_IsUtf8, IsUtf8-from_is_utf8}
use Rattle.row_base.specs.declared.limits.TheConstants.{MAX_TEXT_BYTES}
use Rattle.row_base.specs.declared.row.Datum.TheVariants as datum
use Rattle.parquet_pages.specs.Plain.{text_datum}

pub text_taken : (bytes text : List ℕ) → length bytes ≤ MAX_TEXT_BYTES → IsUtf8 bytes → text ≡ bytes → text_datum bytes ≡ Some (datum.Text text)
text_taken bytes text short utf8 e = rw (le-leb (length bytes) MAX_TEXT_BYTES short, is_utf8-from_IsUtf8 bytes utf8, e) refl

pub text_refused : (bytes : List ℕ) → length bytes ≤ MAX_TEXT_BYTES → (IsUtf8 bytes → ⊥) → text_datum bytes ≡ None
text_refused bytes short never =
    let not_text : is_utf8 bytes ≡ false = false_from_ne_true (is_utf8 bytes) (λ yes. never (IsUtf8-from_is_utf8 bytes yes)) in
    rw (le-leb (length bytes) MAX_TEXT_BYTES short, not_text) refl
