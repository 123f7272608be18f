-- Names are ASCII.
use Rattle.std.proofs.Common.{◌≡◌, ℕ, zero, suc, ◌+◌, ◌<◌, Bool, true, false, cond, List, [], ◌∷◌, length, refl, arith, IsUtf8}
use Rattle.std.specs.Prelude.{◌==◌, ◌&&◌, not, nat_le}
use Rattle.std.specs.List.{prefix_len}
use Rattle.std.specs.Str.{IsAscii}
use Rattle.std.proofs.lemmas.Str.{IsUtf8-from_ascii}
use Rattle.std.proofs.lemmas.Bool.{eqb-true}
use Rattle.std.proofs.lemmas.Bool.Decides.{nat_tests}
use Rattle.script_tokens.specs.Words.{is_word_byte, is_reserved}
use Rattle.script_tokens.specs.Tokens.{begins_letter}
use Rattle.script_tokens.proofs.Runs.{and_true}
use Rattle.script_grammar.specs.Names.{is_name}

cond_suc : (c : Bool) (m n : ℕ) → cond c (1 + m) 0 ≡ suc n → (c ≡ true) × (m ≡ n)
cond_suc true m n h = (refl, omega arith)
cond_suc false m n h = absurd (omega arith)

word_byte_small : (b : ℕ) → is_word_byte b ≡ true → b < 128
word_byte_small b h = grind (arith, nat_tests)

run_is_ascii : (w : List ℕ) → prefix_len is_word_byte w ≡ length w → IsAscii w
run_is_ascii [] h i = omega arith
run_is_ascii (b ∷ w) h zero = word_byte_small b (cond_suc (is_word_byte b) (prefix_len is_word_byte w) (length w) h).0
run_is_ascii (b ∷ w) h (suc i) = run_is_ascii w (cond_suc (is_word_byte b) (prefix_len is_word_byte w) (length w) h).1 i

pub name_is_utf8 : (w : List ℕ) → is_name w ≡ true → IsUtf8 w
name_is_utf8 w h =
    let a = and_true (begins_letter w) (prefix_len is_word_byte w == length w && (nat_le (length w) 64 && not (is_reserved w))) h in
    let b = and_true (prefix_len is_word_byte w == length w) (nat_le (length w) 64 && not (is_reserved w)) a.1 in
    IsUtf8-from_ascii w (run_is_ascii w (eqb-true _ _ b.0))
