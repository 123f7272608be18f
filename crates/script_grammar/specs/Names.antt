-- Names.
use Rattle.std.specs.Prelude.{ℕ, Bool, List, ◌==◌, ◌&&◌, not, nat_le, length}
use Rattle.std.specs.List.{prefix_len}
use Rattle.script_tokens.specs.Words.{is_word_byte, is_reserved}
use Rattle.script_tokens.specs.Tokens.{begins_letter}

-- a letter or _, then letters, digits and _, at most 64 bytes, and no word of the grammar
abbrev pub is_name : List ℕ → Bool
is_name w = begins_letter w && ((prefix_len is_word_byte w == length w) && (nat_le (length w) 64 && not (is_reserved w)))
