-- A text at the front of some bytes.
use Rattle.std.specs.Prelude.{◌≡◌, ℕ, false, List, ◌∷◌, ◌++◌}
use Rattle.script_tokens.specs.Quoted.{SpellsInside, begins_quote}

-- the bytes are the inside of the text, its closing quote, and the rest, which begins with no quote
pub record InsideOf (bs t rest : List ℕ) : Type 0 where
  pub inner : List ℕ
  pub parts : bs ≡ inner ++ 39 ∷ rest
  pub spelled : SpellsInside t inner
  pub ends : begins_quote rest ≡ false
