-- The items of a line.
use Rattle.std.specs.Prelude.{◌≡◌, ℕ, zero, suc, ◌-◌, Bool, true, List, [], ◌∷◌, ◌++◌, Option, Some, None, if◌then◌else◌, length, take, drop, ◌==◌, ◌&&◌, codes}
use Rattle.std.specs.List.{prefix_len}
use Rattle.actor_core.specs.declared.schedule.ItemForm.{ItemForm}
use Rattle.actor_core.specs.declared.schedule.ItemForm.TheVariants.{One, Statement, Attempt}
use Rattle.row_base.specs.Readings.{◌>>=◌}
use Rattle.script_tokens.specs.Words.{is_word_byte}
use Rattle.script_grammar.specs.Names.{is_name}

-- a session's name, and how far the session goes
abbrev pub NamedItem : Type 0
NamedItem = List ℕ × ItemForm

-- what stands directly behind the name
abbrev pub form_text : ItemForm → List ℕ
form_text One = []
form_text Statement = codes "!"
form_text Attempt = codes "@"

-- an item may end before these bytes: there are none, or a space follows
abbrev pub ends_item : List ℕ → Bool
ends_item [] = true
ends_item (b ∷ bs) = b == 32

-- The bytes spell the items, with one space or more between two.
pub data SpellsItems : List NamedItem → List ℕ → Type 0 where
  nothing : SpellsItems [] []
  space : (xs : List NamedItem) (bs : List ℕ) → SpellsItems xs bs → SpellsItems xs (32 ∷ bs)
  item : (name : List ℕ) (form : ItemForm) (xs : List NamedItem) (bs : List ℕ) → is_name name ≡ true → ends_item bs ≡ true → SpellsItems xs bs → SpellsItems ((name, form) ∷ xs) (name ++ (form_text form ++ bs))

-- ---- reading

abbrev pub form_at : List ℕ → ItemForm × List ℕ
form_at [] = (One, [])
form_at (b ∷ bs) = if b == 33 then (Statement, bs) else (if b == 64 then (Attempt, bs) else (One, b ∷ bs))

-- a name of this many bytes, and its form
abbrev pub item_of : ℕ → List ℕ → Option (NamedItem × List ℕ)
item_of n bs = if is_name (take n bs) && ends_item (form_at (drop n bs)).1 then Some ((take n bs, (form_at (drop n bs)).0), (form_at (drop n bs)).1) else None

unfoldable pub item_at : List ℕ → Option (NamedItem × List ℕ)
item_at bs = item_of (prefix_len is_word_byte bs) bs

abbrev pub put : NamedItem → Option (List NamedItem) → Option (List NamedItem)
put x o = o >>= λ xs. Some (x ∷ xs)

-- the items behind so many bytes
unfoldable pub items_behind : ℕ → List ℕ → Option (List NamedItem)
items_behind skip [] = Some []
items_behind (suc skip) (b ∷ bs) = items_behind skip bs
items_behind zero (b ∷ bs) = if b == 32 then items_behind zero bs else (item_at (b ∷ bs) >>= λ x. put x.0 (items_behind (length bs - length x.1) bs))

abbrev pub items_of : List ℕ → Option (List NamedItem)
items_of bs = items_behind 0 bs
