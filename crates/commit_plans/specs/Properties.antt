-- The properties of a table that is made.
use Rattle.std.specs.Prelude.{ℕ, List, [], ◌∷◌, map, Option, Some, None, option_map, if◌then◌else◌, codes}
use Rattle.std.specs.BTreeMap.{insert_entry}
use Rattle.std.specs.Cmp.Lexicographic.{slice_cmp}
use Rattle.std.specs.Ordering.{nat_cmp}
use Rattle.std.specs.Str.{bytes_eq}
use Rattle.json_lines.specs.Kinds.{TextEntry}
use Rattle.op_types.specs.declared.statement.Property.{Property}
use Rattle.table_rules.specs.Properties.{entry_of}

-- which form new checkpoints have
unfoldable pub policy_key : List ℕ
policy_key = codes "delta.checkpointPolicy"

-- checkpoints of version 2 (PROTOCOL.md, "V2 Spec Checkpoints")
unfoldable pub policy_value : List ℕ
policy_value = codes "v2"

-- the values by their keys, in byte order of these: each property of the statement among those behind it, and the policy
unfoldable pub values_by_key : List Property → List (List ℕ × List ℕ)
values_by_key [] = (policy_key, policy_value) ∷ []
values_by_key (p ∷ ps) = insert_entry (slice_cmp nat_cmp) (values_by_key ps) p.key p.value

-- a key with its value
abbrev pub entry_in : List ℕ × List ℕ → TextEntry
entry_in e = record { name = e.0; value = e.1 }

-- the properties of a table that a statement with these properties makes
unfoldable pub made_properties : List Property → List TextEntry
made_properties ps = map entry_in (values_by_key ps)

-- the value that a statement gives a key: that of its first property with this key, else of the policy
abbrev pub value_for : List ℕ → List Property → Option (List ℕ)
value_for key [] = if bytes_eq policy_key key then Some policy_value else None
value_for key (p ∷ ps) = if bytes_eq p.key key then Some p.value else value_for key ps

-- the value that a table has for a key
abbrev pub value_at : List ℕ → List TextEntry → Option (List ℕ)
value_at key entries = option_map (λ e. e.value) (entry_of key entries)
