-- Which protocols are accepted (PROTOCOL.md, "Protocol Evolution" and "Table Features").
use Rattle.std.specs.Prelude.{◌≡◌, ℕ, ◌==◌, ◌&&◌, ◌||◌, not, Bool, if◌then◌else◌, List, Option, Some, None, option_map, Result, Ok, Err, codes}
use Rattle.std.specs.List.{find}
use Rattle.std.specs.Str.{bytes_eq}
use Rattle.log_actions.specs.declared.action.Protocol.{Protocol}
use Rattle.log_actions.specs.declared.fault.Feature.{Feature}
use Rattle.log_actions.specs.declared.fault.Feature.TheVariants as feature
use Rattle.table_rules.specs.declared.fault.FeatureFault.{FeatureFault}
use Rattle.table_rules.specs.declared.fault.FeatureFault.TheVariants as faults

-- the features that are supported
abbrev pub is_supported : List ℕ → Bool
is_supported name = bytes_eq name (codes "v2Checkpoint") || bytes_eq name (codes "appendOnly") || bytes_eq name (codes "invariants")

-- the first of these names that isn't a supported feature's
abbrev pub other_name : List (List ℕ) → Option Feature
other_name names = option_map (λ name. feature.Named name) (find (λ name. not (is_supported name)) names)

-- a list of features that is absent has none
abbrev pub other_feature : Option (List (List ℕ)) → Option Feature
other_feature None = None
other_feature (Some names) = other_name names

-- the first feature, or else the second
abbrev pub or_else : Option Feature → Option Feature → Option Feature
or_else (Some f) next = Some f
or_else None next = next

-- the first other feature that readers need, or else that writers need
abbrev pub other_features : Protocol → Option Feature
other_features p = or_else (other_feature p.reader_features) (other_feature p.writer_features)

-- a protocol has these versions
abbrev pub has_versions : Protocol → ℕ → ℕ → Bool
has_versions p reader writer = (p.min_reader_version == reader) && (p.min_writer_version == writer)

-- what a protocol asks for and isn't supported
abbrev pub unsupported : Protocol → Option Feature
unsupported p =
    if has_versions p 1 1 || has_versions p 1 2 then None
    else (if has_versions p 3 7 then other_features p
    else Some (feature.Protocol p.min_reader_version p.min_writer_version))

-- the answer `Ok` comes where nothing is unsupported, and a feature that is named is the one. Want of memory may always come
abbrev pub Names : FeatureFault → Option Feature → Type 0
Names (faults.Unsupported f) found = found ≡ Some f
Names faults.NoMemory found = Unit {0}

-- a call found what is not supported, or that there is nothing
abbrev pub Finds : {A : Type 0} → Result A FeatureFault → Option Feature → Type 0
Finds (Ok x) found = found ≡ None
Finds (Err f) found = Names f found
