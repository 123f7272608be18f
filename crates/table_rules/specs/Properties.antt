-- The rules that a table's properties set (Delta Lake, "Table properties reference").
use Rattle.std.specs.Prelude.{◌≡◌, ◌≢◌, ℕ, ◌&&◌, Bool, true, false, is_some, IsSomeAnd, if◌then◌else◌, nat_lt, nat_le, List, [], Option, Some, None, option_and_then, unwrap_or, Result, Ok, Err, codes}
use Rattle.std.specs.List.{find}
use Rattle.std.specs.Str.{bytes_eq}
use Rattle.std.specs.Ordering.{nat_cmp}
use Rattle.std.specs.Cmp.Lexicographic.{slice_cmp}
use Rattle.std.specs.declared.cmp.Ordering.TheVariants.{Greater}
use Rattle.json_lines.specs.Kinds.{TextEntry}
use Rattle.log_actions.specs.declared.action.MetaData.{MetaData}
use Rattle.log_actions.specs.declared.fault.Feature.{Feature}
use Rattle.log_actions.specs.declared.fault.Feature.TheVariants as feature
use Rattle.row_base.specs.Numbers.{decimal_in}
use Rattle.row_base.specs.Faults.{◌>>=◌}
use Rattle.table_rules.specs.declared.rules.TheConstants.{MAX_CHECKPOINT_INTERVAL, DEFAULT_RETENTION, DEFAULT_LOG_RETENTION}
use Rattle.table_rules.specs.Intervals.{interval_in}
use Rattle.table_rules.specs.declared.fault.FeatureFault.{FeatureFault}
use Rattle.table_rules.specs.declared.fault.FeatureFault.TheVariants as faults
use Rattle.table_rules.specs.declared.rules.Level.{Level}
use Rattle.table_rules.specs.declared.rules.Level.TheVariants.{Serializable, WriteSerializable}
use Rattle.table_rules.specs.declared.rules.Rules.{Rules}

-- the level that a text names
abbrev pub level_in : List ℕ → Option Level
level_in text = if bytes_eq text (codes "Serializable") then Some Serializable else (if bytes_eq text (codes "WriteSerializable") then Some WriteSerializable else None)

-- a number of commits from 1 to MAX_CHECKPOINT_INTERVAL
abbrev pub if_checkpoint_interval : ℕ → Option ℕ
if_checkpoint_interval number = if nat_lt 0 number && nat_le number MAX_CHECKPOINT_INTERVAL then Some number else None

-- from 1 to MAX_CHECKPOINT_INTERVAL commits
abbrev pub checkpoint_interval_in : List ℕ → Option ℕ
checkpoint_interval_in text = option_and_then if_checkpoint_interval (decimal_in text)

-- a table of which only rows are added isn't supported
abbrev pub append_only_in : List ℕ → Option Bool
append_only_in text = if bytes_eq text (codes "false") then Some false else None

-- the property of this key, where it is set
unfoldable pub entry_of : List ℕ → List TextEntry → Option TextEntry
entry_of key configuration = find (λ e. bytes_eq e.name key) configuration

-- the value of the property with this key, or that it is not supported
abbrev pub or_refused : {A : Type 0} → List ℕ → Option A → Result A Feature
or_refused key None = Err (feature.Property key)
or_refused key (Some x) = Ok x

-- what a property says: its default where it isn't set. A text that is none of its values is refused by the key
abbrev pub value_of : {A : Type 0} → (List ℕ → Option A) → A → Option TextEntry → Result A Feature
value_of read default None = Ok default
value_of read default (Some e) = or_refused e.name (read e.value)

-- `delta.isolationLevel`
abbrev pub level_of : List TextEntry → Result Level Feature
level_of configuration = value_of level_in WriteSerializable (entry_of (codes "delta.isolationLevel") configuration)

-- `delta.checkpointInterval`
abbrev pub checkpoint_interval_of : List TextEntry → Result ℕ Feature
checkpoint_interval_of configuration = value_of checkpoint_interval_in 10 (entry_of (codes "delta.checkpointInterval") configuration)

-- `delta.appendOnly`
abbrev pub append_only_of : List TextEntry → Result Bool Feature
append_only_of configuration = value_of append_only_in false (entry_of (codes "delta.appendOnly") configuration)

-- `delta.deletedFileRetentionDuration`
abbrev pub retention_of : List TextEntry → Result ℕ Feature
retention_of configuration = value_of interval_in DEFAULT_RETENTION (entry_of (codes "delta.deletedFileRetentionDuration") configuration)

-- `delta.logRetentionDuration`
abbrev pub log_retention_of : List TextEntry → Result ℕ Feature
log_retention_of configuration = value_of interval_in DEFAULT_LOG_RETENTION (entry_of (codes "delta.logRetentionDuration") configuration)

-- the properties are looked at in byte order of their keys, and the first that is refused is named
abbrev pub rules_in : List TextEntry → Result Rules Feature
rules_in configuration =
    append_only_of configuration >>= λ append_only.
    checkpoint_interval_of configuration >>= λ interval.
    retention_of configuration >>= λ retention.
    level_of configuration >>= λ level.
    log_retention_of configuration >>= λ log_retention.
    Ok (record { level = level; retention = retention; interval = interval; append_only = append_only })

-- a table without a configuration sets no property
abbrev pub configuration_of : MetaData → List TextEntry
configuration_of meta = unwrap_or meta.configuration []

-- the rules of a table
abbrev pub rules_of : MetaData → Result Rules Feature
rules_of meta = rules_in (configuration_of meta)

-- the texts that a property may have; another key's text is not looked at
abbrev pub takes : List ℕ → List ℕ → Bool
takes key text =
    if bytes_eq key (codes "delta.appendOnly") then is_some (append_only_in text)
    else (if bytes_eq key (codes "delta.checkpointInterval") then is_some (checkpoint_interval_in text)
    else (if bytes_eq key (codes "delta.deletedFileRetentionDuration") then is_some (interval_in text)
    else (if bytes_eq key (codes "delta.isolationLevel") then is_some (level_in text)
    else (if bytes_eq key (codes "delta.logRetentionDuration") then is_some (interval_in text) else true))))

-- this property is set to a text that is none of its values
abbrev pub IsBad : List TextEntry → List ℕ → Type 0
IsBad configuration key = IsSomeAnd (entry_of key configuration) (λ e. takes key e.value ≡ false)

-- and of all of these it has the least key in byte order
pub record IsLeastBad (configuration : List TextEntry) (key : List ℕ) : Type 0 where
  pub is_bad : IsBad configuration key
  pub is_least : (other : List ℕ) → IsBad configuration other → slice_cmp nat_cmp key other ≢ Greater

-- a fault names the least bad key
abbrev pub NamesLeast : List TextEntry → FeatureFault → Type 0
NamesLeast configuration (faults.Unsupported f) = (key : List ℕ) × (f ≡ feature.Property key) × IsLeastBad configuration key
NamesLeast configuration faults.NoMemory = Unit {0}
