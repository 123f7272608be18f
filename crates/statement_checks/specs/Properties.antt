-- The properties that statements set.
use Rattle.std.specs.Prelude.{◌≡◌, ◌==◌, ℕ, ◌&&◌, ◌||◌, not, is_some, Bool, true, List, [], ◌∷◌, Result, Ok, Err, if◌then◌else◌, codes}
use Rattle.std.specs.List.{starts_with}
use Rattle.std.specs.Str.{bytes_eq}
use Rattle.row_base.specs.Faults.{◌>>=◌}
use Rattle.table_rules.specs.Intervals.{interval_in}
use Rattle.table_rules.specs.Properties as rules
use Rattle.table_rules.specs.Properties.{append_only_in, checkpoint_interval_in, level_in}
use Rattle.predicates.specs.declared.fault.BindFault.{BindFault}
use Rattle.predicates.specs.declared.fault.BindFault.TheVariants as fault
use Rattle.op_types.specs.declared.statement.Property.{Property}

-- the values that a property may have; one whose key doesn't begin with `delta.` may have any, and no other key of
-- this beginning is known
abbrev pub takes : List ℕ → List ℕ → Bool
takes key value =
    if bytes_eq key (codes "delta.appendOnly") then is_some (append_only_in value)
    else (if bytes_eq key (codes "delta.checkpointInterval") then is_some (checkpoint_interval_in value)
    else (if bytes_eq key (codes "delta.checkpointPolicy") then bytes_eq value (codes "v2")
    else (if bytes_eq key (codes "delta.deletedFileRetentionDuration") then is_some (interval_in value)
    else (if bytes_eq key (codes "delta.isolationLevel") then is_some (level_in value)
    else (if bytes_eq key (codes "delta.logRetentionDuration") then is_some (interval_in value)
    else not (starts_with ◌==◌ key (codes "delta.")))))))

-- a table to which rows are only added: no fault of the statement, but a feature that isn't supported
abbrev pub is_append_only : List ℕ → List ℕ → Bool
is_append_only key value = bytes_eq key (codes "delta.appendOnly") && bytes_eq value (codes "true")

-- a property of a table that is made
abbrev pub property_in : Property → Result (Unit {0}) BindFault
property_in p = if is_append_only p.key p.value || takes p.key p.value then Ok tt else Err (fault.Property p.key)

unfoldable pub properties_in : List Property → Result (Unit {0}) BindFault
properties_in [] = Ok tt
properties_in (p ∷ ps) = property_in p >>= λ u. properties_in ps

-- a property that stays as it was when the table was made
abbrev pub is_fixed : List ℕ → Bool
is_fixed key =
    bytes_eq key (codes "delta.checkpointPolicy") || bytes_eq key (codes "delta.deletedFileRetentionDuration")
    || bytes_eq key (codes "delta.logRetentionDuration")

-- a property that is set in a table that is there: whether it may be set at all comes first
abbrev pub setting_in : List ℕ → List ℕ → Result (Unit {0}) BindFault
setting_in key value =
    if is_fixed key then Err (fault.Fixed key)
    else (if takes key value then Ok tt else Err (fault.Property key))

-- a value that a statement may set is one that a table is read with
abbrev pub ValuesAreRead : Type 0
ValuesAreRead = (key value : List ℕ) → takes key value ≡ true → rules.takes key value ≡ true
