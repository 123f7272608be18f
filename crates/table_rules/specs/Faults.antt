-- What a call answered, beside what isn't supported.
use Rattle.std.specs.Prelude.{◌≡◌, Result, Ok, Err}
use Rattle.log_actions.specs.declared.fault.Feature.{Feature}
use Rattle.table_rules.specs.declared.fault.FeatureFault.{FeatureFault}
use Rattle.table_rules.specs.declared.fault.FeatureFault.TheVariants as faults

-- the feature is the one that isn't supported. Want of memory may always come
abbrev pub FaultOf : {A : Type 0} → FeatureFault → Result A Feature → Type 0
FaultOf (faults.Unsupported feature) r = r ≡ Err feature
FaultOf faults.NoMemory r = Unit {0}

-- what a call answered is what there is, or what isn't supported
abbrev pub Judges : {A : Type 0} → Result A FeatureFault → Result A Feature → Type 0
Judges (Ok x) r = r ≡ Ok x
Judges (Err f) r = FaultOf f r
