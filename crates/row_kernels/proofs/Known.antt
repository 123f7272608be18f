-- A file without partition columns has facts, unless memory ran out.
use Rattle.std.proofs.Common.{◌≡◌, ℕ, List, [], Option, Some, Result, Ok, Err, refl, sym, ap, ◌∙◌, rules}
use Rattle.std.specs.Prelude.{IfOk, IfErr}
use Rattle.json_lines.specs.Kinds.{NullableEntry}
use Rattle.row_base.specs.Faults.{Reads}
use Rattle.row_base.specs.Schema.{TableSchema}
use Rattle.schema_text.specs.Partition.{partition_row}
use Rattle.prune.specs.declared.column.ColumnFacts.{ColumnFacts}
use Rattle.prune.specs.declared.fault.PartitionFault.{PartitionFault}
use Rattle.prune.specs.declared.fault.PartitionFault.TheVariants as fault
use Rattle.prune.specs.Known.{facts_in, is_memory}
use Rattle.row_kernels.specs.Files.{schema, facts_by}

there : (text : List ℕ) → facts_in schema [] (Some text) ≡ Ok (facts_by text)
unfolding facts_by partition_row
there text = refl

pub facts_found : (s : TableSchema) (values : List NullableEntry) (stats : Option (List ℕ)) (text : List ℕ) (r : Result (List ColumnFacts) PartitionFault)
    → s ≡ schema → values ≡ [] → stats ≡ Some text → Reads is_memory r (facts_in s values stats) → IfOk r (λ f. f ≡ facts_by text)
facts_found s values stats text (Ok f) e v t h = let is : Ok f ≡ Ok (facts_by text) = (sym (rw (e, v, t) at h)) ∙ there text in cc
facts_found s values stats text (Err f) e v t h = tt

pub facts_fail : (s : TableSchema) (values : List NullableEntry) (stats : Option (List ℕ)) (text : List ℕ) (r : Result (List ColumnFacts) PartitionFault)
    → s ≡ schema → values ≡ [] → stats ≡ Some text → Reads is_memory r (facts_in s values stats) → IfErr r (λ f. f ≡ fault.NoMemory)
facts_fail s values stats text (Ok f) e v t h = tt
facts_fail s values stats text (Err fault.NoMemory) e v t h = refl
facts_fail s values stats text (Err (fault.Value name)) e v t h = let is : Ok (facts_by text) ≡ Err (fault.Value name) = sym (there text) ∙ (rw (e, v, t) at h) in cc
