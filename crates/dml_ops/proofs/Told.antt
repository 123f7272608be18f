-- An answer that isn't want of memory is the one that there is.
use Rattle.std.proofs.Common.{◌≡◌, true, false, sym}
use Rattle.std.specs.Prelude.{List, Result, Ok, Err}
use Rattle.row_base.specs.Faults.{Reads}
use Rattle.row_base.specs.declared.row.Datum.{Datum}
use Rattle.dml_ops.specs.declared.fault.ImageFault.{ImageFault}
use Rattle.dml_ops.specs.declared.fault.ImageFault.TheVariants as image
use Rattle.dml_ops.specs.Images.{is_memory}
use Rattle.dml_ops.specs.Outcomes.{is_told}

pub told_is : (r s : Result (List Datum) ImageFault) → Reads is_memory r s → is_told r ≡ true → r ≡ s
told_is (Ok y) s reads told = sym reads
told_is (Err (image.Wrong w)) s reads told = sym reads
told_is (Err image.NoMemory) s reads told = let bad : false ≡ true = told in absurd cc
