-- The fault of a text, or want of memory.
use Rattle.std.proofs.Common.{◌≡◌, false}
use Rattle.log_actions.specs.Commit.{IsKind}
use Rattle.log_actions.specs.declared.fault.LogFaultKind.{LogFaultKind}
use Rattle.log_actions.specs.declared.fault.LogFaultKind.TheVariants as kinds
use Rattle.snapshot_load.specs.Readers.{is_memory}

pub not_memory : (k : LogFaultKind) (P : Type 0) → is_memory k ≡ false → IsKind k P → P
not_memory kinds.Json P none h = h
not_memory kinds.Shape P none h = h
not_memory kinds.Twice P none h = h
not_memory (kinds.Unsupported f) P none h = h
not_memory kinds.NoMemory P none h = cc
