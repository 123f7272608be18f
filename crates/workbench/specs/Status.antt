-- The exit status of a failure.
use Rattle.std.specs.Prelude.{ℕ}
use Rattle.workbench.specs.declared.failed.Failed.{Failed}
use Rattle.workbench.specs.declared.failed.Failed.TheVariants.{Words, Kernel, Rows, File, Print}

-- 2 for words that aren't accepted, else 1
abbrev pub status_of : Failed → ℕ
status_of (Words fault) = 2
status_of (Kernel fault) = 1
status_of (Rows fault) = 1
status_of (File fault) = 1
status_of (Print fault) = 1
