-- The bytes that are left decide.
use Rattle.std.proofs.Common.{◌≡◌, drop}
use Rattle.log_actions.specs.Paths.{ends_scheme}
use Rattle.log_actions.proofs.path.ends_scheme.Given as goal

abbrev pub invariant-loop-byte : goal.invariant-loop-byte
invariant-loop-byte l = ends_scheme (drop l.byte-index l.bytes) ≡ ends_scheme l.bytes
