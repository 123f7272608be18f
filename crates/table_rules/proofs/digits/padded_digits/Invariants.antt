-- The digits that are written are the last ones, and what is left of the number writes those before them.
use Rattle.std.proofs.Common.{◌≡◌, ◌++◌, ◌≤◌, drop, length}
use Rattle.table_rules.specs.Digits.{padded}
use Rattle.table_rules.proofs.digits.padded_digits.Given as goal

abbrev pub invariant-loop-place : goal.invariant-loop-place
invariant-loop-place g l = record { within : l.place ≤ g.row.N; written : padded l.place l.rest ++ drop l.place l.digits ≡ padded g.row.N l.number; long : length l.digits ≡ g.row.N }

abbrev pub decreases-loop-place : goal.decreases-loop-place
decreases-loop-place g l = l.place
