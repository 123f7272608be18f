use Rattle.std.proofs.Common.{◌≡◌, ◌≤◌, length}
use Rattle.snapshot_load.specs.Listing.{missing}
use Rattle.snapshot_load.proofs.listing.last_unmarked.Given as goal

abbrev pub invariant-loop-count : goal.invariant-loop-count
invariant-loop-count l = record {
  within : l.count ≤ length l.marks;
  rest : missing l.listing l.first l.count ≡ missing l.listing l.first (length l.marks);
}

abbrev pub decreases-loop-count : goal.decreases-loop-count
decreases-loop-count l = l.count
