use Rattle.std.proofs.Common.{◌≡◌, ℕ, ◌<◌, ◌+◌, drop, length}
use Rattle.snapshot_load.specs.Listing.{is_listed}
use Rattle.snapshot_load.specs.Marks.{marked_or_listed}
use Rattle.snapshot_load.proofs.listing.marks_of.Given as goal

abbrev pub invariant-loop-listed : goal.invariant-loop-listed
invariant-loop-listed l = record {
  same : length l.marks.items ≡ l.count;
  marked : (k : ℕ) → k < l.count → marked_or_listed l.first l.marks.items (drop l.listed-index l.listing) k ≡ is_listed (l.first + k) l.listing;
}
