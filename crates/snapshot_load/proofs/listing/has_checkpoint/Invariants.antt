use Rattle.std.proofs.Common.{◌≡◌, drop}
use Rattle.snapshot_load.specs.Listing.{has_checkpoint}
use Rattle.snapshot_load.proofs.listing.has_checkpoint.Given as goal

abbrev pub invariant-loop-listed : goal.invariant-loop-listed
invariant-loop-listed l = has_checkpoint l.version (drop l.listed-index l.listing) ≡ has_checkpoint l.version l.listing
