use Rattle.std.proofs.Common.{◌≡◌, drop}
use Rattle.snapshot_load.specs.Listing.{newest, later}
use Rattle.snapshot_load.proofs.listing.newest_version.Given as goal

abbrev pub invariant-loop-listed : goal.invariant-loop-listed
invariant-loop-listed l = later l.found (newest (drop l.listed-index l.listing)) ≡ newest l.listing
