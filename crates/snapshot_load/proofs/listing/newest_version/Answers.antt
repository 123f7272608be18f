use Rattle.std.proofs.Common.{rules, ◌+◌, drop}
use Rattle.std.proofs.lemmas.List.{at_drop_more}
use Rattle.snapshot_load.specs.Listing.{newest}
use Rattle.snapshot_load.proofs.Versions.{later_assoc}
use Rattle.snapshot_load.proofs.listing.newest_version.Goals as goal

pub loop-listed-preserved : goal.loop-listed-preserved
loop-listed-preserved c =
    let xs = c.args.listing.now in
    let n = c.loop-listed.listed-index in
    let step = at_drop_more newest xs n c.listed-item.result c.loop-listed-test.true in
    let swap = later_assoc c.loop-listed.found c.commit_version.result (newest (drop (n + 1) xs)) in
    search rules
