use Rattle.std.proofs.Common.{rules, ◌+◌, drop}
use Rattle.std.proofs.lemmas.List.{at_drop_more}
use Rattle.statement_calls.specs.Listing.{newest}
use Rattle.txn_machine.proofs.Listings.{later_assoc}
use Rattle.txn_machine.proofs.listing.newest_version.Goals as goal

pub loop-listed-preserved : goal.loop-listed-preserved
loop-listed-preserved c =
    let xs = c.args.listing.now in
    let n = c.loop-listed.listed-index in
    let step = at_drop_more newest xs n c.listed-item.result c.loop-listed-test.true in
    let swap = later_assoc c.loop-listed.found c.commit_version.result (newest (drop (n + 1) xs)) in
    search rules
