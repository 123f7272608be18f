use Rattle.std.proofs.Common.{map}
use Rattle.scan.specs.Files.{wanted_in}
use Rattle.scan.proofs.Wanting.{goes_on}
use Rattle.scan.proofs.wanted.wanted_files.Goals as goal

pub loop-file-preserved : goal.loop-file-preserved
loop-file-preserved c =
    let l = c.loop-file in
    let xs = c.args.files.now in
    goes_on c.args.schema.now c.args.pred.now (λ f. f.now) xs l.file-index c.file-item.result l.wanted c.push.new.self c.in_ok-if_wanted.field-0
    (wanted_in c.args.schema.now c.args.pred.now (map (λ f. f.now) xs)) c.loop-file-test.true c.file-item.is c.in_ok-if_wanted.ensures c.in_ok-push.ensures l.invariant
