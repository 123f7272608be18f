use Rattle.std.proofs.Common.{ap, arith, length}
use Rattle.write_files.proofs.Files.{can_be_written, files_length, adds_length}
use Rattle.write_files.proofs.write.WriteOut.new.Goals as goal

pub make-requires : goal.make-requires
make-requires c = can_be_written c.args.schema.now c.args.rows c.in_ok-pieces.pieces.items c.in_ok-pieces.ensures c.requires.fits c.requires.texts

pub returns-clause-most : goal.returns-clause-most
returns-clause-most c =
    omega (arith, c.new.ensures.most, ap length c.in_ok-files.ensures.files, files_length c.args.schema.now c.args.tag c.args.start c.args.first c.in_ok-pieces.pieces.items, ap length c.in_ok-pieces.ensures)

pub returns-clause-few : goal.returns-clause-few
returns-clause-few c =
    omega (arith, c.in_ok-files.ensures.few, ap length c.in_ok-files.ensures.adds, adds_length c.args.schema.now c.args.tag c.args.start c.args.change c.args.first c.in_ok-pieces.pieces.items, ap length c.in_ok-pieces.ensures)
