use Rattle.thrift_compact.specs.Skipped.{skipped_at}
use Rattle.parquet_meta.specs.Values.{skipped_in}
use Rattle.parquet_meta.proofs.Bounds.{skipped_stays}
use Rattle.parquet_meta.proofs.Moved.{fault_fits, place_fits, moved, skipped_goes}
use Rattle.parquet_meta.proofs.reader.Reader.skip.Goals as goal

pub locate-requires : goal.locate-requires
locate-requires c = fault_fits (λ nothing. nothing) c.self.inside.cursor c.skip-read.new.self c.self.inside.start c.skip-read.result
    (skipped_at c.self.inside.cursor.bytes c.args.wire c.self.inside.cursor.at)
    c.self.invariant.1 c.skip-read.ensures (skipped_stays c.self.inside.cursor.bytes c.args.wire c.self.inside.cursor.at c.self.invariant.0)

pub invariant_of-self : goal.invariant_of-self
invariant_of-self c = place_fits (λ nothing. nothing) c.self.inside.cursor c.skip-read.new.self c.self.inside.start c.skip-read.result
    (skipped_at c.self.inside.cursor.bytes c.args.wire c.self.inside.cursor.at)
    c.self.invariant.0 c.self.invariant.1 c.skip-read.ensures (skipped_stays c.self.inside.cursor.bytes c.args.wire c.self.inside.cursor.at c.self.invariant.0)

pub returns : goal.returns
unfolding skipped_in
returns c = rw (c.locate.ensures, ← c.self.view_is)
    (moved (λ nothing. nothing) c.self.inside.cursor c.skip-read.new.self c.self.inside.start c.skip-read.result
    (skipped_at c.self.inside.cursor.bytes c.args.wire c.self.inside.cursor.at)
    c.skip-read.ensures (skipped_stays c.self.inside.cursor.bytes c.args.wire c.self.inside.cursor.at c.self.invariant.0) (skipped_goes c.self.inside.cursor.bytes c.args.wire c.self.inside.cursor.at c.self.invariant.0))
