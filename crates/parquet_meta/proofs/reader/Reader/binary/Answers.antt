use Rattle.thrift_compact.specs.Values.{binary_at}
use Rattle.parquet_meta.specs.Values.{binary_in}
use Rattle.parquet_meta.proofs.Bounds.{binary_stays}
use Rattle.parquet_meta.proofs.Moved.{fault_fits, place_fits, moved, binary_goes}
use Rattle.parquet_meta.proofs.reader.Reader.binary.Goals as goal

pub locate-requires : goal.locate-requires
locate-requires c = fault_fits (λ bytes. bytes.now) c.self.inside.cursor c.binary-read.new.self c.self.inside.start c.binary-read.result
    (binary_at c.self.inside.cursor.bytes c.self.inside.cursor.at)
    c.self.invariant.1 c.binary-read.ensures (binary_stays c.self.inside.cursor.bytes c.self.inside.cursor.at c.self.invariant.0)

pub invariant_of-self : goal.invariant_of-self
invariant_of-self c = place_fits (λ bytes. bytes.now) c.self.inside.cursor c.binary-read.new.self c.self.inside.start c.binary-read.result
    (binary_at c.self.inside.cursor.bytes c.self.inside.cursor.at)
    c.self.invariant.0 c.self.invariant.1 c.binary-read.ensures (binary_stays c.self.inside.cursor.bytes c.self.inside.cursor.at c.self.invariant.0)

pub returns : goal.returns
unfolding binary_in
returns c = rw (c.locate.ensures, ← c.self.view_is)
    (moved (λ bytes. bytes.now) c.self.inside.cursor c.binary-read.new.self c.self.inside.start c.binary-read.result
    (binary_at c.self.inside.cursor.bytes c.self.inside.cursor.at)
    c.binary-read.ensures (binary_stays c.self.inside.cursor.bytes c.self.inside.cursor.at c.self.invariant.0) (binary_goes c.self.inside.cursor.bytes c.self.inside.cursor.at c.self.invariant.0))
