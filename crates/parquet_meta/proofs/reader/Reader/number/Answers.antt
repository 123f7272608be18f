use Rattle.thrift_compact.specs.Values.{number_at}
use Rattle.parquet_meta.specs.Values.{number_in}
use Rattle.parquet_meta.proofs.Bounds.{number_stays}
use Rattle.parquet_meta.proofs.Moved.{fault_fits, place_fits, moved, number_goes}
use Rattle.parquet_meta.proofs.reader.Reader.number.Goals as goal

pub locate-requires : goal.locate-requires
locate-requires c = fault_fits (λ n. n) c.self.inside.cursor c.number-read.new.self c.self.inside.start c.number-read.result
    (number_at c.self.inside.cursor.bytes c.self.inside.cursor.at)
    c.self.invariant.1 c.number-read.ensures (number_stays c.self.inside.cursor.bytes c.self.inside.cursor.at c.self.invariant.0)

pub invariant_of-self : goal.invariant_of-self
invariant_of-self c = place_fits (λ n. n) c.self.inside.cursor c.number-read.new.self c.self.inside.start c.number-read.result
    (number_at c.self.inside.cursor.bytes c.self.inside.cursor.at)
    c.self.invariant.0 c.self.invariant.1 c.number-read.ensures (number_stays c.self.inside.cursor.bytes c.self.inside.cursor.at c.self.invariant.0)

pub returns : goal.returns
unfolding number_in
returns c = rw (c.locate.ensures, ← c.self.view_is)
    (moved (λ n. n) c.self.inside.cursor c.number-read.new.self c.self.inside.start c.number-read.result
    (number_at c.self.inside.cursor.bytes c.self.inside.cursor.at)
    c.number-read.ensures (number_stays c.self.inside.cursor.bytes c.self.inside.cursor.at c.self.invariant.0) (number_goes c.self.inside.cursor.bytes c.self.inside.cursor.at c.self.invariant.0))
