use Rattle.thrift_compact.specs.Values.{list_at}
use Rattle.parquet_meta.specs.Values.{head_in}
use Rattle.parquet_meta.proofs.Bounds.{list_stays}
use Rattle.parquet_meta.proofs.Moved.{fault_fits, place_fits, moved, list_goes}
use Rattle.parquet_meta.proofs.reader.Reader.head.Goals as goal

pub locate-requires : goal.locate-requires
locate-requires c = fault_fits (λ head. head) c.self.inside.cursor c.list-read.new.self c.self.inside.start c.list-read.result
    (list_at c.self.inside.cursor.bytes c.self.inside.cursor.at)
    c.self.invariant.1 c.list-read.ensures (list_stays c.self.inside.cursor.bytes c.self.inside.cursor.at c.self.invariant.0)

pub invariant_of-self : goal.invariant_of-self
invariant_of-self c = place_fits (λ head. head) c.self.inside.cursor c.list-read.new.self c.self.inside.start c.list-read.result
    (list_at c.self.inside.cursor.bytes c.self.inside.cursor.at)
    c.self.invariant.0 c.self.invariant.1 c.list-read.ensures (list_stays c.self.inside.cursor.bytes c.self.inside.cursor.at c.self.invariant.0)

pub returns : goal.returns
unfolding head_in
returns c = rw (c.locate.ensures, ← c.self.view_is)
    (moved (λ head. head) c.self.inside.cursor c.list-read.new.self c.self.inside.start c.list-read.result
    (list_at c.self.inside.cursor.bytes c.self.inside.cursor.at)
    c.list-read.ensures (list_stays c.self.inside.cursor.bytes c.self.inside.cursor.at c.self.invariant.0) (list_goes c.self.inside.cursor.bytes c.self.inside.cursor.at))
