use Rattle.std.proofs.Common.{arith}
use Rattle.edge_api.proofs.Streams.{wrote_more}
use Rattle.edge_api.proofs.stream.write_all.Goals as goal

pub loop-at-preserved : goal.loop-at-preserved
loop-at-preserved g c =
    let w = g.K.Sink.written in
    record {
      within = omega (arith, c.in_ok-at.ensures.bound);
      written = wrote_more (w c.args.sink.now) (w c.loop-at.sink) (w c.write_some.new.self) c.args.bytes.now c.loop-at.at c.in_ok-at.field-0 c.loop-at.invariant.written c.in_ok-at.ensures.bytes;
      later = omega (arith, c.loop-at.invariant.later, c.write_some.ensures.later);
    }
