use Rattle.std.proofs.Common.{refl, arith}
use Rattle.std.proofs.lemmas.List.{take_all}
use Rattle.thrift_compact.proofs.VarintLemmas.{varint_next, varint_end, kept_on}
use Rattle.thrift_compact.proofs.appender.push_varint.Goals as goal

pub loop-rest-init : goal.loop-rest-init
loop-rest-init c = record { whole = (10, omega arith, omega arith, refl); kept = take_all _ c.args.out.now.items (omega arith) }

pub loop-rest-preserved : goal.loop-rest-preserved
loop-rest-preserved c =
    let before = c.loop-rest.invariant.whole in
    record {
      whole = varint_next before.0 c.loop-rest.rest c.loop-rest.out.items c.push_byte.new.out.items _ c.loop-rest-test.true before.2 c.in_ok-push_byte.ensures.ok before.3;
      kept = kept_on c.args.out.now.items c.loop-rest.out.items c.push_byte.new.out.items c.loop-rest.invariant.kept c.push_byte.ensures.kept;
    }

pub returns-clause-ok : goal.returns-clause-ok
returns-clause-ok c =
    let before = c.loop-rest.invariant.whole in
    varint_end before.0 c.loop-rest.rest c.loop-rest.out.items c.push_byte-2.new.out.items _ before.1 c.loop-rest-test.false c.in_ok-push_byte-2.ensures.ok before.3
