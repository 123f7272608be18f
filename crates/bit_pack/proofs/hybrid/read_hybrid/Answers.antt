use Rattle.std.proofs.Common.{◌<◌, length, arith}
use Rattle.bit_pack.proofs.PieceLemmas.{read_none, read_more}
use Rattle.bit_pack.proofs.hybrid.read_hybrid.Goals as goal

pub loop-rest-init : goal.loop-rest-init
loop-rest-init c = read_none c.args.width c.args.bytes.now c.args.count c.new-values.result.items c.new-values.ensures.items

pub loop-rest-preserved : goal.loop-rest-preserved
loop-rest-preserved c =
    let missing : length c.loop-rest.values.items < c.args.count = omega (arith, c.loop-rest.values.ok, c.len.ensures, c.loop-rest-test.true) in
    read_more c.args.width c.args.bytes.now c.args.count c.loop-rest.rest.now c.loop-rest.values.items c.read_piece.new.values.items c.in_ok-rest.rest.now
    missing c.loop-rest.invariant c.in_ok-rest.ensures.ok
