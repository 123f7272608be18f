use Rattle.std.proofs.Common.{rules, ◌∙◌, sym, arith, List}
use Rattle.std.specs.Borrow.{Bor}
use Rattle.row_base.specs.declared.row.Datum.{Datum}
use Rattle.write_files.specs.Pieces.{has_room}
use Rattle.write_files.proofs.Cuts as cuts
use Rattle.write_files.proofs.Lengths.{file_alone, file_more, file_stop, first_size}
use Rattle.write_files.proofs.pieces.file_len.Goals as goal

pub returns-in_default-clause-cut : goal.returns-in_default-clause-cut
returns-in_default-clause-cut c = file_alone c.args.rows.now c.index-rows-0.result c.requires c.index-rows-0.is (search rules)

pub loop-count-init : goal.loop-count-init
loop-count-init c = record {
  some = omega arith;
  few = omega (arith, c.requires);
  room = first_size c.args.rows.now c.index-rows-0.result c.in-Some.room c.requires c.index-rows-0.is (sym c.in-Some.ensures);
  cut = cuts.begins (λ (r : Bor (List Datum)). r.now) has_room c.args.rows.now c.requires;
}

pub returns-in_default-room_behind-clause-cut : goal.returns-in_default-room_behind-clause-cut
returns-in_default-room_behind-clause-cut c =
    let i = c.loop-count.invariant in
    sym i.cut ∙ file_stop c.args.rows.now c.loop-count.count c.loop-count.room c.index-rows-count.result i.some c.loop-count-test.true c.index-rows-count.is i.room (search rules)

pub loop-count-preserved : goal.loop-count-preserved
loop-count-preserved c =
    let i = c.loop-count.invariant in
    let more = file_more c.args.rows.now c.loop-count.count c.loop-count.room c.index-rows-count.result i.some c.loop-count-test.true c.index-rows-count.is i.room c.in-Some-room_behind.left (sym c.in-Some-room_behind.ensures) in
    record {
      some = omega arith;
      few = omega (arith, c.loop-count-test.true);
      room = more.0;
      cut = more.1 ∙ i.cut;
    }

pub returns-clause-cut : goal.returns-clause-cut
returns-clause-cut c =
    sym c.loop-count.invariant.cut
    ∙ cuts.ends (λ (r : Bor (List Datum)). r.now) has_room c.args.rows.now c.loop-count.count c.loop-count-test.false
