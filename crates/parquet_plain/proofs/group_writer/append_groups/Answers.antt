use Rattle.std.proofs.Common.{◌++◌, ◌∷◌, [], ap, sym, ◌∙◌, length, subst}
use Rattle.std.specs.List.{All}
use Rattle.std.proofs.lemmas.List.Elements.{All-take, All-drop}
use Rattle.row_base.specs.Schema.{FitsSchema}
use Rattle.parquet_plain.specs.Written.{group_rows_most}
use Rattle.parquet_plain.proofs.Parts.{some_left, none_left}
use Rattle.parquet_plain.proofs.WriterLemmas.{groups_step, groups_done, entries_step, entries_done}
use Rattle.parquet_plain.proofs.group_writer.append_groups.Goals as goal

pub append_group-requires-clause-fits : goal.append_group-requires-clause-fits
append_group-requires-clause-fits c =
    subst (All (FitsSchema c.args.schema.now)) (sym c.next_group-group.ensures.group)
    (All-take (FitsSchema c.args.schema.now) group_rows_most c.loop-rest.rest c.loop-rest.invariant.fits)

pub loop-rest-preserved : goal.loop-rest-preserved
loop-rest-preserved c = record {
  text =
      groups_step c.args.schema.now c.loop-rest.out.items c.append_group.new.out.items c.loop-rest.rest c.next_group-group.result.0 c.next_group-group.result.1
      c.next_group-group.ensures.group c.next_group-group.ensures.later
      (some_left c.is_empty.result c.loop-rest.rest c.is_empty.ensures c.loop-rest-test.true) c.in_ok-append_group.ensures.text
      ∙ c.loop-rest.invariant.text;
  entries =
      entries_step c.args.schema.now c.loop-rest.groups.items c.push.new.self.items c.loop-rest.out.items c.append_group.new.out.items c.loop-rest.rest c.next_group-group.result.0 c.next_group-group.result.1
      c.next_group-group.ensures.group c.next_group-group.ensures.later
      (some_left c.is_empty.result c.loop-rest.rest c.is_empty.ensures c.loop-rest-test.true) c.in_ok-append_group.ensures.text
      (c.in_ok-push.ensures.items ∙ ap (λ g. c.loop-rest.groups.items ++ g ∷ []) c.in_ok-append_group.ensures.entry)
      ∙ c.loop-rest.invariant.entries;
  fits = subst (All (FitsSchema c.args.schema.now)) (sym c.next_group-group.ensures.later)
      (All-drop (FitsSchema c.args.schema.now) group_rows_most c.loop-rest.rest c.loop-rest.invariant.fits);
}

pub returns : goal.returns
returns c =
    let none = none_left c.is_empty.result c.loop-rest.rest c.is_empty.ensures c.loop-rest-test.false in
    record {
      text = groups_done c.args.schema.now c.loop-rest.rest c.loop-rest.out.items none ∙ c.loop-rest.invariant.text;
      entries = entries_done c.args.schema.now c.loop-rest.rest c.loop-rest.groups.items (length c.loop-rest.out.items) none ∙ c.loop-rest.invariant.entries;
    }
