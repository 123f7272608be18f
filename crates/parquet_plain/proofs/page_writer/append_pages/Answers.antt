use Rattle.std.proofs.Common.{sym, ◌∙◌, subst}
use Rattle.std.specs.List.{All}
use Rattle.std.proofs.lemmas.List.Elements.{All-take, All-drop}
use Rattle.parquet_pages.specs.Written.{CanStand}
use Rattle.parquet_plain.specs.Written.{page_values_most, AreIn}
use Rattle.parquet_plain.proofs.Parts.{some_left, none_left}
use Rattle.parquet_plain.proofs.WriterLemmas.{pages_step, pages_done, AreIn-take, AreIn-drop, ArePlaces-take, ArePlaces-drop}
use Rattle.parquet_plain.proofs.page_writer.append_pages.Goals as goal

pub append_values-requires-clause-stand : goal.append_values-requires-clause-stand
append_values-requires-clause-stand c =
    subst (All (CanStand c.args.column.now.kind c.args.column.now.nullable)) (sym c.next_page.ensures.page)
    (All-take (CanStand c.args.column.now.kind c.args.column.now.nullable) page_values_most c.loop-rest.rest.now c.loop-rest.invariant.stand)

pub append_values-requires-clause-placed : goal.append_values-requires-clause-placed
append_values-requires-clause-placed c =
    subst (AreIn c.args.dictionary.now c.args.column.now.nullable) (sym c.next_page.ensures.page)
    (AreIn-take c.args.dictionary.now c.args.column.now.nullable page_values_most c.loop-rest.rest.now c.loop-rest.invariant.placed)

pub append_values-requires-clause-places : goal.append_values-requires-clause-places
append_values-requires-clause-places c =
    ArePlaces-take c.args.dictionary.now page_values_most c.loop-rest.rest.now c.next_page.result.0.now c.loop-rest.places.now c.next_places.result.0.now
    c.next_page.ensures.page c.next_places.ensures.page c.loop-rest.invariant.places

pub loop-rest-preserved : goal.loop-rest-preserved
loop-rest-preserved c = record {
  text =
      pages_step c.args.column.now c.args.dictionary.now c.loop-rest.out.items c.append_values.new.out.items c.loop-rest.rest.now c.next_page.result.0.now c.next_page.result.1.now
      c.next_page.ensures.page c.next_page.ensures.later (some_left c.is_empty.result c.loop-rest.rest.now c.is_empty.ensures c.loop-rest-test.true) c.in_ok-append_values.ensures
      ∙ c.loop-rest.invariant.text;
  stand = subst (All (CanStand c.args.column.now.kind c.args.column.now.nullable)) (sym c.next_page.ensures.later)
      (All-drop (CanStand c.args.column.now.kind c.args.column.now.nullable) page_values_most c.loop-rest.rest.now c.loop-rest.invariant.stand);
  placed = subst (AreIn c.args.dictionary.now c.args.column.now.nullable) (sym c.next_page.ensures.later)
      (AreIn-drop c.args.dictionary.now c.args.column.now.nullable page_values_most c.loop-rest.rest.now c.loop-rest.invariant.placed);
  places =
      ArePlaces-drop c.args.dictionary.now page_values_most c.loop-rest.rest.now c.next_page.result.0.now c.next_page.result.1.now c.loop-rest.places.now c.next_places.result.1.now
      c.next_page.ensures.page c.next_page.ensures.later c.next_places.ensures.later c.loop-rest.invariant.places;
}

pub returns : goal.returns
returns c = pages_done c.args.column.now c.args.dictionary.now c.loop-rest.rest.now c.loop-rest.out.items (none_left c.is_empty.result c.loop-rest.rest.now c.is_empty.ensures c.loop-rest-test.false) ∙ c.loop-rest.invariant.text
