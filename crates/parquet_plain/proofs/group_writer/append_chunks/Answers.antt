use Rattle.std.proofs.Common.{List, length, get_or, sym, subst, ap, ◌∙◌, arith}
use Rattle.std.specs.List.{All}
use Rattle.parquet_pages.specs.Written.{CanStand}
use Rattle.row_base.specs.declared.row.Datum.{Datum}
use Rattle.parquet_plain.specs.Written.{column_values}
use Rattle.parquet_plain.proofs.Standing.{column_stands}
use Rattle.parquet_plain.proofs.group_writer.append_chunks.Goals as goal

pub append_chunk-requires-clause-stand : goal.append_chunk-requires-clause-stand
append_chunk-requires-clause-stand c =
    subst (All (CanStand c.column-item.result.kind c.column-item.result.nullable)) (sym (c.deref.ensures.value ∙ c.in_ok-values.ensures ∙ ap (λ (rs : List (List Datum)). column_values c.loop-i.i rs) c.again.ensures))
    (column_stands c.args.schema.now c.loop-i.i c.column-item.result c.args.rows.now
    (omega (arith, ap length c.columns-column-items.ensures.value))
    (c.column-item.is ∙ ap (λ cs. get_or cs c.loop-i.i c.column-item.result) c.columns-column-items.ensures.value)
    c.requires.fits)
