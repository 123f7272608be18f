use Rattle.std.proofs.Common.{◌∙◌, map, take, ap, arith, List, ℕ}
use Rattle.row_base.specs.declared.row.Datum.{Datum}
use Rattle.parquet_pages.specs.Plain.{long_datum}
use Rattle.parquet_pages.proofs.Longs.{longs_there, longs_missing}
use Rattle.parquet_pages.proofs.plain.longs.Goals as goal

pub returns-then-chunks-count : goal.returns-then-chunks-count
returns-then-chunks-count c = longs_missing c.args.count c.args.bytes.now (omega (arith, c.as_chunks.ensures.front_len))

pub returns : goal.returns
returns c =
    let there = longs_there c.args.count c.args.bytes.now (omega (arith, c.as_chunks.ensures.front_len)) in
    let cut = c.split_at.ensures.front ∙ ap (λ (chunks : List (List ℕ)). take c.args.count chunks) c.as_chunks.ensures.front in
    let read = c.in_ok-longs_of.ensures ∙ ap (λ (chunks : List (List ℕ)). map long_datum chunks) cut in
    rw read there
