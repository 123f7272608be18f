use Rattle.std.proofs.Common.{rules, sym, ◌∙◌, ap, arith, ◌-◌, ◌+◌}
use Rattle.row_base.specs.Faults.{◌>>=◌}
use Rattle.parquet_plain.specs.Reading.{with_pages}
use Rattle.parquet_plain.proofs.PageLemmas.{pages_end, pages_out, pages_next}
use Rattle.parquet_plain.proofs.pages.with_pages.Goals as goal
use Rattle.parquet_plain.proofs.pages.with_pages.Goals.{else-loop-byte-test, then-loop-byte-test+then-span-walk}

pub loop-byte-preserved : goal.loop-byte-preserved
loop-byte-preserved c =
    sym (ap (λ r. r >>= with_pages c.args.leaf.now c.args.rows c.args.span c.args.file.now (c.args.span.ends - (c.loop-byte._byte + 1))) c.in_ok-walk.ensures)
    ∙ sym (pages_next c.args.leaf.now c.args.rows c.args.span c.args.file.now c.loop-byte._byte c.args.span.ends c.loop-byte.walk (omega arith) (omega arith))
    ∙ c.loop-byte.invariant

pub returns-in_err-walk : goal.returns-in_err-walk
returns-in_err-walk c =
    let e = sym c.loop-byte.invariant
    ∙ pages_next c.args.leaf.now c.args.rows c.args.span c.args.file.now c.loop-byte._byte c.args.span.ends c.loop-byte.walk (omega arith) (omega arith) in
    rw e (search rules)

pub returns : goal.returns
returns c =
    elim c.loop-byte-test.branch [
      | else-loop-byte-test w ↦ sym c.loop-byte.invariant ∙ pages_out c.args.leaf.now c.args.rows c.args.span c.args.file.now c.loop-byte._byte c.args.span.ends c.loop-byte.walk (omega arith)
      | then-loop-byte-test+then-span-walk w ↦ sym c.loop-byte.invariant ∙ pages_end c.args.leaf.now c.args.rows c.args.span c.args.file.now (c.args.span.ends - c.loop-byte._byte) c.loop-byte.walk (omega arith)
    ]
