use Rattle.std.proofs.Common.{List, ℕ, ◌++◌, ◌∙◌, ap}
use Rattle.bit_pack.specs.Hybrid.{hybrid_of}
use Rattle.bit_pack.proofs.WriteLemmas.{hybrid_reads}
use Rattle.bit_pack.proofs.hybrid.write_hybrid.Goals as goal

pub returns-clause-reads : goal.returns-clause-reads
returns-clause-reads c =
    let limits = c.in_ok-check_values.ensures.limits in
    hybrid_reads c.args.width c.args.values.now c.append_hybrid.new.out.items limits.0 limits.1 c.in_ok-check_values.ensures.fit
    (c.in_ok-append_hybrid.ensures ∙ ap (λ (bs : List ℕ). bs ++ hybrid_of c.args.width c.args.values.now) c.new-bytes.ensures.items)
