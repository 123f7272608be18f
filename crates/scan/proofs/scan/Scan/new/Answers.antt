use Rattle.std.proofs.Common.{arith, ap, length, map, subst, ◌≡◌, ◌∙◌}
use Rattle.std.specs.Prelude.{Ok}
use Rattle.scan.specs.Files.{wanted_in}
use Rattle.scan.proofs.Ends.{scans}
use Rattle.scan.proofs.Wanting.{few}
use Rattle.scan.proofs.scan.Scan.new.Goals as goal

pub returns-clause-most : goal.returns-clause-most
returns-clause-most c =
    let fewer = few c.args.schema.now c.args.pred.now (λ f. f.now) c.deref.result.now c.in_ok-wanted.wanted c.in_ok-wanted.ensures in
    omega (arith, fewer, c.begin.ensures.most, c.begin.ensures.live, c.len.ensures, c.deref.ensures.len, ap length c.deref.ensures.value)

pub returns-clause-begins : goal.returns-clause-begins
returns-clause-begins c es o h =
    let xs = c.in_ok-files.files.items in
    let count : c.len.result ≡ length xs = omega (arith, c.len.ensures, c.deref.ensures.len, ap length c.deref.ensures.value) in
    let looked = subst (λ l. wanted_in c.args.schema.now c.args.pred.now (map (λ f. f.now) l) ≡ Ok c.in_ok-wanted.wanted) c.deref.ensures.value c.in_ok-wanted.ensures in
    scans (λ f. f.now) c.args.schema.now c.args.pred.now c.args.state.now xs c.in_ok-files.ensures es o c.in_ok-wanted.wanted c.len.result c.in_ok-copy.field-0 c.from_vec.result
    looked count c.in_ok-copy.ensures (c.from_vec.ensures ∙ c.new.ensures.items) (c.begin.ensures.begins es o h)
