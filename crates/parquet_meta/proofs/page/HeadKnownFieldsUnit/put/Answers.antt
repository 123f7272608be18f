use Rattle.std.proofs.Common.{◌≡◌, false, rules}
use Rattle.std.specs.Prelude.{pos}
use Rattle.std.specs.Ordering.{int_eq}
use Rattle.parquet_meta.proofs.Loops.{skip_puts}
use Rattle.parquet_meta.proofs.page.HeadKnownFieldsUnit.put.Goals as goal

pub returns-in_default : goal.returns-in_default
returns-in_default c =
    let a : int_eq c.args.header.id (pos 1) ≡ false = search rules in
    let b : int_eq c.args.header.id (pos 2) ≡ false = search rules in
    let d : int_eq c.args.header.id (pos 3) ≡ false = search rules in
    let e : int_eq c.args.header.id (pos 5) ≡ false = search rules in
    let f : int_eq c.args.header.id (pos 7) ≡ false = search rules in
    let h : int_eq c.args.header.id (pos 8) ≡ false = search rules in
    rw (a, b, d, e, f, h)
    (skip_puts c.args.reader.now c.skip-in_default.new.self c.args.self.now c.args.header.wire c.skip-in_default.result c.skip-in_default.ensures)
