use Rattle.std.proofs.Common.{◌∙◌}
use Rattle.parquet_meta.proofs.Texts.{text_good}
use Rattle.parquet_meta.proofs.reader.Reader.text.Goals as goal

pub returns-in_ok-make-in-Ok : goal.returns-in_ok-make-in-Ok
returns-in_ok-make-in-Ok c =
    let came = c.in_ok-bytes.ensures in (
      text_good c.args.self.now.piece c.args.place c.args.self.now.at c.in_ok-bytes.bytes.now c.in_ok-make-in-Ok.field-0 c.binary.new.self.at came.0 c.in-Ok.ensures.cases.1
          (c.in_ok-make-in-Ok.ensures ∙ c.in-Ok.ensures.cases.0),
      came.1,
      came.2,
      came.3,
    )
