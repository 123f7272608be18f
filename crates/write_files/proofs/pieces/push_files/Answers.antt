use Rattle.std.proofs.Common.{◌∙◌, sym, refl}
use Rattle.write_files.specs.Pieces.{has_room}
use Rattle.write_files.proofs.Lengths.{files_end}
use Rattle.write_files.proofs.pieces.push_files.Goals as goal

pub returns : goal.returns
returns c = sym (files_end has_room c.args.group.now (λ l. l) c.loop-at.at c.loop-at.pieces.items c.loop-at-test.false refl) ∙ c.loop-at.invariant.files
