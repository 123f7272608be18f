use Rattle.std.proofs.Common.{◌∙◌, ap, sym, Some, None}
use Rattle.std.proofs.lemmas.Bool.{cond-true, cond-false, false_from_ne_true}
use Rattle.std.proofs.lemmas.Str.{is_utf8-from_IsUtf8, IsUtf8-from_is_utf8}
use Rattle.std.specs.Str.{is_utf8}
use Rattle.line_texts.proofs.read.utf8_of.Goals as goal

pub returns-in-Ok : goal.returns-in-Ok
returns-in-Ok c = ap Some c.in-Ok.ensures.cases.0 ∙ sym (cond-true (is_utf8 c.args.piece.now) (Some c.args.piece.now) None (is_utf8-from_IsUtf8 c.args.piece.now c.in-Ok.ensures.cases.1))

pub returns-in-Err : goal.returns-in-Err
returns-in-Err c = sym (cond-false (is_utf8 c.args.piece.now) (Some c.args.piece.now) None (false_from_ne_true (is_utf8 c.args.piece.now) (λ h. c.in-Err.ensures.cases.0 (IsUtf8-from_is_utf8 c.args.piece.now h))))
