-- Digits are UTF-8.
use Rattle.std.proofs.Common.{sym, subst, IsUtf8}
use Rattle.table_rules.proofs.Numerals.{utf8-padded, ok_from_utf8}
use Rattle.table_rules.proofs.log.version_name.Goals as goal

pub unwrap-requires : goal.unwrap-requires
unwrap-requires c = ok_from_utf8 c.from_utf8.result _ _ c.from_utf8.ensures.cases (λ e h. h.0 (subst IsUtf8 (sym c.padded_digits-digits.ensures) (utf8-padded 20 c.args.version)))
