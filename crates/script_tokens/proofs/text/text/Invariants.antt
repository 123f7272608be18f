use Rattle.std.proofs.Common.{◌≡◌, length}
use Rattle.script_tokens.specs.Quoted.{body, plain}
use Rattle.script_tokens.proofs.Texts.{with_front}
use Rattle.script_tokens.proofs.text.text.Given as goal

abbrev pub invariant-loop-text : goal.invariant-loop-text
invariant-loop-text l = with_front l.text.items (body plain l.rest) ≡ body plain l.bytes

abbrev pub decreases-loop-text : goal.decreases-loop-text
decreases-loop-text l = length l.rest
