-- What is written, before the text of the sessions that are left, is the whole.
use Rattle.std.proofs.Common.{◌≡◌, ◌++◌, drop}
use Rattle.reply_texts.specs.Replies.{sessions_text}
use Rattle.reply_texts.proofs.reply.push_sessions.Given as goal

abbrev pub invariant-loop-name : goal.invariant-loop-name
invariant-loop-name l = l.out ++ sessions_text (drop l.name-index l.names) l.rest ≡ l.initial.out ++ sessions_text l.names l.initial.rest
