-- What is written, before the text of the replies that are left, is the whole.
use Rattle.std.proofs.Common.{◌≡◌, ◌+◌, ◌++◌, drop}
use Rattle.reply_texts.specs.Replies.{session_text}
use Rattle.reply_texts.proofs.reply.push_session.Given as goal

abbrev pub invariant-loop-i : goal.invariant-loop-i
invariant-loop-i l = l.out ++ session_text l.name (l.i + 1) (drop l.i l.replies) ≡ l.initial.out ++ session_text l.name 1 l.replies
