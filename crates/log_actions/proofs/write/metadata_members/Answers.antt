use Rattle.std.proofs.Common.{refl}
use Rattle.log_actions.specs.Written.{members_of}
use Rattle.log_actions.proofs.write.metadata_members.Goals as goal

pub returns : goal.returns
unfolding members_of
returns c =
    rw (
      c.in_ok-put_member-4.ensures,
      c.in_ok-put_member-3.ensures,
      c.in_ok-put_optional-4.ensures,
      c.in_ok-put_member-2.ensures,
      c.in_ok-put_member.ensures,
      c.in_ok-put_optional-3.ensures,
      c.in_ok-put_optional-2.ensures,
      c.in_ok-put_optional.ensures,
      c.new-members.ensures.empty,
    )
    refl
