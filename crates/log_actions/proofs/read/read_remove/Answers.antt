use Rattle.std.proofs.Common.{refl}
use Rattle.log_actions.specs.Actions.{remove_of}
use Rattle.log_actions.proofs.read.read_remove.Goals as goal

pub returns : goal.returns
unfolding remove_of
returns c =
    rw (
      c.unwrap_or.ensures,
      c.in_ok-path.ensures,
      c.in_ok-name.ensures,
      c.in_ok-deleted.ensures,
      c.in_ok-data_change.ensures,
      c.in_ok-extended_file_metadata.ensures,
      c.in_ok-partition_values.ensures,
      c.in_ok-size.ensures,
      c.in_ok-tags.ensures,
    )
    refl
