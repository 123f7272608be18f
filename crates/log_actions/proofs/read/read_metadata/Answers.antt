use Rattle.std.proofs.Common.{refl}
use Rattle.log_actions.specs.Actions.{metadata_of}
use Rattle.log_actions.proofs.read.read_metadata.Goals as goal

pub returns : goal.returns
unfolding metadata_of
returns c =
    rw (
      c.in_ok-created_time.ensures,
      c.in_ok-id.ensures,
      c.in_ok-name.ensures,
      c.in_ok-description.ensures,
      c.in_ok-format.ensures,
      c.in_ok-schema_string.ensures,
      c.in_ok-partition_columns.ensures,
      c.in_ok-configuration.ensures,
    )
    refl
