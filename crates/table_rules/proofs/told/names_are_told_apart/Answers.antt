use Rattle.table_rules.proofs.Names.{commits_differ, commit_is_read, checkpoint_is_read, only_commit_is_read, only_checkpoint_is_read, commit_is_in_log, data_is_outside, data_is_no_commit, data_differ, data_is_graphic}
use Rattle.table_rules.proofs.Paths.{data_is_path}
use Rattle.table_rules.proofs.told.names_are_told_apart.Goals as goal

pub returns : goal.returns
returns c = record {
  commits_differ = commits_differ;
  commit_is_read = commit_is_read;
  checkpoint_is_read = checkpoint_is_read;
  only_commit_is_read = only_commit_is_read;
  only_checkpoint_is_read = only_checkpoint_is_read;
  commit_is_in_log = commit_is_in_log;
  data_is_outside = data_is_outside;
  data_is_no_commit = data_is_no_commit;
  data_differ = data_differ;
  data_is_graphic = data_is_graphic;
  data_is_path = data_is_path;
}
