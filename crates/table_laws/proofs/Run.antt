-- Every legal completion of a run's journal is lawful.
use Rattle.table_laws.specs.Lawful.{EachRunIsLawful}
use Rattle.table_laws.proofs.Ends.{serial_at, folded_at, names_at, once_at, first_at, commits_at, files_at, first_files_at, lands_at, committed_at, read_at, first_is_empty}
use Rattle.table_laws.proofs.Moments.{puts_at_moments}
use Rattle.table_laws.proofs.Created.{created_at}
use Rattle.table_laws.proofs.Views.{listing_at, reads_at, covers_at}
use Rattle.table_laws.proofs.Starts.{starts_at, later_at}
use Rattle.table_laws.proofs.OneSession.{rows_of_session}
use Rattle.table_laws.proofs.Refused.{refused_at}

pub each_run_is_lawful : EachRunIsLawful
each_run_is_lawful limit script outcomes moments legal run = record {
  serial = serial_at limit script outcomes moments legal run;
  folded = folded_at limit script outcomes moments legal run;
  first = first_at limit script outcomes moments legal run;
  empty = first_is_empty moments;
  once = once_at limit script outcomes moments legal run;
  commits = commits_at limit script outcomes moments legal run;
  files = files_at limit script outcomes moments legal run;
  files_first = first_files_at limit script outcomes moments legal run;
  lands = lands_at limit script outcomes moments legal run;
  puts = puts_at_moments limit script outcomes moments legal run;
  newest = listing_at limit script outcomes moments legal run;
  never_falls = reads_at limit script outcomes moments legal run;
  covers = covers_at limit script outcomes moments legal run;
  session = rows_of_session limit script outcomes moments legal run;
  names = names_at limit script outcomes moments legal run;
  starts = starts_at limit script outcomes moments legal run;
  later = later_at limit script outcomes moments legal run;
  created = created_at limit script outcomes moments legal run;
  committed = committed_at limit script outcomes moments legal run;
  read = read_at limit script outcomes moments legal run;
  refused = refused_at limit script outcomes moments legal run;
}
