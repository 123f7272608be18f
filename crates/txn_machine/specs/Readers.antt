-- What the readers of commits and of data files stand for.
use Rattle.std.specs.Prelude.{ℕ, suc, List, [], ◌∷◌, Option, Result}
use Rattle.edge_api.specs.declared.call.Listed.{Listed}
use Rattle.op_types.specs.declared.refusal.ObjectFault.{ObjectFault}
use Rattle.call_phases.specs.Views.{result_by}
use Rattle.statement_calls.specs.declared.finish.Kept.{Kept}
use Rattle.statement_calls.specs.Answered.{base_of, kept_after}
use Rattle.snapshot_replay.specs.Table.{Snapshot}
use Rattle.statement_calls.specs.Listing.{missing}
use Rattle.statement_calls.specs.Objects as law
use Rattle.txn_machine.specs.declared.commits.Commits.{Commits}
use Rattle.txn_machine.specs.declared.files.Files.{Files}

abbrev pub commits_of : Commits → law.Commits
commits_of c = record { at = c.at; end = c.end; table = c.table }

-- the same reader at other commits
abbrev pub with_commits : Commits → law.Commits → Commits
with_commits c k = record { alloc = c.alloc; at = k.at; end = k.end; table = k.table }

abbrev pub wanted_commit : Commits → Option (List ℕ)
wanted_commit c = law.next_commit (commits_of c)

abbrev pub commits_left_of : Commits → ℕ
commits_left_of c = law.commits_left (commits_of c)

abbrev pub commits_after : Commits → List ℕ → Result Commits ObjectFault
commits_after c text = result_by (with_commits c) (law.apply_next (commits_of c) text)

abbrev pub files_of : Files → law.Files
files_of f = record { paths = f.paths; got = f.got }

-- the same reader at other files
abbrev pub with_files : Files → law.Files → Files
with_files f k = record { alloc = f.alloc; paths = k.paths; got = k.got }

abbrev pub wanted_file : Files → Option (List ℕ)
wanted_file f = law.next_file (files_of f)

abbrev pub files_left_of : Files → ℕ
files_left_of f = law.files_left (files_of f)

abbrev pub files_after : Files → List ℕ → Result Files ObjectFault
files_after f text = result_by (with_files f) (law.scan_next (files_of f) text)

-- the greatest version that isn't listed, of those that a load of a version gets
abbrev pub missing_for : Option Kept → ℕ → List Listed → Option ℕ
missing_for kept version l = missing l (base_of kept version).commits.at (law.commits_left (base_of kept version).commits)

-- what is kept after a load of a version that left this table
abbrev pub kept_of : Option Kept → ℕ → Snapshot → Kept
kept_of spare version table = kept_after spare (record { versions = suc version; state = table })

-- the paths after the first one
abbrev pub after_first : List (List ℕ) → List (List ℕ)
after_first [] = []
after_first (path ∷ paths) = paths
