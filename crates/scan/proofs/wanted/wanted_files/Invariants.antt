-- The files so far, before those that are wanted of the files that are left, are those that are wanted of all.
use Rattle.std.proofs.Common.{◌≡◌, ◌++◌, drop, map}
use Rattle.std.specs.Prelude.{Ok}
use Rattle.row_base.specs.Faults.{◌>>=◌}
use Rattle.scan.specs.Files as spec
use Rattle.scan.proofs.wanted.wanted_files.Given as goal

abbrev pub invariant-loop-file : goal.invariant-loop-file
invariant-loop-file l =
    (spec.wanted_in l.schema l.pred (map (λ f. f.now) (drop l.file-index l.files)) >>= λ more. Ok (l.wanted ++ more))
    ≡ spec.wanted_in l.schema l.pred (map (λ f. f.now) l.files)
