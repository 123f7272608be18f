-- The files and adds so far, before those of the rows that are left, are all.
use Rattle.std.proofs.Common.{◌≡◌, ◌+◌, ◌++◌, ◌≤◌, ◌^◌, length}
use Rattle.std.specs.List.{All}
use Rattle.write_files.specs.Files.{CanBeWritten, IsReadable, files_from, adds_from}
use Rattle.write_files.proofs.file.NewFiles.make.Given as goal

pub record Invariant (l : goal.Live-loop-rows) : Type 0 where
  pub files :
      l.files.items ++ files_from l.schema l.origin.tag l.origin.start (l.first + length l.adds.items) l.rows-iterator.rest.items
      ≡ files_from l.schema l.origin.tag l.origin.start l.first l.fn.pieces.items
  pub adds :
      l.adds.items ++ adds_from l.schema l.origin.tag l.origin.start l.origin.change (l.first + length l.adds.items) l.rows-iterator.rest.items
      ≡ adds_from l.schema l.origin.tag l.origin.start l.origin.change l.first l.fn.pieces.items
  pub readable : All IsReadable l.adds.items
  pub few : length l.adds.items ≤ 2 ^ 32
  pub fits : All (CanBeWritten l.schema) l.rows-iterator.rest.items

abbrev pub invariant-loop-rows : goal.invariant-loop-rows
invariant-loop-rows l = Invariant l
