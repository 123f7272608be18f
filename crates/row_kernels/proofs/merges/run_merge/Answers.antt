use Rattle.row_kernels.proofs.merges.run_merge.Goals as goal

pub merge_files-requires-clause-rows : goal.merge_files-requires-clause-rows
merge_files-requires-clause-rows c = rw c.in_ok-schema.ensures c.in_ok-files.ensures.wide
