use Rattle.line_texts.proofs.Laws.{columns_read_back, path_reads_back, rows_read_back, columns_are_written, path_is_written, rows_are_written}
use Rattle.line_texts.proofs.texts_read_back.Goals as goal

pub returns : goal.returns
returns c = record {
  columns_back = columns_read_back;
  path_back = path_reads_back;
  rows_back = rows_read_back;
  columns_written = columns_are_written;
  path_written = path_is_written;
  rows_written = rows_are_written;
}
