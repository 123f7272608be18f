use Rattle.thrift_compact.proofs.WritingLaws.{numbers_read_back, binaries_read_back, lists_read_back, fields_read_back, stops_read_back}
use Rattle.thrift_compact.proofs.laws.written_is_read.Goals as goal

pub returns : goal.returns
returns c = record {
  numbers = numbers_read_back;
  binaries = binaries_read_back;
  lists = lists_read_back;
  fields = fields_read_back;
  stops = stops_read_back;
}
