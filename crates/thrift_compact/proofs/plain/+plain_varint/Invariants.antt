use Rattle.thrift_compact.proofs.plain.+plain_varint.Given as goal

abbrev pub decreases-plain_varint : goal.decreases-plain_varint
decreases-plain_varint l = l.most
