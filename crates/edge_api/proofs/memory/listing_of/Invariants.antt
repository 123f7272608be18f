use Rattle.std.proofs.Common.{◌≡◌, ◌++◌}
use Rattle.edge_api.specs.Journal.{listing}
use Rattle.edge_api.proofs.Objects.{StandsFrom}
use Rattle.edge_api.proofs.memory.listing_of.Given as goal

abbrev pub invariant-loop-name : goal.invariant-loop-name
invariant-loop-name l = record {
  listed : l.items.items ++ listing l.name-iterator l.prefix ≡ listing l.objects.entries l.prefix;
  rest : StandsFrom l.prefix l.name-iterator;
}
