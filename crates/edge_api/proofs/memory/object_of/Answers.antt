use Rattle.std.proofs.Common.{◌∙◌}
use Rattle.edge_api.proofs.Objects.{lookup-object_at}
use Rattle.edge_api.proofs.memory.object_of.Goals as goal

pub returns : goal.returns
returns c = c.get.ensures.value ∙ lookup-object_at c.args.objects.now.entries c.args.name.now
