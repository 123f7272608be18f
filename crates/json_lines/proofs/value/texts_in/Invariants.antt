-- The texts that were read, before those of the rest, are those of the whole.
use Rattle.std.proofs.Common.{◌≡◌, ◌++◌, drop, option_map}
use Rattle.serde_json.specs.View.{items_view}
use Rattle.json_lines.specs.Kinds.{texts_in}
use Rattle.json_lines.proofs.value.texts_in.Given as goal

abbrev pub invariant-loop-value : goal.invariant-loop-value
invariant-loop-value l = option_map (λ ts. l.texts.items ++ ts) (texts_in (items_view (drop l.value-index l.items))) ≡ texts_in (items_view l.items)
