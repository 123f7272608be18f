use Rattle.std.proofs.Common.{◌≡◌, map, drop}
use Rattle.row_base.specs.RowOrder.{row_cmp}
use Rattle.write_files.specs.Order.{datum_at, values_of}
use Rattle.write_files.proofs.order.cmp_values.Given as goal

-- the values of the columns that are left compare as all do
abbrev pub invariant-loop-place : goal.invariant-loop-place
invariant-loop-place l =
    row_cmp (map (datum_at l.a) (drop l.place-index l.schema.partition)) (map (datum_at l.b) (drop l.place-index l.schema.partition))
    ≡ row_cmp (values_of l.schema l.a) (values_of l.schema l.b)
