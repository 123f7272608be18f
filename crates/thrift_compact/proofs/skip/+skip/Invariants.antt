use Rattle.std.proofs.Common.{◌≡◌, ℕ, ◌+◌, ◌<◌, ◌≤◌, length, false, true, suc, ◌-◌, ◌*◌}
use Rattle.std.specs.Prelude.{pos}
use Rattle.row_base.specs.Faults.{◌>>=◌}
use Rattle.thrift_compact.specs.Skipped.{value_end, each_end, fields_end}
use Rattle.thrift_compact.proofs.skip.+skip.Given as goal

abbrev pub decreases-find_end : goal.decreases-find_end
decreases-find_end l = 4 * l.levels

abbrev pub decreases-find_list_end : goal.decreases-find_list_end
decreases-find_list_end l = 4 * l.levels + 1

abbrev pub decreases-find_map_end : goal.decreases-find_map_end
decreases-find_map_end l = 4 * l.levels + 2

abbrev pub decreases-find_pairs_end : goal.decreases-find_pairs_end
decreases-find_pairs_end l = 4 * l.levels + 1

abbrev pub decreases-find_struct_end : goal.decreases-find_struct_end
decreases-find_struct_end l = 4 * l.levels + 1

abbrev pub invariant-find_list_end-loop : goal.invariant-find_list_end-loop
invariant-find_list_end-loop l = record {
  behind : l.at ≤ l.place;
  within : l.place ≤ length l.bytes;
  rest : each_end (value_end l.levels l.bytes true l.head.wire) (l.head.count - l.counter) l.place
      ≡ each_end (value_end l.levels l.bytes true l.head.wire) l.head.count l.from;
}

abbrev pub invariant-find_pairs_end-loop : goal.invariant-find_pairs_end-loop
invariant-find_pairs_end-loop l = record {
  behind : l.at ≤ l.place;
  within : l.place ≤ length l.bytes;
  rest : each_end (λ from. value_end l.levels l.bytes true l.key from >>= value_end l.levels l.bytes true l.value) (l.size - l.counter) l.place
      ≡ each_end (λ from. value_end l.levels l.bytes true l.key from >>= value_end l.levels l.bytes true l.value) l.size l.from;
}

abbrev pub invariant-find_struct_end-loop-field : goal.invariant-find_struct_end-loop-field
invariant-find_struct_end-loop-field l = record {
  behind : l.at ≤ l.place;
  within : l.place ≤ length l.bytes;
  rest : (most : ℕ) × (length l.bytes - l.place < most) × (fields_end (value_end l.levels l.bytes false) l.bytes most l.last l.place
      ≡ fields_end (value_end l.levels l.bytes false) l.bytes (suc (length l.bytes)) (pos 0) l.at);
}

abbrev pub decreases-find_struct_end-loop-field : goal.decreases-find_struct_end-loop-field
decreases-find_struct_end-loop-field l = length l.bytes - l.place
