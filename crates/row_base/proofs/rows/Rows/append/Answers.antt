use Rattle.std.proofs.Common.{rules, arith, ◌≡◌, ◌≤◌, length, get_or}
use Rattle.row_base.proofs.RowEndLemmas.{ends_each, ends_joined, rows_joined}
use Rattle.row_base.proofs.rows.Rows.append.Goals as goal

pub append_ends-requires-clause-fits : goal.append_ends-requires-clause-fits
append_ends-requires-clause-fits c k d lt =
    let list : c.as_slice.result.now ≡ c.other.inside.ends.items = c.as_slice.ensures.value in
    let le : get_or c.as_slice.result.now k d ≤ length c.other.inside.values.items = ends_each 0 c.as_slice.result.now (length c.other.inside.values.items) (rw list c.other.invariant) k d lt in
    omega (arith, le, c.in_ok-append.ensures.len)

pub invariant_of-self-2 : goal.invariant_of-self-2
invariant_of-self-2 c =
    rw (c.append_ends.ensures, c.in_ok-reserve.ensures.items, c.in_ok-append.ensures.items, c.as_slice.ensures.value)
    (ends_joined c.self.inside.ends.items c.other.inside.ends.items c.self.inside.values.items c.other.inside.values.items c.len-count.result c.self.invariant c.other.invariant (search rules))

pub returns-clause-ok : goal.returns-clause-ok
returns-clause-ok c =
    rw (c.append_ends.ensures, c.in_ok-reserve.ensures.items, c.in_ok-append.ensures.items, c.as_slice.ensures.value, ← c.self.view_is, ← c.other.view_is)
    (rows_joined c.self.inside.ends.items c.other.inside.ends.items c.self.inside.values.items c.other.inside.values.items c.len-count.result c.self.invariant (search rules))
