use Rattle.std.proofs.Common.{List, ℕ, ◌≡◌, ◌++◌, ◌-◌, ◌/◌, ◌+◌, ◌*◌, ◌^◌, ◌≤◌, ◌∙◌, ap, take, append_assoc, arith}
use Rattle.bit_pack.specs.Numbers.{bytes_of}
use Rattle.bit_pack.proofs.Sums.{group_is, front_of_word}
use Rattle.bit_pack.proofs.packing.pack_group.Goals as goal

pub returns-clause-items : goal.returns-clause-items
returns-clause-items g c =
    let w = g.row.W in
    let half : w / 2 ≤ 16 = omega arith in
    let others : w - w / 2 ≤ 16 = omega arith in
    let low = c.four-low.result in
    let high = c.four-high.result in
    let middle = (low + 2 ^ (4 * w) * high) / 2 ^ (8 * (w / 2)) in
    let start = c.args.out.now.items in
    let first : c.push_all.new.out.items ≡ start ++ bytes_of (w / 2) low
    = c.push_all.ensures.items
    ∙ ap (λ (bs : List ℕ). start ++ take (w / 2) bs) c.to_le_bytes.ensures
    ∙ ap (λ (bs : List ℕ). start ++ bs) (front_of_word (w / 2) low half) in
    c.push_all-2.ensures.items
    ∙ ap (λ (bs : List ℕ). c.push_all.new.out.items ++ take (w - w / 2) bs) c.to_le_bytes-2.ensures
    ∙ ap (λ (bs : List ℕ). c.push_all.new.out.items ++ bs) (front_of_word (w - w / 2) c.rest.result others)
    ∙ ap (λ m. c.push_all.new.out.items ++ bytes_of (w - w / 2) m) c.rest.ensures
    ∙ ap (λ (bs : List ℕ). bs ++ bytes_of (w - w / 2) middle) first
    ∙ append_assoc start (bytes_of (w / 2) low) (bytes_of (w - w / 2) middle)
    ∙ ap (λ (bs : List ℕ). start ++ bs) (group_is w c.args.values.now low high (omega arith) c.four-low.ensures.value c.four-high.ensures.value)
