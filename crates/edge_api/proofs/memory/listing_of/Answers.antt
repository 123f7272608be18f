use Rattle.std.proofs.Common.{◌≡◌, [], sym, ◌∙◌, ap, subst}
use Rattle.edge_api.specs.Journal.{Objects, listing}
use Rattle.edge_api.proofs.Objects.{StandsFrom, from_prefix, stands_from, listing-from_prefix, listing_ends, listed_all}
use Rattle.edge_api.proofs.memory.listing_of.Goals as goal
use Rattle.edge_api.proofs.memory.listing_of.Goals.{in-None, in-Some+then-not-starts_with}

pub loop-name-init : goal.loop-name-init
loop-name-init c =
    let p = c.args.prefix.now in
    let os = c.args.objects.now.entries in
    let begun : c.into_iter-name-iterator.result ≡ from_prefix p os = c.into_iter-name-iterator.ensures.into_iter_gives ∙ c.range-name-items.ensures.between tt in
    record {
      listed = rw (c.new-items.ensures.items, begun) (listing-from_prefix p os);
      rest = subst (StandsFrom p) (sym begun) (stands_from p os c.range-name-items.ensures.ordered);
    }

pub returns : goal.returns
returns c =
    let p = c.args.prefix.now in
    let rest : listing c.loop-name.name-iterator p ≡ [] = elim c.match-next.branch [
      | in-None w ↦ ap (λ (os : Objects). listing os p) w.in-None.ensures.steps.0
      | in-Some+then-not-starts_with w ↦
          let e = w.in-Some.ensures.steps in
          let fails = rw (w.as_bytes.ensures, w.as_bytes-in-loop-name.ensures) at (sym w.starts_with.ensures.value ∙ w.if-not-starts_with.true) in
          ap (λ (os : Objects). listing os p) e ∙ listing_ends p (w.in-Some.name.now, w.in-Some.object.now) c.next.new.self (subst (StandsFrom p) e c.loop-name.invariant.rest) fails
    ] in
    let done : c.loop-name.items.items ≡ listing c.args.objects.now.entries p = listed_all c.loop-name.items.items (listing c.loop-name.name-iterator p) (listing c.args.objects.now.entries p) c.loop-name.invariant.listed rest in
    rw (← done) c.make.ensures
