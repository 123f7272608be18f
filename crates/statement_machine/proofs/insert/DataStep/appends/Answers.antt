use Rattle.std.proofs.Common.{rules, inr, subst}
use Rattle.std.specs.List.{All}
use Rattle.write_files.specs.Files.{IsReadable}
use Rattle.statement_machine.proofs.insert.DataStep.appends.Goals as goal

pub returns-in-Ok : goal.returns-in-Ok
returns-in-Ok c =
    let go = c.go.ensures in
    record {
      ready = go.ready;
      settled = go.settled;
      left = search rules;
      some = go.some;
      may = λ es out h.
          let s = go.may es out h in
          inr (record { few = c.in-Ok.ensures.few; readable = subst (All IsReadable) c.in-Ok.ensures.adds c.in-Ok.ensures.readable }, (s.0, c.in-Ok.ensures.begins es s.0 s.1, s.2));
    }
