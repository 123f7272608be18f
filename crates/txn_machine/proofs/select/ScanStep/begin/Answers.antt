use Rattle.std.proofs.Common.{rules, subst}
use Rattle.std.specs.Prelude.{Some}
use Rattle.op_types.specs.declared.refusal.Refusal.TheVariants as refusal
use Rattle.statement_calls.specs.declared.finish.Kept.{Kept}
use Rattle.statement_calls.specs.Answered.{Selects}
use Rattle.statement_calls.specs.Outcome.{Ends}
use Rattle.txn_machine.specs.declared.files.Files.{Files}
use Rattle.txn_machine.specs.Readers.{kept_of}
use Rattle.txn_machine.proofs.Chain.{then_scan, no_scan}
use Rattle.txn_machine.proofs.Stages.{ended_goes}
use Rattle.txn_machine.proofs.select.ScanStep.begin.Goals as goal

pub returns-in-Ok : goal.returns-in-Ok
returns-in-Ok c =
    let a = c.args in
    let go = c.go.ensures in
    let files : Files = record { alloc = a.plan.alloc; paths = c.new.result; got = c.no_files.result } in
    record {
      ready = go.ready;
      settled = go.settled;
      left = search rules;
      some = go.some;
      may = λ es out h.
          let s = go.may es out h in
          subst (λ (k : Kept). Selects a.plan.tag a.plan.limit out a.table (Some k) a.read.version es) c.kept_of.ensures
          (then_scan a.plan.tag a.plan.limit out (Some c.kept_of.result) a.read.version c.file_count-live.result a.table files es (search rules) (search rules) (s.0, c.new-in-Ok.ensures.begins es s.0 s.1, s.2));
    }

pub returns-in-Err : goal.returns-in-Err
returns-in-Err c =
    let a = c.args in
    let kept = kept_of a.spare a.read.version a.table in
    ended_goes _ _ _ _ c.refused.ensures (λ es out h.
    let ends : Ends out (Some kept) refusal.NoMemory es = search rules in
    no_scan a.plan.tag a.plan.limit out (Some kept) a.read.version a.table es ends)
