use Rattle.snapshot_load.specs.Machine as load
use Rattle.scan.specs.Machine as scan
use Rattle.write_files.specs.Phase as write
use Rattle.statement_machine.specs.declared.stage.Stage.TheVariants as stage
use Rattle.statement_machine.specs.Machine.{ByLoad, ByScan, ByPut, NextLoad, NextScan, NextData}
use Rattle.statement_machine.proofs.Stages.{stage_leads}
use Rattle.statement_machine.proofs.stage.StageResumes.go_on.Goals as goal

pub returns-in-Load-clause-leads : goal.returns-in-Load-clause-leads
returns-in-Load-clause-leads c =
    let s = c.in-Load.field-0 in
    stage_leads load.RestOf ByLoad (NextLoad s) (stage.Load s) (λ p es out h. h) (λ p es out h. h) c.args.self.now c.args.answer c.in-Load.load c.advance-in-Load.new.part c.in-Load.is c.advance-in-Load.ensures.leads

pub returns-in-Scan-clause-leads : goal.returns-in-Scan-clause-leads
returns-in-Scan-clause-leads c =
    let s = c.in-Scan.field-0 in
    stage_leads scan.RestOf (ByScan s.kept) (NextScan s) (stage.Scan s) (λ p es out h. h) (λ p es out h. h) c.args.self.now c.args.answer c.in-Scan.scan c.advance-in-Scan.new.part c.in-Scan.is c.advance-in-Scan.ensures.leads

pub returns-in-Data-clause-leads : goal.returns-in-Data-clause-leads
returns-in-Data-clause-leads c =
    let s = c.in-Data.field-0 in
    stage_leads write.RestOf (ByPut s.on) (NextData s) (stage.Data s) (λ p es out h. h) (λ p es out h. h) c.args.self.now c.args.answer c.in-Data.puts c.advance-in-Data.new.part c.in-Data.is c.advance-in-Data.ensures.leads
