use Rattle.std.proofs.Common.{inl, inr}
use Rattle.std.specs.String.{string_bytes}
use Rattle.std.proofs.lemmas.Result.{IfOk-weaker}
use Rattle.workbench.proofs.Faults.{values_read, no_values}
use Rattle.workbench.proofs.reading.read_text.Goals as goal

pub returns-in-Ok : goal.returns-in-Ok
returns-in-Ok c =
    IfOk-weaker c.values_text.result _ _
    (λ text e. λ values reads. inl (values_read c.args.width c.args.count c.checksum.result c.args.bytes.now c.in-Ok.values.items c.as_slice.result.now values (string_bytes text)
    c.in-Ok.ensures.ok c.as_slice.ensures.value c.checksum.ensures e reads))
    c.values_text.ensures

pub returns-in-Err : goal.returns-in-Err
returns-in-Err c =
    IfOk-weaker c.fault_text.result _ _
    (λ text says. λ values reads. no_values c.args.width c.args.count c.args.bytes.now values c.in-Err.fault _ (λ e. inr (says e))
    c.in-Err.ensures.width c.in-Err.ensures.count c.in-Err.ensures.short reads)
    c.fault_text.ensures
