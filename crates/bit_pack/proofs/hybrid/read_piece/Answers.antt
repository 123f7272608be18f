use denote.Bor.{Bor}
use Rattle.std.proofs.Common.{List, ℕ, ◌≡◌, ◌≤◌, ◌-◌, ◌/◌, ◌^◌, length, take, drop, arith}
use Rattle.std.proofs.lemmas.List.{take_rest}
use Rattle.std.proofs.lemmas.Result.{IfOk-weaker, IfErr-weaker}
use Rattle.bit_pack.specs.declared.fault.PackFault.{PackFault}
use Rattle.bit_pack.specs.declared.fault.PackFault.TheVariants as faults
use Rattle.bit_pack.specs.Bits.{most_values}
use Rattle.bit_pack.specs.Numbers.{number_in}
use Rattle.bit_pack.specs.Hybrid.{byte_width, HasWideValue}
use Rattle.bit_pack.specs.Steps.{AddsRun, AddsStretch, AddsPiece}
use Rattle.bit_pack.proofs.PieceLemmas.{run_piece, stretch_piece, HasWideValue-run}
use Rattle.bit_pack.proofs.Wholes.{bytes_fit}
use Rattle.bit_pack.proofs.hybrid.read_piece.Goals as goal

pub returns-then-number-eq0-clause-ok : goal.returns-then-number-eq0-clause-ok
returns-then-number-eq0-clause-ok c =
    let w = c.args.width in
    let bytes = c.args.bytes.now in
    let len = c.in_ok-length.length in
    let number = c.in_ok-length.number in
    let old = c.args.values.now.items in
    let new = c.read_run.new.values.items in
    let few : length old ≤ c.args.count = omega (arith, c.requires.missing, c.args.values.now.ok) in
    IfOk-weaker c.read_run.result
    (λ (rest : Bor (List ℕ)). AddsRun w (take (length bytes - len) (drop len bytes)) (number / 2) c.args.count old new rest.now)
    (λ (rest : Bor (List ℕ)). AddsPiece w bytes c.args.count old new rest.now)
    (λ rest adds. run_piece w bytes len number c.args.count old new rest.now few c.in_ok-length.ensures.ok c.if-number-eq0.true (rw take_rest at adds))
    c.read_run.ensures.ok

pub returns-then-number-eq0-clause-width : goal.returns-then-number-eq0-clause-width
returns-then-number-eq0-clause-width c =
    let w = c.args.width in
    let bytes = c.args.bytes.now in
    let len = c.in_ok-length.length in
    let number = c.in_ok-length.number in
    let body = take (length bytes - len) (drop len bytes) in
    IfErr-weaker c.read_run.result
    (λ (e : PackFault). (asked : ℕ) → e ≡ faults.Width asked → (asked ≡ w) × (number / 2 ≤ most_values) × (byte_width w ≤ length body) × (2 ^ w ≤ number_in (take (byte_width w) body)))
    (λ (e : PackFault). (asked : ℕ) → e ≡ faults.Width asked → (asked ≡ w) × HasWideValue w bytes)
    (λ e tells asked is. let p = rw take_rest at (tells asked is) in
    (p.0, HasWideValue-run w bytes len number c.in_ok-length.ensures.ok c.if-number-eq0.true p.1 p.2 p.3))
    c.read_run.ensures.width

pub returns-else-number-eq0-clause-ok : goal.returns-else-number-eq0-clause-ok
returns-else-number-eq0-clause-ok c =
    let w = c.args.width in
    let bytes = c.args.bytes.now in
    let len = c.in_ok-length.length in
    let number = c.in_ok-length.number in
    let old = c.args.values.now.items in
    let new = c.read_stretch.new.values.items in
    let few : length old ≤ c.args.count = omega (arith, c.requires.missing, c.args.values.now.ok) in
    IfOk-weaker c.read_stretch.result
    (λ (rest : Bor (List ℕ)). AddsStretch w (take (length bytes - len) (drop len bytes)) (number / 2) c.args.count old new rest.now)
    (λ (rest : Bor (List ℕ)). AddsPiece w bytes c.args.count old new rest.now)
    (λ rest adds. stretch_piece w bytes len number c.args.count old new rest.now (bytes_fit bytes c.type_inv.bytes) few c.in_ok-length.ensures.ok c.if-number-eq0.false (rw take_rest at adds))
    c.read_stretch.ensures.ok
