-- Where a scan stands.
use Rattle.std.specs.Prelude.{◌≡◌, ℕ, Option}
use Rattle.edge_api.specs.declared.call.Call.{Call}
use Rattle.call_phases.specs.Phases.{Entries}
use Rattle.call_phases.specs.Ending.{Ending}
use Rattle.call_phases.specs.Endings.{Maps}
use Rattle.call_phases.specs.GetsAt as gets
use Rattle.scan.specs.declared.fault.ScanFault.{ScanFault}
use Rattle.scan.specs.declared.reader.FilesToGet.{FilesToGet}
use Rattle.scan.specs.declared.scan.Scan.{Scan}
use Rattle.scan.specs.declared.scan.Scanned.{Scanned}
use Rattle.scan.specs.Faults.{of_get}
use Rattle.scan.specs.Reader.{files_of, wanted_name, files_left_of, after_body}
use Rattle.scan.specs.Scans.{scanned}

-- what is handed back after the gets
abbrev pub scanned_after : ℕ → FilesToGet → Scanned
scanned_after live r = scanned live (files_of r)

abbrev pub call_of : Scan → Option Call
call_of s = gets.call_at s.gets.stage

abbrev pub left_of : Scan → ℕ
left_of s = gets.left_at files_left_of s.gets.stage

abbrev pub IsReady : Scan → Type 0
IsReady s = s.gets.call ≡ call_of s

-- what the entries still to come have to be, and how they end: as the gets do, with what is made of their end
abbrev pub RestOf : Scan → Entries → Ending ScanFault Scanned → Type 0
RestOf s = Maps of_get (scanned_after s.live) (gets.RestAt wanted_name after_body s.gets.stage)
