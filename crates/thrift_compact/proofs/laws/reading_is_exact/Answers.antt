use Rattle.thrift_compact.proofs.ReadingLaws.{number_found, number_only, binary_found, binary_only}
use Rattle.thrift_compact.proofs.HeaderLaws.{list_found, list_only, field_found, field_only}
use Rattle.thrift_compact.proofs.SkippingLaws.{skipped_found, skipped_taken}
use Rattle.thrift_compact.proofs.FaultLaws.{number_fault_found, number_fault_only}
use Rattle.thrift_compact.proofs.HeaderFaults.{binary_fault_found, binary_fault_only, list_fault_found, list_fault_only, field_fault_found, field_fault_only}
use Rattle.thrift_compact.proofs.SkipFaultLaws.{skip_fault_found, skip_fault_only}
use Rattle.thrift_compact.proofs.laws.reading_is_exact.Goals as goal

pub returns-clause-numbers : goal.returns-clause-numbers
returns-clause-numbers c = λ bytes at within value end. (number_found bytes at value end within, λ h. number_only bytes at value end h.0 h.1 h.2)

pub returns-clause-numbers_fail : goal.returns-clause-numbers_fail
returns-clause-numbers_fail c = λ bytes at fault within. (number_fault_found bytes at fault within, number_fault_only bytes at fault)

pub returns-clause-binaries : goal.returns-clause-binaries
returns-clause-binaries c = λ bytes at within value end. (binary_found bytes at value end within, λ h. binary_only bytes at value end h.0 h.1 h.2)

pub returns-clause-lists : goal.returns-clause-lists
returns-clause-lists c = λ bytes at within value end. (list_found bytes at value end, λ h. list_only bytes at value end h.0 h.1 h.2)

pub returns-clause-fields : goal.returns-clause-fields
returns-clause-fields c = λ bytes last at within value end. (field_found bytes last at value end, λ h. field_only bytes last at value end h.0 h.1 h.2)

pub returns-clause-values : goal.returns-clause-values
returns-clause-values c = λ bytes wire at within value end. (skipped_found 16 bytes wire at value end within, λ h. skipped_taken 16 bytes wire at value end h.0 h.1 h.2)

pub returns-clause-binaries_fail : goal.returns-clause-binaries_fail
returns-clause-binaries_fail c = λ bytes at fault within. (binary_fault_found bytes at fault within, binary_fault_only bytes at fault)

pub returns-clause-lists_fail : goal.returns-clause-lists_fail
returns-clause-lists_fail c = λ bytes at fault within. (list_fault_found bytes at fault within, list_fault_only bytes at fault)

pub returns-clause-fields_fail : goal.returns-clause-fields_fail
returns-clause-fields_fail c = λ bytes last at fault within. (field_fault_found bytes last at fault within, field_fault_only bytes last at fault)

pub returns-clause-values_fail : goal.returns-clause-values_fail
returns-clause-values_fail c = λ bytes wire at fault within. (skip_fault_found 16 bytes wire at fault within, skip_fault_only 16 bytes wire at fault within)
