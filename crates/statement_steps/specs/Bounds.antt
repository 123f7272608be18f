-- How many calls a statement makes at most, phase by phase. No bound depends on the statement or on what was loaded.
use Rattle.std.specs.Prelude.{ℕ, ◌+◌, ◌*◌, ◌^◌}
use Rattle.row_base.specs.declared.limits.TheConstants.{MAX_ATTEMPTS, VERSION_LIMIT}

-- the commits that a load gets
abbrev pub most_loads : ℕ
most_loads = VERSION_LIMIT

-- files that are got, and files that are put: as many as a list has
abbrev pub most_files : ℕ
most_files = 2 ^ 64

abbrev pub most_puts : ℕ
most_puts = 2 ^ 64

-- three calls for each attempt, as many as a script allows
abbrev pub most_attempts : ℕ
most_attempts = 3 * MAX_ATTEMPTS

-- after the load, whatever the statement is
abbrev pub most_after_load : ℕ
most_after_load = most_files + (most_puts + most_attempts)

abbrev pub most_after_list : ℕ
most_after_list = most_loads + most_after_load

abbrev pub most_after_clock : ℕ
most_after_clock = 1 + most_after_list

abbrev pub most_calls : ℕ
most_calls = 1 + most_after_clock
