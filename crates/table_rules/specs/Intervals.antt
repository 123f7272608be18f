-- Intervals of time, as the properties of a table name them.
use Rattle.std.specs.Prelude.{◌≡◌, ◌≤◌, ℕ, ◌*◌, ◌==◌, ◌||◌, if◌then◌else◌, nat_le, List, ◌∷◌, ◌++◌, Option, Some, None, codes, option_and_then}
use Rattle.std.specs.List.{before_first, after_first}
use Rattle.std.specs.Str.{bytes_eq}
use Rattle.std.specs.Fmt.{decimal}
use Rattle.row_base.specs.declared.limits.TheConstants.{MAX_WAIT}
use Rattle.row_base.specs.Numbers.{decimal_in}

-- the milliseconds of a unit
unfoldable pub unit_in : List ℕ → Option ℕ
unit_in name =
    if bytes_eq name (codes "millisecond") || bytes_eq name (codes "milliseconds") then Some 1
    else (if bytes_eq name (codes "second") || bytes_eq name (codes "seconds") then Some 1000
    else (if bytes_eq name (codes "minute") || bytes_eq name (codes "minutes") then Some 60000
    else (if bytes_eq name (codes "hour") || bytes_eq name (codes "hours") then Some 3600000
    else (if bytes_eq name (codes "day") || bytes_eq name (codes "days") then Some 86400000
    else (if bytes_eq name (codes "week") || bytes_eq name (codes "weeks") then Some 604800000 else None)))))

-- so many units, at most MAX_WAIT
abbrev pub scaled : ℕ → ℕ → Option ℕ
scaled number unit = if nat_le (number * unit) MAX_WAIT then Some (number * unit) else None

-- a number, a space and a unit
unfoldable pub amount_in : List ℕ → Option ℕ
amount_in text =
    option_and_then (λ number. option_and_then (λ unit. scaled number unit) (unit_in (after_first (λ b. b == 32) text)))
    (decimal_in (before_first (λ b. b == 32) text))

-- the milliseconds of the interval that a text names
unfoldable pub interval_in : List ℕ → Option ℕ
interval_in text =
    if bytes_eq (before_first (λ b. b == 32) text) (codes "interval") then amount_in (after_first (λ b. b == 32) text) else None

-- a text names an interval: the word, a number in decimal and a unit, with one space between them, of at most MAX_WAIT
pub record IsInterval (text : List ℕ) (milliseconds : ℕ) : Type 0 where
  pub number : ℕ
  pub unit : List ℕ
  pub scale : ℕ
  pub is_unit : unit_in unit ≡ Some scale
  pub is_text : text ≡ codes "interval" ++ (32 ∷ (decimal number ++ (32 ∷ unit)))
  pub is_long : milliseconds ≡ number * scale
  pub is_bounded : milliseconds ≤ MAX_WAIT
