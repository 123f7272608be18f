-- The columns that a statement names, from the left.
use Rattle.std.specs.Prelude.{◌==◌, ℕ, List, [], ◌∷◌, ◌++◌, Result, Ok, Err, Bool, if◌then◌else◌}
use Rattle.std.specs.List.{list_any}
use Rattle.row_base.specs.Faults.{◌>>=◌}
use Rattle.row_base.specs.declared.row.Kind.{Kind}
use Rattle.row_base.specs.declared.schema.Column.{Column}
use Rattle.predicates.specs.Binding.{found_in}
use Rattle.predicates.specs.declared.fault.BindFault.{BindFault}
use Rattle.predicates.specs.declared.fault.BindFault.TheVariants as fault

-- a name that may stand once
abbrev pub once : Bool → List ℕ → Result (Unit {0}) BindFault
once stood name = if stood then Err (fault.Twice name) else Ok tt

-- the place of the column of this name, which stands at none of the places before
abbrev pub new_place_in : List Column → List ℕ → List ℕ → Result ℕ BindFault
new_place_in columns before name =
    found_in columns name >>= λ p. once (list_any (λ b. b == p.0) before) name >>= λ u. Ok p.0

-- the places of columns that are named once each, after those before
unfoldable pub places_once : List Column → List ℕ → List (List ℕ) → Result (List ℕ) BindFault
places_once columns before [] = Ok []
places_once columns before (n ∷ ns) =
    new_place_in columns before n >>= λ p. places_once columns (before ++ p ∷ []) ns >>= λ ps. Ok (p ∷ ps)
