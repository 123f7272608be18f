-- Names of commits and data files.
use Rattle.std.proofs.Common.{◌≡◌, ℕ, ◌<◌, ◌^◌}
use Rattle.edge_api.specs.declared.call.Tag.{Tag}
use Rattle.table_rules.specs.Names.{data_text}
use Rattle.table_rules.specs.Told.{IsTag}
use Rattle.table_rules.proofs.Names.{data_differ}

-- files of one name are of one statement, and one part
pub same_file : (a b : Tag) (s t i j : ℕ) → IsTag a → IsTag b → i < 2 ^ 32 → j < 2 ^ 32 → data_text a s i ≡ data_text b t j → a ≡ b
same_file a b s t i j is also small other h =
    let all = data_differ a b s t i j is also small other h in
    λ n. record { actor = all.0 n; statement = all.1 n }

pub same_part : (a b : Tag) (s t i j : ℕ) → IsTag a → IsTag b → i < 2 ^ 32 → j < 2 ^ 32 → data_text a s i ≡ data_text b t j → i ≡ j
same_part a b s t i j is also small other h = (data_differ a b s t i j is also small other h).2
