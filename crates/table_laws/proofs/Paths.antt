-- The name of a data file is a path that its text gives back.
use Rattle.std.proofs.Common.{◌≡◌, ℕ, ◌<◌, ◌^◌, true}
use Rattle.edge_api.specs.declared.call.Tag.{Tag}
use Rattle.table_rules.specs.Names.{data_text}
use Rattle.table_rules.proofs.Names.{data_is_graphic}
use Rattle.line_texts.specs.Texts.{is_path}
use Rattle.line_texts.proofs.Laws.{graphic_is_path}

pub data_is_path : (tag : Tag) (start part : ℕ) → part < 2 ^ 32 → is_path (data_text tag start part) ≡ true
data_is_path tag start part small = graphic_is_path (data_text tag start part) (λ i d within. let h = data_is_graphic tag start part small i d within in (h.0, h.1))
