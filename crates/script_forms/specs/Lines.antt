-- What a line says, wherever it stands.
use Rattle.std.specs.Prelude.{ℕ, List, [], Option, Some, codes}
use Rattle.std.proofs.Common.{inl, inr}
use Rattle.row_base.specs.Readings.{◌>>=◌}
use Rattle.script_tokens.specs.declared.token.Token.{Token}
use Rattle.script_tokens.specs.Tokens.{SpellsLine}
use Rattle.script_tokens.specs.Reading.{line_tokens}
use Rattle.script_grammar.specs.Shape.{Shape, nothing, a_number, a_name, a_datum, after, parens, listed, choice, Value, Spells, whole}
use Rattle.script_forms.specs.declared.line.Line.{Line}
use Rattle.script_forms.specs.declared.line.Line.TheVariants as line
use Rattle.script_forms.specs.Tables.{table, table_value, table_of}

-- (LITERAL, ..)
abbrev pub row : Shape
row = parens (listed a_datum)

-- attempts N; open; table (COLUMNS) ..; session NAME; insert ROWS; select; wait N; schedule
abbrev pub line_shape : Shape
line_shape =
    choice (codes "attempts") a_number
    (choice (codes "open") nothing
    (choice (codes "table") table
    (choice (codes "session") a_name
    (choice (codes "insert") (listed row)
    (choice (codes "select") nothing
    (choice (codes "wait") a_number
    (after (codes "schedule") nothing)))))))

-- what a line says, as a value of the shape
abbrev pub line_value : Line → Value line_shape
line_value (line.Attempts n) = inl n
line_value line.Open = inr (inl tt)
line_value (line.Table form) = inr (inr (inl (table_value form)))
line_value (line.Session name) = inr (inr (inr (inl name)))
line_value (line.Insert rows) = inr (inr (inr (inr (inl rows))))
line_value line.Select = inr (inr (inr (inr (inr (inl tt)))))
line_value (line.Wait n) = inr (inr (inr (inr (inr (inr (inl n))))))
line_value line.Schedule = inr (inr (inr (inr (inr (inr (inr tt))))))

-- The bytes of the line spell tokens, which spell what it says.
pub record Says (bytes : List ℕ) (x : Line) : Type 0 where
  pub tokens : List Token
  pub cut : SpellsLine tokens bytes
  pub spelled : Spells line_shape tokens (line_value x) []

-- ---- reading

abbrev pub line_of : Value line_shape → Line
line_of (inl n) = line.Attempts n
line_of (inr (inl u)) = line.Open
line_of (inr (inr (inl v))) = line.Table (table_of v)
line_of (inr (inr (inr (inl name)))) = line.Session name
line_of (inr (inr (inr (inr (inl rows))))) = line.Insert rows
line_of (inr (inr (inr (inr (inr (inl u)))))) = line.Select
line_of (inr (inr (inr (inr (inr (inr (inl n))))))) = line.Wait n
line_of (inr (inr (inr (inr (inr (inr (inr u))))))) = line.Schedule

unfoldable pub reading : List ℕ → Option Line
reading bytes = line_tokens bytes >>= λ ts. whole line_shape ts >>= λ v. Some (line_of v)
