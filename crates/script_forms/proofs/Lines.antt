-- Reading what a line says is the inverse of spelling it.
use Rattle.std.proofs.Common.{◌≡◌, ℕ, List, [], Some, refl, sym, ap, subst, inl, inr}
use Rattle.row_base.specs.Readings.{◌>>=◌}
use Rattle.script_tokens.specs.Reading.{line_tokens}
use Rattle.script_tokens.proofs.Runs.{bind_some, some_is}
use Rattle.script_tokens.proofs.Lines.{found, only}
use Rattle.script_grammar.specs.Shape.{Value, Spells, whole}
use Rattle.script_grammar.proofs.Whole.{whole_is, whole_again}
use Rattle.std.proofs.Common.{false}
use Rattle.script_forms.specs.declared.line.Line.{Line}
use Rattle.script_forms.specs.declared.line.Line.TheVariants as line
use Rattle.script_forms.specs.declared.table.TableForm.{TableForm}
use Rattle.script_forms.specs.Tables.{table}
use Rattle.script_forms.proofs.Tables.{table_again, table_value_again}
use Rattle.script_forms.specs.Lines.{line_shape, line_value, line_of, Says, reading}

pub line_again : (x : Line) → line_of (line_value x) ≡ x
line_again (line.Attempts n) = refl
line_again line.Open = refl
line_again (line.Table form) = ap (λ (t : TableForm). line.Table t) (table_again form)
line_again (line.Session name) = refl
line_again (line.Insert rows) = refl
line_again line.Select = refl
line_again (line.Wait n) = refl
line_again line.Schedule = refl

value_again : (v : Value line_shape) → line_value (line_of v) ≡ v
value_again (inl n) = refl
value_again (inr (inl u)) = refl
value_again (inr (inr (inl t))) = ap (λ (w : Value table). inr (inr (inl w))) (table_value_again t)
value_again (inr (inr (inr (inl name)))) = refl
value_again (inr (inr (inr (inr (inl rows))))) = refl
value_again (inr (inr (inr (inr (inr (inl u)))))) = refl
value_again (inr (inr (inr (inr (inr (inr (inl n))))))) = refl
value_again (inr (inr (inr (inr (inr (inr (inr u))))))) = refl

pub reading_is : (bytes : List ℕ) (x : Line) → reading bytes ≡ Some x → Says bytes x
unfolding reading
reading_is bytes x e =
    let a = bind_some (line_tokens bytes) (λ ts. whole line_shape ts >>= λ v. Some (line_of v)) x e in
    let b = bind_some (whole line_shape a.0) (λ v. Some (line_of v)) x a.2 in
    let spelled : Spells line_shape a.0 (line_value (line_of b.0)) [] = subst (λ (v : Value line_shape). Spells line_shape a.0 v []) (sym (value_again b.0)) (whole_is line_shape a.0 b.0 b.1) in
    subst (λ (y : Line). Says bytes y) (some_is (line_of b.0) x b.2) (record { tokens = a.0; cut = found bytes a.0 a.1; spelled = spelled })

pub reading_again : (bytes : List ℕ) (x : Line) → Says bytes x → reading bytes ≡ Some x
unfolding reading
reading_again bytes x h =
    let t : line_tokens bytes ≡ Some h.tokens = only false h.tokens bytes h.cut in
    let w : whole line_shape h.tokens ≡ Some (line_value x) = whole_again line_shape h.tokens (line_value x) h.spelled in
    rw (t, w) (ap (λ (y : Line). Some y) (line_again x))
