-- Literals of any kind are read exactly where they are spelled.
use Rattle.std.proofs.Common.{◌≡◌, ℕ, ℤ, true, false, List, [], ◌∷◌, ◌++◌, Some, refl, sym, ap, subst, ◌∙◌, inl, inr}
use Rattle.std.specs.Prelude.{codes, IsUtf8}
use Rattle.std.specs.Str.{bytes_eq, is_utf8}
use Rattle.std.proofs.lemmas.Slice.Eq.{bytes_eq-Decides}
use Rattle.std.proofs.lemmas.Str.{is_utf8-from_IsUtf8, IsUtf8-from_is_utf8, IsUtf8-from_ascii}
use Rattle.row_base.specs.Dates.{IsDayNumber, date_in, text_of_day}
use Rattle.row_base.specs.declared.row.Datum.{Datum}
use Rattle.row_base.specs.declared.row.Datum.TheVariants as datum
use Rattle.row_base.specs.Readings.{◌>>=◌}
use Rattle.row_base.proofs.DateLemmas.{read_is, text_given_back, number_given_back, is_date_text, date_ascii}
use Rattle.row_base.proofs.DateRange.{date_in_range}
use Rattle.script_tokens.specs.declared.token.Token.{Token}
use Rattle.script_tokens.specs.declared.token.Token.TheVariants.{Word, Number, Text, Symbol}
use Rattle.script_tokens.proofs.Runs.{bind_some, some_is, guarded, cond_some, Bool_tells}
use Rattle.script_grammar.specs.Shape.{datum_tokens, HasLiteral, utf8_text, text_at, day_at, date_datum, false_datum, true_datum, named_datum, datum_at}

abbrev Tokens : Type 0
Tokens = List Token

pub no_utf8 : (t : List ℕ) → (IsUtf8 t → ⊥) → is_utf8 t ≡ false
no_utf8 t h = elim (Bool_tells (is_utf8 t)) [
  | inl u ↦ absurd (h (IsUtf8-from_is_utf8 t u))
  | inr u ↦ u
]

utf8_is : (t u : List ℕ) → utf8_text t ≡ Some u → (is_utf8 t ≡ true) × (t ≡ u)
utf8_is t u e = let k = guarded (is_utf8 t) (Some t) u e in (k.0, some_is t u k.1)

-- the tokens are those of a text, and what follows
abbrev IsText : Tokens → List ℕ × Tokens → Type 0
IsText ts y = (ts ≡ Text y.0 ∷ y.1) × (is_utf8 y.0 ≡ true)

pub takes_text : (ts : Tokens) (x : List ℕ × Tokens) → text_at ts ≡ Some x → IsText ts x
takes_text (Text t ∷ ts) x e =
    let a = bind_some (utf8_text t) (λ u. Some (u, ts)) x e in
    let k = utf8_is t a.0 a.1 in
    subst (IsText (Text t ∷ ts)) (ap (λ (u : List ℕ). (u, ts)) k.1 ∙ some_is (a.0, ts) x a.2) (refl, k.0)
takes_text [] x e = absurd cc
takes_text (Word n ∷ ts) x e = absurd cc
takes_text (Number n ∷ ts) x e = absurd cc
takes_text (Symbol s ∷ ts) x e = absurd cc

pub again_text : (t : List ℕ) (rest : Tokens) → is_utf8 t ≡ true → text_at (Text t ∷ rest) ≡ Some (t, rest)
again_text t rest h = rw h refl

-- the tokens are those of a literal, and what follows
abbrev IsLiteralOf : Tokens → Datum × Tokens → Type 0
IsLiteralOf ts y = (ts ≡ datum_tokens y.0 ++ y.1) × HasLiteral y.0

same_word : (w v : List ℕ) (ts : Tokens) → bytes_eq w v ≡ true → Word w ∷ ts ≡ Word v ∷ ts
same_word w v ts h = ap (λ (u : List ℕ). Word u ∷ ts) ((bytes_eq-Decides w v).0 h)

date_is : (w : List ℕ) (ts : Tokens) (x : Datum × Tokens) → date_datum w ts ≡ Some x → IsLiteralOf (Word w ∷ ts) x
date_is w ts x e =
    let k = guarded (bytes_eq w (codes "date")) (day_at ts) x e in
    let a = bind_some (text_at ts) (λ y. date_in y.0 >>= λ n. Some (datum.Date n, y.1)) x k.1 in
    let b = bind_some (date_in a.0.0) (λ n. Some (datum.Date n, a.0.1)) x a.2 in
    let said : text_of_day b.0 ≡ a.0.0 = text_given_back a.0.0 b.0 (read_is a.0.0 b.0 b.1) in
    let behind : ts ≡ Text (text_of_day b.0) ∷ a.0.1 = (takes_text ts a.0 a.1).0 ∙ ap (λ (t : List ℕ). Text t ∷ a.0.1) (sym said) in
    subst (IsLiteralOf (Word w ∷ ts)) (some_is (datum.Date b.0, a.0.1) x b.2) (same_word w (codes "date") ts k.0 ∙ ap (λ (u : Tokens). Word (codes "date") ∷ u) behind, date_in_range a.0.0 b.0 b.1)

false_is : (w : List ℕ) (ts : Tokens) (x : Datum × Tokens) → false_datum w ts ≡ Some x → IsLiteralOf (Word w ∷ ts) x
false_is w ts x e = elim (cond_some (bytes_eq w (codes "false")) (Some (datum.Boolean false, ts)) (date_datum w ts) x e) [
  | inl h ↦ subst (IsLiteralOf (Word w ∷ ts)) (some_is (datum.Boolean false, ts) x h.1) (same_word w (codes "false") ts h.0, tt)
  | inr h ↦ date_is w ts x h.1
]

true_is : (w : List ℕ) (ts : Tokens) (x : Datum × Tokens) → true_datum w ts ≡ Some x → IsLiteralOf (Word w ∷ ts) x
true_is w ts x e = elim (cond_some (bytes_eq w (codes "true")) (Some (datum.Boolean true, ts)) (false_datum w ts) x e) [
  | inl h ↦ subst (IsLiteralOf (Word w ∷ ts)) (some_is (datum.Boolean true, ts) x h.1) (same_word w (codes "true") ts h.0, tt)
  | inr h ↦ false_is w ts x h.1
]

named_is : (w : List ℕ) (ts : Tokens) (x : Datum × Tokens) → named_datum w ts ≡ Some x → IsLiteralOf (Word w ∷ ts) x
named_is w ts x e = elim (cond_some (bytes_eq w (codes "null")) (Some (datum.Null, ts)) (true_datum w ts) x e) [
  | inl h ↦ subst (IsLiteralOf (Word w ∷ ts)) (some_is (datum.Null, ts) x h.1) (same_word w (codes "null") ts h.0, tt)
  | inr h ↦ true_is w ts x h.1
]

pub takes_datum : (ts : Tokens) (x : Datum × Tokens) → datum_at ts ≡ Some x → IsLiteralOf ts x
takes_datum (Number n ∷ ts) x e = subst (IsLiteralOf (Number n ∷ ts)) (some_is (datum.Long n, ts) x e) (refl, tt)
takes_datum (Text t ∷ ts) x e =
    let a = bind_some (utf8_text t) (λ u. Some (datum.Text u, ts)) x e in
    let k = utf8_is t a.0 a.1 in
    subst (IsLiteralOf (Text t ∷ ts)) (ap (λ (u : List ℕ). (datum.Text u, ts)) k.1 ∙ some_is (datum.Text a.0, ts) x a.2) (refl, k.0)
takes_datum (Word w ∷ ts) x e = named_is w ts x e
takes_datum [] x e = absurd cc
takes_datum (Symbol s ∷ ts) x e = absurd cc

day_is_utf8 : (n : ℤ) → IsDayNumber n → is_utf8 (text_of_day n) ≡ true
day_is_utf8 n h =
    let t = is_date_text n h in
    subst (λ (u : List ℕ). is_utf8 u ≡ true) (sym t.is_text) (is_utf8-from_IsUtf8 _ (IsUtf8-from_ascii _ (date_ascii t.year t.month t.day)))

pub again_datum : (d : Datum) (rest : Tokens) → HasLiteral d → datum_at (datum_tokens d ++ rest) ≡ Some (d, rest)
again_datum datum.Null rest h = refl
again_datum (datum.Long n) rest h = refl
again_datum (datum.Integer n) rest h = absurd h
again_datum (datum.Boolean true) rest h = refl
again_datum (datum.Boolean false) rest h = refl
again_datum (datum.Text t) rest h = rw h refl
again_datum (datum.Date n) rest h = rw (day_is_utf8 n h, number_given_back n h) refl
