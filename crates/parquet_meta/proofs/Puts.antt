-- Fields that are written, one behind another.
use Rattle.std.proofs.Common.{◌≡◌, ℕ, List, [], ◌∷◌, ◌++◌, ap, ◌∙◌, Option, None, Result, Ok, Err}
use Rattle.std.specs.Prelude.{ℤ, OnOk}
use Rattle.std.proofs.lemmas.List.{append_assoc}
use Rattle.thrift_compact.specs.declared.wire.Wire.{Wire}
use Rattle.thrift_compact.specs.Writing.{field_bytes}
use Rattle.parquet_meta.specs.Written.{Written, fields_text, always, Writes}

pub put_some : (old middle new : List ℕ) (last id now after header : ℤ) (wire : Wire) (text : List ℕ) → now ≡ id → after ≡ last → header ≡ id
    → middle ≡ old ++ field_bytes after header wire → new ≡ middle ++ text → Writes old last new now (always id wire text)
unfolding fields_text
put_some old middle new last id now after header wire text same behind_last same_header begun ended = record {
  follows = λ others.
      ap (λ (k : ℤ). new ++ fields_text k others) same
      ∙ ap (λ (bs : List ℕ). bs ++ fields_text id others) (ended ∙ ap (λ (bs : List ℕ). bs ++ text) (begun ∙ ap (λ (k : ℤ). old ++ field_bytes k header wire) behind_last ∙ ap (λ (k : ℤ). old ++ field_bytes last k wire) same_header))
      ∙ append_assoc (old ++ field_bytes last id wire) text (fields_text id others)
      ∙ append_assoc old (field_bytes last id wire) (text ++ fields_text id others);
}

pub put_none : (old : List ℕ) (last now : ℤ) → now ≡ last → Writes old last old now None
unfolding fields_text
put_none old last now same = record { follows = λ others. ap (λ (k : ℤ). old ++ fields_text k others) same }

-- the stop of a struct
pub stopped : (old new : List ℕ) (last : ℤ) → new ≡ old ++ 0 ∷ [] → new ≡ old ++ fields_text last []
unfolding fields_text
stopped old new last e = e

-- one field more, before those that follow
pub before : (old middle new : List ℕ) (last now after : ℤ) (field seen : Option Written) (others : List (Option Written)) → Writes old last middle now seen → seen ≡ field → after ≡ now
    → new ≡ middle ++ fields_text after others → new ≡ old ++ fields_text last (field ∷ others)
before old middle new last now after field seen others w same behind_it e =
    e ∙ ap (λ (k : ℤ). middle ++ fields_text k others) behind_it ∙ w.follows others ∙ ap (λ (f : Option Written). old ++ fields_text last (f ∷ others)) same

-- what holds after a call that went well
pub when_ok : {E : Type 0} {P Q : Type 0} (r : Result (Unit {0}) E) → (P → Q) → OnOk r P → OnOk r Q
when_ok (Ok x) f h = f h
when_ok (Err e) f h = h
