-- What is read is spelled so, and what is spelled so is read: once for all shapes.
use Rattle.std.proofs.Common.{◌≡◌, ℕ, zero, suc, ◌≤◌, ℤ, Bool, true, false, cond, List, [], ◌∷◌, ◌++◌, length, Option, Some, None, refl, sym, ap, subst, ◌∙◌, append_assoc, arith, inl, inr, length-append}
use Rattle.std.specs.Prelude.{◌⊎◌}
use Rattle.std.specs.Str.{bytes_eq}
use Rattle.std.proofs.lemmas.Slice.Eq.{bytes_eq-Decides}
use Rattle.row_base.specs.declared.row.Datum.{Datum}
use Rattle.row_base.specs.declared.row.Datum.TheVariants as datum
use Rattle.row_base.specs.Readings.{◌>>=◌}
use Rattle.script_tokens.specs.declared.token.Token.{Token}
use Rattle.script_tokens.specs.declared.token.Token.TheVariants.{Word, Number, Text, Symbol}
use Rattle.script_tokens.specs.declared.token.Symbol.TheVariants.{Open, Close, Comma, Equal, NotEqual, Less, AtMost, Greater, AtLeast, Plus, Minus, Star, Dot}
use Rattle.script_grammar.specs.Names.{is_name}
use Rattle.script_grammar.proofs.Data.{takes_text, again_text, takes_datum, again_datum}
use Rattle.script_grammar.specs.Shape.{Shape, nothing, a_number, a_name, a_literal, a_text, a_datum, after, before, parens, assigned, both, listed, maybe, choice, Value, literal_tokens, is_literal, comma_before, separated, spell, word_at, name_at, number_at, literal_at, equal_at, open_at, close_at, comma_at, or_else, more_at, many_at, read, FitsMore, FitsMany, Fits}

abbrev pub Tokens : Type 0
Tokens = List Token

pub bind_some : {A B : Type 0} (o : Option A) (f : A → Option B) (y : B) → (o >>= f) ≡ Some y → (x : A) × (o ≡ Some x) × (f x ≡ Some y)
bind_some (Some x) f y e = (x, refl, e)
bind_some None f y e = absurd cc

or_else_some : {A : Type 0} (o : Option Tokens) (f : Tokens → Option A) (d : Option A) (y : A) → or_else o f d ≡ Some y → ((r : Tokens) × (o ≡ Some r) × (f r ≡ Some y)) ⊎ ((o ≡ None) × (d ≡ Some y))
or_else_some (Some r) f d y e = inl (r, refl, e)
or_else_some None f d y e = inr (refl, e)

some_is : {A : Type 0} (x y : A) → Some x ≡ Some y → x ≡ y
some_is x y e = cc

guard_some : {A : Type 0} (b : Bool) (x y : A) → cond b (Some x) None ≡ Some y → (b ≡ true) × (x ≡ y)
guard_some true x y e = (refl, cc)
guard_some false x y e = absurd cc

word_is : (w : List ℕ) (ts r : Tokens) → word_at w ts ≡ Some r → ts ≡ Word w ∷ r
word_is w (Word v ∷ ts) r e =
    let g = guard_some (bytes_eq v w) ts r e in
    let same : v ≡ w = (bytes_eq-Decides v w).0 g.0 in
    ap (λ (u : List ℕ). Word u ∷ ts) same ∙ ap (λ (u : Tokens). Word w ∷ u) g.1
word_is w [] r e = absurd cc
word_is w (Number n ∷ ts) r e = absurd cc
word_is w (Text t ∷ ts) r e = absurd cc
word_is w (Symbol s ∷ ts) r e = absurd cc

word_again : (w : List ℕ) (ts : Tokens) → word_at w (Word w ∷ ts) ≡ Some ts
word_again w ts = rw ((bytes_eq-Decides w w).1 refl) refl

pub open_is : (ts r : Tokens) → open_at ts ≡ Some r → ts ≡ Symbol Open ∷ r
open_is (Symbol Open ∷ ts) r e = cc
open_is (Symbol Close ∷ ts) r e = absurd cc
open_is (Symbol Comma ∷ ts) r e = absurd cc
open_is (Symbol Equal ∷ ts) r e = absurd cc
open_is (Symbol NotEqual ∷ ts) r e = absurd cc
open_is (Symbol Less ∷ ts) r e = absurd cc
open_is (Symbol AtMost ∷ ts) r e = absurd cc
open_is (Symbol Greater ∷ ts) r e = absurd cc
open_is (Symbol AtLeast ∷ ts) r e = absurd cc
open_is (Symbol Plus ∷ ts) r e = absurd cc
open_is (Symbol Minus ∷ ts) r e = absurd cc
open_is (Symbol Star ∷ ts) r e = absurd cc
open_is (Symbol Dot ∷ ts) r e = absurd cc
open_is [] r e = absurd cc
open_is (Word w ∷ ts) r e = absurd cc
open_is (Number n ∷ ts) r e = absurd cc
open_is (Text t ∷ ts) r e = absurd cc

pub close_is : (ts r : Tokens) → close_at ts ≡ Some r → ts ≡ Symbol Close ∷ r
close_is (Symbol Close ∷ ts) r e = cc
close_is (Symbol Open ∷ ts) r e = absurd cc
close_is (Symbol Comma ∷ ts) r e = absurd cc
close_is (Symbol Equal ∷ ts) r e = absurd cc
close_is (Symbol NotEqual ∷ ts) r e = absurd cc
close_is (Symbol Less ∷ ts) r e = absurd cc
close_is (Symbol AtMost ∷ ts) r e = absurd cc
close_is (Symbol Greater ∷ ts) r e = absurd cc
close_is (Symbol AtLeast ∷ ts) r e = absurd cc
close_is (Symbol Plus ∷ ts) r e = absurd cc
close_is (Symbol Minus ∷ ts) r e = absurd cc
close_is (Symbol Star ∷ ts) r e = absurd cc
close_is (Symbol Dot ∷ ts) r e = absurd cc
close_is [] r e = absurd cc
close_is (Word w ∷ ts) r e = absurd cc
close_is (Number n ∷ ts) r e = absurd cc
close_is (Text t ∷ ts) r e = absurd cc

pub comma_is : (ts r : Tokens) → comma_at ts ≡ Some r → ts ≡ Symbol Comma ∷ r
comma_is (Symbol Comma ∷ ts) r e = cc
comma_is (Symbol Open ∷ ts) r e = absurd cc
comma_is (Symbol Close ∷ ts) r e = absurd cc
comma_is (Symbol Equal ∷ ts) r e = absurd cc
comma_is (Symbol NotEqual ∷ ts) r e = absurd cc
comma_is (Symbol Less ∷ ts) r e = absurd cc
comma_is (Symbol AtMost ∷ ts) r e = absurd cc
comma_is (Symbol Greater ∷ ts) r e = absurd cc
comma_is (Symbol AtLeast ∷ ts) r e = absurd cc
comma_is (Symbol Plus ∷ ts) r e = absurd cc
comma_is (Symbol Minus ∷ ts) r e = absurd cc
comma_is (Symbol Star ∷ ts) r e = absurd cc
comma_is (Symbol Dot ∷ ts) r e = absurd cc
comma_is [] r e = absurd cc
comma_is (Word w ∷ ts) r e = absurd cc
comma_is (Number n ∷ ts) r e = absurd cc
comma_is (Text t ∷ ts) r e = absurd cc

equal_is : (ts r : Tokens) → equal_at ts ≡ Some r → ts ≡ Symbol Equal ∷ r
equal_is (Symbol Equal ∷ ts) r e = cc
equal_is (Symbol Open ∷ ts) r e = absurd cc
equal_is (Symbol Close ∷ ts) r e = absurd cc
equal_is (Symbol Comma ∷ ts) r e = absurd cc
equal_is (Symbol NotEqual ∷ ts) r e = absurd cc
equal_is (Symbol Less ∷ ts) r e = absurd cc
equal_is (Symbol AtMost ∷ ts) r e = absurd cc
equal_is (Symbol Greater ∷ ts) r e = absurd cc
equal_is (Symbol AtLeast ∷ ts) r e = absurd cc
equal_is (Symbol Plus ∷ ts) r e = absurd cc
equal_is (Symbol Minus ∷ ts) r e = absurd cc
equal_is (Symbol Star ∷ ts) r e = absurd cc
equal_is (Symbol Dot ∷ ts) r e = absurd cc
equal_is [] r e = absurd cc
equal_is (Word w ∷ ts) r e = absurd cc
equal_is (Number n ∷ ts) r e = absurd cc
equal_is (Text t ∷ ts) r e = absurd cc

-- ---- items behind commas

pub record Law {A : Type 0} (f : Tokens → Option (A × Tokens)) (g : A → Tokens) (fit : A → Tokens → Type 0) : Type 0 where
  pub takes : (ts : Tokens) (x : A × Tokens) → f ts ≡ Some x → (ts ≡ g x.0 ++ x.1) × fit x.0 x.1
  pub again : (v : A) (rest : Tokens) → fit v rest → f (g v ++ rest) ≡ Some (v, rest)

module _ {A : Type 0} (f : Tokens → Option (A × Tokens)) (g : A → Tokens) (fit : A → Tokens → Type 0) (law : Law f g fit) where
  more_takes : (fuel : ℕ) (ts : Tokens) (x : List A × Tokens) → more_at f fuel ts ≡ Some x → (ts ≡ comma_before g x.0 ++ x.1) × FitsMore g fit x.0 x.1
  unfolding more_at
  more_takes zero ts x e =
      elim (or_else_some (comma_at ts) (λ r. None) (Some ([], ts)) x e) [
        | inl h ↦ absurd (let k = h.2 in cc)
        | inr h ↦ subst (λ (y : List A × Tokens). (ts ≡ comma_before g y.0 ++ y.1) × FitsMore g fit y.0 y.1) (some_is ([], ts) x h.1) (refl, h.0)
      ]
  more_takes (suc fuel) ts x e =
      elim (or_else_some (comma_at ts) (λ r. f r >>= λ y. more_at f fuel y.1 >>= λ ys. Some (y.0 ∷ ys.0, ys.1)) (Some ([], ts)) x e) [
        | inl h ↦
            let a = bind_some (f h.0) (λ y. more_at f fuel y.1 >>= λ ys. Some (y.0 ∷ ys.0, ys.1)) x h.2 in
            let b = bind_some (more_at f fuel a.0.1) (λ ys. Some (a.0.0 ∷ ys.0, ys.1)) x a.2 in
            let one = law.takes h.0 a.0 a.1 in
            let others = more_takes fuel a.0.1 b.0 b.1 in
            let whole : ts ≡ Symbol Comma ∷ ((g a.0.0 ++ comma_before g b.0.0) ++ b.0.1) = comma_is ts h.0 h.1 ∙ ap (λ (u : Tokens). Symbol Comma ∷ u) (one.0 ∙ ap (λ (u : Tokens). g a.0.0 ++ u) others.0 ∙ sym (append_assoc (g a.0.0) (comma_before g b.0.0) b.0.1)) in
            subst (λ (y : List A × Tokens). (ts ≡ comma_before g y.0 ++ y.1) × FitsMore g fit y.0 y.1) (some_is (a.0.0 ∷ b.0.0, b.0.1) x b.2) (whole, (subst (fit a.0.0) others.0 one.1, others.1))
        | inr h ↦ subst (λ (y : List A × Tokens). (ts ≡ comma_before g y.0 ++ y.1) × FitsMore g fit y.0 y.1) (some_is ([], ts) x h.1) (refl, h.0)
      ]

  many_takes : (ts : Tokens) (x : List A × Tokens) → many_at f ts ≡ Some x → (ts ≡ separated g x.0 ++ x.1) × FitsMany g fit x.0 x.1
  unfolding many_at
  many_takes ts x e =
      let a = bind_some (f ts) (λ y. more_at f (length ts) y.1 >>= λ ys. Some (y.0 ∷ ys.0, ys.1)) x e in
      let b = bind_some (more_at f (length ts) a.0.1) (λ ys. Some (a.0.0 ∷ ys.0, ys.1)) x a.2 in
      let one = law.takes ts a.0 a.1 in
      let others = more_takes (length ts) a.0.1 b.0 b.1 in
      let whole : ts ≡ (g a.0.0 ++ comma_before g b.0.0) ++ b.0.1 = one.0 ∙ ap (λ (u : Tokens). g a.0.0 ++ u) others.0 ∙ sym (append_assoc (g a.0.0) (comma_before g b.0.0) b.0.1) in
      subst (λ (y : List A × Tokens). (ts ≡ separated g y.0 ++ y.1) × FitsMany g fit y.0 y.1) (some_is (a.0.0 ∷ b.0.0, b.0.1) x b.2) (whole, (subst (fit a.0.0) others.0 one.1, others.1))

  more_again : (fuel : ℕ) (vs : List A) (rest : Tokens) → length vs ≤ fuel → FitsMore g fit vs rest → more_at f fuel (comma_before g vs ++ rest) ≡ Some (vs, rest)
  unfolding more_at
  more_again zero [] rest le h = rw h refl
  more_again (suc fuel) [] rest le h = rw h refl
  more_again zero (v ∷ vs) rest le h = absurd (omega arith)
  more_again (suc fuel) (v ∷ vs) rest le h = rw (append_assoc (g v) (comma_before g vs) rest, law.again v (comma_before g vs ++ rest) h.0, more_again fuel vs rest (omega arith) h.1) refl

  length-comma_before : (vs : List A) → length vs ≤ length (comma_before g vs)
  length-comma_before [] = omega arith
  length-comma_before (v ∷ vs) = omega (arith, length-comma_before vs, length-append (g v) (comma_before g vs))

  many_again : (vs : List A) (rest : Tokens) → FitsMany g fit vs rest → many_at f (separated g vs ++ rest) ≡ Some (vs, rest)
  unfolding many_at
  many_again [] rest h = absurd h
  many_again (v ∷ vs) rest h =
      let room : length vs ≤ length (g v ++ (comma_before g vs ++ rest)) = omega (arith, length-comma_before vs, length-append (comma_before g vs) rest, length-append (g v) (comma_before g vs ++ rest)) in
      rw (append_assoc (g v) (comma_before g vs) rest, law.again v (comma_before g vs ++ rest) h.0, more_again (length (g v ++ (comma_before g vs ++ rest))) vs rest room h.1) refl

  pub after_law : (w : List ℕ) → Law {A = A} (λ ts. word_at w ts >>= λ r. f r) (λ v. Word w ∷ g v) fit
  after_law w = record {
    takes = λ ts x e.
        let a = bind_some (word_at w ts) (λ r. f r) x e in
        let one = law.takes a.0 x a.2 in
        (word_is w ts a.0 a.1 ∙ ap (λ (u : Tokens). Word w ∷ u) one.0, one.1);
    again = λ v rest h. rw (word_again w (g v ++ rest)) (law.again v rest h);
  }

  pub before_law : (w : List ℕ) → Law {A = A} (λ ts. f ts >>= λ x. word_at w x.1 >>= λ r. Some (x.0, r)) (λ v. g v ++ Word w ∷ []) (λ v rest. fit v (Word w ∷ rest))
  before_law w = record {
    takes = λ ts x e.
        let a = bind_some (f ts) (λ x. word_at w x.1 >>= λ r. Some (x.0, r)) x e in
        let b = bind_some (word_at w a.0.1) (λ r. Some (a.0.0, r)) x a.2 in
        let one = law.takes ts a.0 a.1 in
        let two : a.0.1 ≡ Word w ∷ b.0 = word_is w a.0.1 b.0 b.1 in
        let whole : ts ≡ (g a.0.0 ++ Word w ∷ []) ++ b.0 = one.0 ∙ ap (λ (u : Tokens). g a.0.0 ++ u) two ∙ sym (append_assoc (g a.0.0) (Word w ∷ []) b.0) in
        subst (λ (y : A × Tokens). (ts ≡ (g y.0 ++ Word w ∷ []) ++ y.1) × fit y.0 (Word w ∷ y.1)) (some_is (a.0.0, b.0) x b.2) (whole, subst (fit a.0.0) two one.1);
    again = λ v rest h. rw (append_assoc (g v) (Word w ∷ []) rest, law.again v (Word w ∷ rest) h, word_again w rest) refl;
  }

  pub parens_law : Law {A = A} (λ ts. open_at ts >>= λ r. f r >>= λ x. close_at x.1 >>= λ q. Some (x.0, q)) (λ v. Symbol Open ∷ (g v ++ Symbol Close ∷ [])) (λ v rest. fit v (Symbol Close ∷ rest))
  parens_law = record {
    takes = λ ts x e.
        let o = bind_some (open_at ts) (λ r. f r >>= λ x. close_at x.1 >>= λ q. Some (x.0, q)) x e in
        let a = bind_some (f o.0) (λ x. close_at x.1 >>= λ q. Some (x.0, q)) x o.2 in
        let b = bind_some (close_at a.0.1) (λ r. Some (a.0.0, r)) x a.2 in
        let one = law.takes o.0 a.0 a.1 in
        let two : a.0.1 ≡ Symbol Close ∷ b.0 = close_is a.0.1 b.0 b.1 in
        let inner : o.0 ≡ (g a.0.0 ++ Symbol Close ∷ []) ++ b.0 = one.0 ∙ ap (λ (u : Tokens). g a.0.0 ++ u) two ∙ sym (append_assoc (g a.0.0) (Symbol Close ∷ []) b.0) in
        let whole : ts ≡ Symbol Open ∷ ((g a.0.0 ++ Symbol Close ∷ []) ++ b.0) = open_is ts o.0 o.1 ∙ ap (λ (u : Tokens). Symbol Open ∷ u) inner in
        subst (λ (y : A × Tokens). (ts ≡ Symbol Open ∷ ((g y.0 ++ Symbol Close ∷ []) ++ y.1)) × fit y.0 (Symbol Close ∷ y.1)) (some_is (a.0.0, b.0) x b.2) (whole, subst (fit a.0.0) two one.1);
    again = λ v rest h. rw (append_assoc (g v) (Symbol Close ∷ []) rest, law.again v (Symbol Close ∷ rest) h) refl;
  }

  pub assigned_law : Law {A = A} (λ ts. equal_at ts >>= λ r. f r) (λ v. Symbol Equal ∷ g v) fit
  assigned_law = record {
    takes = λ ts x e.
        let a = bind_some (equal_at ts) (λ r. f r) x e in
        let one = law.takes a.0 x a.2 in
        (equal_is ts a.0 a.1 ∙ ap (λ (u : Tokens). Symbol Equal ∷ u) one.0, one.1);
    again = λ v rest h. law.again v rest h;
  }

  pub many_law : Law {A = List A} (many_at f) (separated g) (FitsMany g fit)
  many_law = record { takes = many_takes; again = many_again }

module _ {A : Type 0} (f : Tokens → Option (A × Tokens)) (g : A → Tokens) (fit : A → Tokens → Type 0) (law : Law f g fit) {B : Type 0} (f2 : Tokens → Option (B × Tokens)) (g2 : B → Tokens) (fit2 : B → Tokens → Type 0) (law2 : Law f2 g2 fit2) where
  pub both_law : Law {A = A × B} (λ ts. f ts >>= λ x. f2 x.1 >>= λ y. Some ((x.0, y.0), y.1)) (λ v. g v.0 ++ g2 v.1) (λ v rest. fit v.0 (g2 v.1 ++ rest) × fit2 v.1 rest)
  both_law = record {
    takes = λ ts x e.
        let a = bind_some (f ts) (λ x. f2 x.1 >>= λ y. Some ((x.0, y.0), y.1)) x e in
        let b = bind_some (f2 a.0.1) (λ y. Some ((a.0.0, y.0), y.1)) x a.2 in
        let one = law.takes ts a.0 a.1 in
        let two = law2.takes a.0.1 b.0 b.1 in
        let whole : ts ≡ (g a.0.0 ++ g2 b.0.0) ++ b.0.1 = one.0 ∙ ap (λ (u : Tokens). g a.0.0 ++ u) two.0 ∙ sym (append_assoc (g a.0.0) (g2 b.0.0) b.0.1) in
        subst (λ (y : (A × B) × Tokens). (ts ≡ (g y.0.0 ++ g2 y.0.1) ++ y.1) × (fit y.0.0 (g2 y.0.1 ++ y.1) × fit2 y.0.1 y.1)) (some_is ((a.0.0, b.0.0), b.0.1) x b.2) (whole, (subst (fit a.0.0) two.0 one.1, two.1));
    again = λ v rest h. rw (append_assoc (g v.0) (g2 v.1) rest, law.again v.0 (g2 v.1 ++ rest) h.0, law2.again v.1 rest h.1) refl;
  }

takes_maybe : (w : List ℕ) (s : Shape) (law : Law (read s) (spell s) (Fits s)) (ts : Tokens) (x : Option (Value s) × Tokens) → read (maybe w s) ts ≡ Some x → (ts ≡ spell (maybe w s) x.0 ++ x.1) × Fits (maybe w s) x.0 x.1
takes_maybe w s law ts x e =
    elim (or_else_some (word_at w ts) (λ r. read s r >>= λ x. Some (Some x.0, x.1)) (Some (None, ts)) x e) [
      | inl h ↦
          let a = bind_some (read s h.0) (λ x. Some (Some x.0, x.1)) x h.2 in
          let one = law.takes h.0 a.0 a.1 in
          subst (λ (y : Option (Value s) × Tokens). (ts ≡ spell (maybe w s) y.0 ++ y.1) × Fits (maybe w s) y.0 y.1) (some_is (Some a.0.0, a.0.1) x a.2) (word_is w ts h.0 h.1 ∙ ap (λ (u : Tokens). Word w ∷ u) one.0, one.1)
      | inr h ↦ subst (λ (y : Option (Value s) × Tokens). (ts ≡ spell (maybe w s) y.0 ++ y.1) × Fits (maybe w s) y.0 y.1) (some_is (None, ts) x h.1) (refl, h.0)
    ]

again_maybe : (w : List ℕ) (s : Shape) (law : Law (read s) (spell s) (Fits s)) (v : Option (Value s)) (rest : Tokens) → Fits (maybe w s) v rest → read (maybe w s) (spell (maybe w s) v ++ rest) ≡ Some (v, rest)
again_maybe w s law None rest h = rw h refl
again_maybe w s law (Some v) rest h = rw (word_again w (spell s v ++ rest), law.again v rest h) refl

takes_choice : (w : List ℕ) (s t : Shape) (law : Law (read s) (spell s) (Fits s)) (law2 : Law (read t) (spell t) (Fits t)) (ts : Tokens) (x : (Value s ⊎ Value t) × Tokens) → read (choice w s t) ts ≡ Some x → (ts ≡ spell (choice w s t) x.0 ++ x.1) × Fits (choice w s t) x.0 x.1
takes_choice w s t law law2 ts x e =
    elim (or_else_some (word_at w ts) (λ r. read s r >>= λ x. Some (inl x.0, x.1)) (read t ts >>= λ x. Some (inr x.0, x.1)) x e) [
      | inl h ↦
          let a = bind_some (read s h.0) (λ x. Some (inl x.0, x.1)) x h.2 in
          let one = law.takes h.0 a.0 a.1 in
          subst (λ (y : (Value s ⊎ Value t) × Tokens). (ts ≡ spell (choice w s t) y.0 ++ y.1) × Fits (choice w s t) y.0 y.1) (some_is (inl a.0.0, a.0.1) x a.2) (word_is w ts h.0 h.1 ∙ ap (λ (u : Tokens). Word w ∷ u) one.0, one.1)
      | inr h ↦
          let a = bind_some (read t ts) (λ x. Some (inr x.0, x.1)) x h.1 in
          let one = law2.takes ts a.0 a.1 in
          subst (λ (y : (Value s ⊎ Value t) × Tokens). (ts ≡ spell (choice w s t) y.0 ++ y.1) × Fits (choice w s t) y.0 y.1) (some_is (inr a.0.0, a.0.1) x a.2) (one.0, (subst (λ (u : Tokens). word_at w u ≡ None) one.0 h.0, one.1))
    ]

again_choice : (w : List ℕ) (s t : Shape) (law : Law (read s) (spell s) (Fits s)) (law2 : Law (read t) (spell t) (Fits t)) (v : Value s ⊎ Value t) (rest : Tokens) → Fits (choice w s t) v rest → read (choice w s t) (spell (choice w s t) v ++ rest) ≡ Some (v, rest)
again_choice w s t law law2 (inl v) rest h = rw (word_again w (spell s v ++ rest), law.again v rest h) refl
again_choice w s t law law2 (inr v) rest h = rw (h.0, law2.again v rest h.1) refl

takes_number : (ts : Tokens) (x : ℤ × Tokens) → number_at ts ≡ Some x → (ts ≡ Number x.0 ∷ x.1) × Unit {0}
takes_number (Number n ∷ ts) x e = (ap (λ (y : ℤ × Tokens). Number y.0 ∷ y.1) (some_is (n, ts) x e), tt)
takes_number [] x e = absurd cc
takes_number (Word n ∷ ts) x e = absurd cc
takes_number (Text t ∷ ts) x e = absurd cc
takes_number (Symbol s ∷ ts) x e = absurd cc

takes_literal : (ts : Tokens) (x : Datum × Tokens) → literal_at ts ≡ Some x → (ts ≡ literal_tokens x.0 ++ x.1) × (is_literal x.0 ≡ true)
takes_literal (Number n ∷ ts) x e = subst (λ (y : Datum × Tokens). (Number n ∷ ts ≡ literal_tokens y.0 ++ y.1) × (is_literal y.0 ≡ true)) (some_is (datum.Long n, ts) x e) (refl, refl)
takes_literal [] x e = absurd cc
takes_literal (Word n ∷ ts) x e = absurd cc
takes_literal (Text t ∷ ts) x e = absurd cc
takes_literal (Symbol s ∷ ts) x e = absurd cc

again_literal : (d : Datum) (rest : Tokens) → is_literal d ≡ true → literal_at (literal_tokens d ++ rest) ≡ Some (d, rest)
again_literal (datum.Long n) rest h = refl
again_literal datum.Null rest h = absurd cc
again_literal (datum.Integer n) rest h = absurd cc
again_literal (datum.Boolean b) rest h = absurd cc
again_literal (datum.Text t) rest h = absurd cc
again_literal (datum.Date d) rest h = absurd cc

takes_name : (ts : Tokens) (x : List ℕ × Tokens) → name_at ts ≡ Some x → (ts ≡ Word x.0 ∷ x.1) × (is_name x.0 ≡ true)
takes_name (Word n ∷ ts) x e = let h = guard_some (is_name n) (n, ts) x e in subst (λ (y : List ℕ × Tokens). (Word n ∷ ts ≡ Word y.0 ∷ y.1) × (is_name y.0 ≡ true)) h.1 (refl, h.0)
takes_name [] x e = absurd cc
takes_name (Number n ∷ ts) x e = absurd cc
takes_name (Text t ∷ ts) x e = absurd cc
takes_name (Symbol s ∷ ts) x e = absurd cc

-- reading a shape is the inverse of spelling it
pub law : (s : Shape) → Law (read s) (spell s) (Fits s)
law nothing = record { takes = λ ts x e. (ap (λ (y : Unit {0} × Tokens). y.1) (some_is (tt, ts) x e), tt); again = λ v rest h. refl }
law a_number = record { takes = takes_number; again = λ v rest h. refl }
law a_name = record { takes = takes_name; again = λ v rest h. rw h refl }
law a_literal = record { takes = takes_literal; again = again_literal }
law a_text = record { takes = takes_text; again = again_text }
law a_datum = record { takes = takes_datum; again = again_datum }
law (after w s) = after_law (read s) (spell s) (Fits s) (law s) w
law (before s w) = before_law (read s) (spell s) (Fits s) (law s) w
law (parens s) = parens_law (read s) (spell s) (Fits s) (law s)
law (assigned s) = assigned_law (read s) (spell s) (Fits s) (law s)
law (both s t) = both_law (read s) (spell s) (Fits s) (law s) (read t) (spell t) (Fits t) (law t)
law (listed s) = many_law (read s) (spell s) (Fits s) (law s)
law (maybe w s) = record { takes = takes_maybe w s (law s); again = again_maybe w s (law s) }
law (choice w s t) = record { takes = takes_choice w s t (law s) (law t); again = again_choice w s t (law s) (law t) }

pub not_longer : (s : Shape) (ts : Tokens) (x : Value s × Tokens) → read s ts ≡ Some x → length x.1 ≤ length ts
not_longer s ts x e = omega (arith, ap length ((law s).takes ts x e).0, length-append (spell s x.0) x.1)
