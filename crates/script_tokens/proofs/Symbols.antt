-- Symbols.
use Rattle.std.proofs.Common.{◌≡◌, ℕ, ◌<◌, Bool, true, false, cond, List, [], ◌∷◌, ◌++◌, length, Some, None, refl, sym, ap, subst, arith, inl, inr}
use Rattle.std.specs.Prelude.{◌==◌, ◌||◌, ◌&&◌}
use Rattle.std.proofs.lemmas.Bool.{eqb-true}
use Rattle.script_tokens.specs.declared.token.Token.TheVariants.{Symbol}
use Rattle.script_tokens.specs.declared.token.Symbol.{Symbol as SymbolValue}
use Rattle.script_tokens.specs.declared.token.Symbol.TheVariants.{Open, Close, Comma, Equal, NotEqual, Less, AtMost, Greater, AtLeast, Plus, Minus, Star, Dot}
use Rattle.script_tokens.specs.Tokens.{symbol_text, goes_on, is_sign, is_minus}
use Rattle.script_tokens.specs.Reading.{less_at, greater_at, single, symbol_at, token_at, starts_space}
use Rattle.script_tokens.proofs.Runs.{some_is, bind_some, cond_some, or_false}

pub symbol_again : (value : Bool) (s : SymbolValue) (rest : List ℕ) → goes_on s rest ≡ false → (is_minus s && is_sign value rest) ≡ false → token_at value (symbol_text s ++ rest) ≡ Some (Symbol s, rest)
unfolding token_at symbol_at
symbol_again value Open rest g m = refl
symbol_again value Close rest g m = refl
symbol_again value Comma rest g m = refl
symbol_again value Equal rest g m = refl
symbol_again value NotEqual rest g m = refl
symbol_again value Less [] g m = refl
symbol_again value Less (b ∷ bs) g m = rw ((or_false (b == 61) (b == 62) g).0, (or_false (b == 61) (b == 62) g).1) refl
symbol_again value AtMost rest g m = refl
symbol_again value Greater [] g m = refl
symbol_again value Greater (b ∷ bs) g m = rw g refl
symbol_again value AtLeast rest g m = refl
symbol_again value Plus rest g m = refl
symbol_again value Minus rest g m = rw m refl
symbol_again value Star rest g m = refl
symbol_again value Dot rest g m = refl

pub symbol_starts : (s : SymbolValue) (rest : List ℕ) → (starts_space (symbol_text s ++ rest) ≡ false) × (0 < length (symbol_text s))
symbol_starts Open rest = (refl, omega arith)
symbol_starts Close rest = (refl, omega arith)
symbol_starts Comma rest = (refl, omega arith)
symbol_starts Equal rest = (refl, omega arith)
symbol_starts NotEqual rest = (refl, omega arith)
symbol_starts Less rest = (refl, omega arith)
symbol_starts AtMost rest = (refl, omega arith)
symbol_starts Greater rest = (refl, omega arith)
symbol_starts AtLeast rest = (refl, omega arith)
symbol_starts Plus rest = (refl, omega arith)
symbol_starts Minus rest = (refl, omega arith)
symbol_starts Star rest = (refl, omega arith)
symbol_starts Dot rest = (refl, omega arith)

-- ---- what is read is spelled so

pub record Longest (bs : List ℕ) (s : SymbolValue) (rest : List ℕ) : Type 0 where
  pub parts : bs ≡ symbol_text s ++ rest
  pub longest : goes_on s rest ≡ false

longest_at : (c : ℕ) (bs : List ℕ) (x y : SymbolValue × List ℕ) → Longest (c ∷ bs) x.0 x.1 → Some x ≡ Some y → Longest (c ∷ bs) y.0 y.1
longest_at c bs x y h e = subst (λ (z : SymbolValue × List ℕ). Longest (c ∷ bs) z.0 z.1) (some_is x y e) h

neither : (x y : Bool) → x ≡ false → y ≡ false → (x || y) ≡ false
neither x y h k = rw (h, k) refl

less_is : (bs : List ℕ) → Longest (60 ∷ bs) (less_at bs).0 (less_at bs).1
less_is [] = record { parts = refl; longest = refl }
less_is (b ∷ bs) = by_second (b == 61) (b == 62) refl refl
  where
    by_second : (x y : Bool) → (b == 61) ≡ x → (b == 62) ≡ y → Longest (60 ∷ b ∷ bs) (cond {A = SymbolValue × List ℕ} x (AtMost, bs) (cond {A = SymbolValue × List ℕ} y (NotEqual, bs) (Less, b ∷ bs))).0 (cond {A = SymbolValue × List ℕ} x (AtMost, bs) (cond {A = SymbolValue × List ℕ} y (NotEqual, bs) (Less, b ∷ bs))).1
    by_second true y e f = record { parts = ap (λ (c : ℕ). 60 ∷ c ∷ bs) (eqb-true _ _ e); longest = refl }
    by_second false true e f = record { parts = ap (λ (c : ℕ). 60 ∷ c ∷ bs) (eqb-true _ _ f); longest = refl }
    by_second false false e f = record { parts = refl; longest = neither (b == 61) (b == 62) e f }

greater_is : (bs : List ℕ) → Longest (62 ∷ bs) (greater_at bs).0 (greater_at bs).1
greater_is [] = record { parts = refl; longest = refl }
greater_is (b ∷ bs) = by_second (b == 61) refl
  where
    by_second : (x : Bool) → (b == 61) ≡ x → Longest (62 ∷ b ∷ bs) (cond {A = SymbolValue × List ℕ} x (AtLeast, bs) (Greater, b ∷ bs)).0 (cond {A = SymbolValue × List ℕ} x (AtLeast, bs) (Greater, b ∷ bs)).1
    by_second true e = record { parts = ap (λ (c : ℕ). 62 ∷ c ∷ bs) (eqb-true _ _ e); longest = refl }
    by_second false e = record { parts = refl; longest = e }

one : (c b : ℕ) (bs : List ℕ) (s t : SymbolValue) → (b == c) ≡ true → symbol_text s ≡ c ∷ [] → ((rest : List ℕ) → goes_on s rest ≡ false) → Some s ≡ Some t → Longest (b ∷ bs) t bs
one c b bs s t e text never h =
    let same : b ∷ bs ≡ symbol_text s ++ bs = rw text (ap (λ (d : ℕ). d ∷ bs) (eqb-true b c e)) in
    subst (λ (u : SymbolValue). Longest (b ∷ bs) u bs) (some_is s t h) (record { parts = same; longest = never bs })

single_is : (b : ℕ) (bs : List ℕ) (s : SymbolValue) → single b ≡ Some s → Longest (b ∷ bs) s bs
single_is b bs s h =
    elim (cond_some (b == 40) (Some Open) _ s h) [
      | inl k ↦ one 40 b bs Open s k.0 refl (λ rest. refl) k.1
      | inr h ↦ elim (cond_some (b == 41) (Some Close) _ s h.1) [
        | inl k ↦ one 41 b bs Close s k.0 refl (λ rest. refl) k.1
        | inr h ↦ elim (cond_some (b == 44) (Some Comma) _ s h.1) [
          | inl k ↦ one 44 b bs Comma s k.0 refl (λ rest. refl) k.1
          | inr h ↦ elim (cond_some (b == 61) (Some Equal) _ s h.1) [
            | inl k ↦ one 61 b bs Equal s k.0 refl (λ rest. refl) k.1
            | inr h ↦ elim (cond_some (b == 43) (Some Plus) _ s h.1) [
              | inl k ↦ one 43 b bs Plus s k.0 refl (λ rest. refl) k.1
              | inr h ↦ elim (cond_some (b == 45) (Some Minus) _ s h.1) [
                | inl k ↦ one 45 b bs Minus s k.0 refl (λ rest. refl) k.1
                | inr h ↦ elim (cond_some (b == 42) (Some Star) _ s h.1) [
                  | inl k ↦ one 42 b bs Star s k.0 refl (λ rest. refl) k.1
                  | inr h ↦ elim (cond_some (b == 46) (Some Dot) None s h.1) [
                    | inl k ↦ one 46 b bs Dot s k.0 refl (λ rest. refl) k.1
                    | inr h ↦ absurd (let k = h.1 in cc)
                  ]
                ]
              ]
            ]
          ]
        ]
      ]
    ]

pub symbol_is : (bs : List ℕ) (x : SymbolValue × List ℕ) → symbol_at bs ≡ Some x → Longest bs x.0 x.1
unfolding symbol_at
symbol_is [] x h = absurd cc
symbol_is (b ∷ bs) x h =
    elim (cond_some (b == 60) (Some (less_at bs)) _ x h) [
      | inl k ↦ subst (λ (c : ℕ). Longest (c ∷ bs) x.0 x.1) (sym (eqb-true _ _ k.0)) (longest_at 60 bs (less_at bs) x (less_is bs) k.1)
      | inr h ↦ elim (cond_some (b == 62) (Some (greater_at bs)) _ x h.1) [
        | inl k ↦ subst (λ (c : ℕ). Longest (c ∷ bs) x.0 x.1) (sym (eqb-true _ _ k.0)) (longest_at 62 bs (greater_at bs) x (greater_is bs) k.1)
        | inr h ↦
            let a = bind_some (single b) (λ s. Some (s, bs)) x h.1 in
            subst (λ (z : SymbolValue × List ℕ). Longest (b ∷ bs) z.0 z.1) (some_is (a.0, bs) x a.2) (single_is b bs a.0 a.1)
      ]
    ]

-- a minus that the symbol's text begins with is the byte 45
pub is_minus_starts : (s : SymbolValue) (rest : List ℕ) (b : ℕ) (bs : List ℕ) → b ∷ bs ≡ symbol_text s ++ rest → is_minus s ≡ true → (b ≡ 45) × (bs ≡ rest)
is_minus_starts Minus rest b bs e m = (cc, cc)
is_minus_starts Open rest b bs e m = absurd cc
is_minus_starts Close rest b bs e m = absurd cc
is_minus_starts Comma rest b bs e m = absurd cc
is_minus_starts Equal rest b bs e m = absurd cc
is_minus_starts NotEqual rest b bs e m = absurd cc
is_minus_starts Less rest b bs e m = absurd cc
is_minus_starts AtMost rest b bs e m = absurd cc
is_minus_starts Greater rest b bs e m = absurd cc
is_minus_starts AtLeast rest b bs e m = absurd cc
is_minus_starts Plus rest b bs e m = absurd cc
is_minus_starts Star rest b bs e m = absurd cc
is_minus_starts Dot rest b bs e m = absurd cc
