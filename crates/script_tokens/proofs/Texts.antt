-- Reading a text is the inverse of spelling it.
use Rattle.std.proofs.Common.{◌≡◌, ℕ, zero, suc, ◌+◌, ◌*◌, ◌≤◌, true, false, cond, List, [], ◌∷◌, ◌++◌, length, take, drop, Option, Some, None, refl, sym, ap, subst, ◌∙◌, append_assoc, arith, inl, inr}
use Rattle.std.specs.List.{prefix_len}
use Rattle.std.specs.Prelude.{◌==◌}
use Rattle.std.proofs.lemmas.List.{append-nil}
use Rattle.std.proofs.lemmas.Bool.{eqb-true}
use Rattle.script_tokens.specs.Words.{is_boundary}
use Rattle.row_base.specs.Readings.{◌>>=◌}
use Rattle.script_tokens.specs.Quoted.{body, plain, quoted, slashed, hex, low, Mode, put, is_plain, digit_of, high_of, SpellsInside, nothing, itself, two_quotes, two_backslashes, code, begins_quote}
use Rattle.script_tokens.specs.Text.{InsideOf}
use Rattle.script_tokens.proofs.Runs.{some_is, bind_some, cond_some, Bool_tells, one_add, or_false, not_true}

abbrev pub with_front : List ℕ → Option (List ℕ × List ℕ) → Option (List ℕ × List ℕ)
with_front front r = r >>= λ x. Some (front ++ x.0, x.1)

pub regroup : (front : List ℕ) (b : ℕ) (r : Option (List ℕ × List ℕ)) → with_front front (put b r) ≡ with_front (front ++ b ∷ []) r
regroup front b (Some x) = ap (λ (bs : List ℕ). Some (bs, x.1)) (simp append_assoc)
regroup front b None = refl

two_fronts : (front more : List ℕ) (r : Option (List ℕ × List ℕ)) → with_front front (with_front more r) ≡ with_front (front ++ more) r
two_fronts front more (Some x) = ap (λ (bs : List ℕ). Some (bs, x.1)) (simp append_assoc)
two_fronts front more None = refl

no_front : (r : Option (List ℕ × List ℕ)) → r ≡ with_front [] r
no_front (Some x) = refl
no_front None = refl

put_front : (b : ℕ) (front : List ℕ) (r : Option (List ℕ × List ℕ)) → put b (with_front front r) ≡ with_front (b ∷ front) r
put_front b front (Some x) = refl
put_front b front None = refl

pub front_end : (front rest : List ℕ) → with_front front (Some ([], rest)) ≡ Some (front, rest)
front_end front rest = ap (λ (bs : List ℕ). Some (bs, rest)) (append-nil front)

plain_parts : (b : ℕ) → is_plain b ≡ true → ((b == 39) ≡ false) × ((b == 92) ≡ false)
plain_parts b h = or_false (b == 39) (b == 92) (not_true _ h)

body_plain : (b : ℕ) (bs : List ℕ) → is_plain b ≡ true → body plain (b ∷ bs) ≡ put b (body plain bs)
unfolding body
body_plain b bs h = rw ((plain_parts b h).0, (plain_parts b h).1) refl

plain_run : (bs : List ℕ) → body plain bs ≡ with_front (take (prefix_len is_plain bs) bs) (body plain (drop (prefix_len is_plain bs) bs))
plain_run [] = no_front (body plain [])
plain_run (b ∷ bs) = elim (Bool_tells (is_plain b)) [
  | inl h ↦ rw (h, one_add (prefix_len is_plain bs)) (body_plain b bs h ∙ ap (put b) (plain_run bs) ∙ put_front b (take (prefix_len is_plain bs) bs) (body plain (drop (prefix_len is_plain bs) bs)))
  | inr h ↦ rw h (no_front (body plain (b ∷ bs)))
]

-- the bytes that stand for themselves are taken at once
pub run_taken : (items rest run end now : List ℕ) → run ≡ take (prefix_len is_plain rest) rest → end ≡ drop (prefix_len is_plain rest) rest → now ≡ items ++ run → with_front items (body plain rest) ≡ with_front now (body plain end)
run_taken items rest run end now r e n =
    rw (n, r, e) (ap (with_front items) (plain_run rest) ∙ two_fronts items (take (prefix_len is_plain rest) rest) (body plain (drop (prefix_len is_plain rest) rest)))

drop_shorter : (n : ℕ) (bs : List ℕ) → length (drop n bs) ≤ length bs
drop_shorter zero bs = omega arith
drop_shorter (suc n) [] = omega arith
drop_shorter (suc n) (b ∷ bs) = omega (arith, drop_shorter n bs)

pub run_shorter : (rest end : List ℕ) (n : ℕ) → end ≡ drop n rest → length end ≤ length rest
run_shorter rest end n e = rw e (drop_shorter n rest)

-- ---- what is spelled so is read

quote_ends : (rest : List ℕ) → begins_quote rest ≡ false → body quoted rest ≡ Some ([], rest)
unfolding body
quote_ends [] h = refl
quote_ends (b ∷ bs) h = rw h refl

pub inside_again : (t inner rest : List ℕ) → SpellsInside t inner → begins_quote rest ≡ false → body plain (inner ++ 39 ∷ rest) ≡ Some (t, rest)
unfolding body
inside_again _ _ rest nothing e = quote_ends rest e
inside_again _ _ rest (itself b t bs p s) e = body_plain b (bs ++ 39 ∷ rest) p ∙ ap (put b) (inside_again t bs rest s e)
inside_again _ _ rest (two_quotes t bs s) e = ap (put 39) (inside_again t bs rest s e)
inside_again _ _ rest (two_backslashes t bs s) e = ap (put 92) (inside_again t bs rest s e)
inside_again _ _ rest (code h l high digit t bs p q s) e = rw (p, q) (ap (put (high * 16 + digit)) (inside_again t bs rest s e))

-- ---- what is read is spelled so

-- the bytes with those of an escape that were passed before
abbrev Passed : Mode → List ℕ → List ℕ × List ℕ → Type 0
Passed plain bs x = InsideOf bs x.0 x.1
Passed quoted bs x = InsideOf (39 ∷ bs) x.0 x.1
Passed slashed bs x = InsideOf (92 ∷ bs) x.0 x.1
Passed hex bs x = InsideOf (92 ∷ 120 ∷ bs) x.0 x.1
Passed (low d) bs x = (h : ℕ) → high_of h ≡ Some d → InsideOf (92 ∷ 120 ∷ h ∷ bs) x.0 x.1

ended : (rest : List ℕ) (x : List ℕ × List ℕ) → begins_quote rest ≡ false → Some ([], rest) ≡ Some x → InsideOf (39 ∷ rest) x.0 x.1
ended rest x q e = subst (λ (y : List ℕ × List ℕ). InsideOf (39 ∷ rest) y.0 y.1) (some_is ([], rest) x e) (record { inner = []; parts = refl; spelled = nothing; ends = q })

-- one byte more of the text, for these bytes
longer : (b : ℕ) (spelling bs : List ℕ) (x : List ℕ × List ℕ) → ((t inner : List ℕ) → SpellsInside t inner → SpellsInside (b ∷ t) (spelling ++ inner)) → ((y : List ℕ × List ℕ) → body plain bs ≡ Some y → InsideOf bs y.0 y.1) → put b (body plain bs) ≡ Some x → InsideOf (spelling ++ bs) x.0 x.1
longer b spelling bs x rule more e =
    let a = bind_some (body plain bs) (λ y. Some (b ∷ y.0, y.1)) x e in
    let i = more a.0 a.1 in
    subst (λ (y : List ℕ × List ℕ). InsideOf (spelling ++ bs) y.0 y.1) (some_is (b ∷ a.0.0, a.0.1) x a.2) (record {
      inner = spelling ++ i.inner;
      parts = ap (λ (u : List ℕ). spelling ++ u) i.parts ∙ sym (append_assoc spelling i.inner (39 ∷ a.0.1));
      spelled = rule a.0.0 i.inner i.spelled;
      ends = i.ends;
    })

plain_is : (b : ℕ) → (b == 39) ≡ false → (b == 92) ≡ false → is_plain b ≡ true
plain_is b h k = rw (h, k) refl

pub passed : (m : Mode) (bs : List ℕ) (x : List ℕ × List ℕ) → body m bs ≡ Some x → Passed m bs x
unfolding body
passed plain [] x e = absurd cc
passed plain (b ∷ bs) x e =
    elim (cond_some (b == 39) (body quoted bs) (cond (b == 92) (body slashed bs) (put b (body plain bs))) x e) [
      | inl q ↦ subst (λ (c : ℕ). InsideOf (c ∷ bs) x.0 x.1) (sym (eqb-true _ _ q.0)) (passed quoted bs x q.1)
      | inr q ↦ elim (cond_some (b == 92) (body slashed bs) (put b (body plain bs)) x q.1) [
        | inl s ↦ subst (λ (c : ℕ). InsideOf (c ∷ bs) x.0 x.1) (sym (eqb-true _ _ s.0)) (passed slashed bs x s.1)
        | inr s ↦ longer b (b ∷ []) bs x (λ t inner k. itself b t inner (plain_is b q.0 s.0) k) (passed plain bs) s.1
      ]
    ]
passed quoted [] x e = ended [] x refl e
passed quoted (b ∷ bs) x e =
    elim (cond_some (b == 39) (put 39 (body plain bs)) (Some ([], b ∷ bs)) x e) [
      | inl q ↦ subst (λ (c : ℕ). InsideOf (39 ∷ c ∷ bs) x.0 x.1) (sym (eqb-true _ _ q.0)) (longer 39 (39 ∷ 39 ∷ []) bs x two_quotes (passed plain bs) q.1)
      | inr q ↦ ended (b ∷ bs) x q.0 q.1
    ]
passed slashed [] x e = absurd cc
passed slashed (b ∷ bs) x e =
    elim (cond_some (b == 92) (put 92 (body plain bs)) (cond (b == 120) (body hex bs) None) x e) [
      | inl q ↦ subst (λ (c : ℕ). InsideOf (92 ∷ c ∷ bs) x.0 x.1) (sym (eqb-true _ _ q.0)) (longer 92 (92 ∷ 92 ∷ []) bs x two_backslashes (passed plain bs) q.1)
      | inr q ↦ elim (cond_some (b == 120) (body hex bs) None x q.1) [
        | inl s ↦ subst (λ (c : ℕ). InsideOf (92 ∷ c ∷ bs) x.0 x.1) (sym (eqb-true _ _ s.0)) (passed hex bs x s.1)
        | inr s ↦ absurd (let k = s.1 in cc)
      ]
    ]
passed hex [] x e = absurd cc
passed hex (b ∷ bs) x e =
    let a = bind_some (high_of b) (λ d. body (low d) bs) x e in
    passed (low a.0) bs x a.2 b a.1
passed (low d) [] x e = absurd cc
passed (low d) (b ∷ bs) x e =
    let a = bind_some (digit_of b) (λ e. put (d * 16 + e) (body plain bs)) x e in
    λ h p. longer (d * 16 + a.0) (92 ∷ 120 ∷ h ∷ b ∷ []) bs x (λ t inner k. code h b d a.0 t inner p a.1 k) (passed plain bs) a.2

pub gap_no_quote : (bs : List ℕ) → is_boundary bs ≡ true → begins_quote bs ≡ false
gap_no_quote [] h = refl
gap_no_quote (b ∷ bs) h = (or_false _ (b == 39) (not_true _ h)).1
