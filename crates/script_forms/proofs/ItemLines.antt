-- Reading the items of a line is the inverse of spelling them.
use Rattle.std.proofs.Common.{◌≡◌, ℕ, zero, suc, ◌-◌, ◌<◌, true, false, List, [], ◌∷◌, ◌++◌, length, take, drop, map, Option, Some, None, refl, sym, ap, subst, ◌∙◌, append_assoc, arith, inl, inr, length-append}
use Rattle.std.specs.Prelude.{◌==◌, ◌&&◌, not, nat_le}
use Rattle.std.specs.List.{prefix_len}
use Rattle.std.proofs.lemmas.List.{append-nil, take_at, drop_at, take-append-drop}
use Rattle.std.proofs.lemmas.Bool.{eqb-true}
use Rattle.std.proofs.lemmas.Bool.Decides.{eqb_tells, nat_tests}
use Rattle.actor_core.specs.declared.schedule.ItemForm.{ItemForm}
use Rattle.actor_core.specs.declared.schedule.ItemForm.TheVariants.{One, Statement, Attempt}
use Rattle.row_base.specs.Readings.{◌>>=◌}
use Rattle.script_tokens.specs.Words.{is_word_byte, is_reserved}
use Rattle.script_tokens.specs.Tokens.{begins_letter}
use Rattle.script_tokens.proofs.Runs.{some_is, bind_some, cond_some, guarded, and_true, runs, letter_no_space}
use Rattle.script_grammar.specs.Names.{is_name}
use Rattle.script_forms.specs.declared.script.SessionScript.{SessionScript}
use Rattle.script_forms.specs.declared.place.Placed.{Placed}
use Rattle.script_forms.specs.Items.{NamedItem, form_text, ends_item, SpellsItems, nothing, space, item, form_at, item_of, item_at, put, items_behind, items_of}
use Rattle.script_tokens.specs.Reading.{starts_space}
use Rattle.script_forms.specs.Places.{placed, placed_from, put_placed}

skip_behind : (k : ℕ) (bs : List ℕ) → items_behind k bs ≡ items_behind 0 (drop k bs)
unfolding items_behind
skip_behind zero [] = refl
skip_behind zero (b ∷ bs) = refl
skip_behind (suc k) [] = refl
skip_behind (suc k) (b ∷ bs) = skip_behind k bs

left_over : (w rest bs : List ℕ) → bs ≡ w ++ rest → drop (length bs - length rest) bs ≡ rest
left_over w rest bs e =
    let n : length bs - length rest ≡ length w = omega (arith, ap length e, length-append w rest) in
    rw (n, e) (drop_at w rest (length w) refl)

-- ---- the item at the front

-- what a name is
record Name (name : List ℕ) : Type 0 where
  letter : begins_letter name ≡ true
  run : prefix_len is_word_byte name ≡ length name

name_parts : (name : List ℕ) → is_name name ≡ true → Name name
name_parts name h =
    let a = and_true (begins_letter name) (prefix_len is_word_byte name == length name && (nat_le (length name) 64 && not (is_reserved name))) h in
    let b = and_true (prefix_len is_word_byte name == length name) (nat_le (length name) 64 && not (is_reserved name)) a.1 in
    record { letter = a.0; run = eqb-true _ _ b.0 }

some_letter : (name : List ℕ) → begins_letter name ≡ true → 0 < length name
some_letter [] h = absurd cc
some_letter (b ∷ name) h = omega arith

no_space_first : (name rest : List ℕ) → begins_letter name ≡ true → starts_space (name ++ rest) ≡ false
no_space_first [] rest h = absurd cc
no_space_first (b ∷ name) rest h = letter_no_space b h

space_no_word : (b : ℕ) → (b == 32) ≡ true → is_word_byte b ≡ false
space_no_word b h = grind (arith, nat_tests)

ends_no_word : (rest : List ℕ) → ends_item rest ≡ true → prefix_len is_word_byte rest ≡ 0
ends_no_word [] h = refl
ends_no_word (b ∷ bs) h = rw (space_no_word b h) refl

form_no_word : (form : ItemForm) (rest : List ℕ) → ends_item rest ≡ true → prefix_len is_word_byte (form_text form ++ rest) ≡ 0
form_no_word One rest h = ends_no_word rest h
form_no_word Statement rest h = refl
form_no_word Attempt rest h = refl

space_no_mark : (b : ℕ) → (b == 32) ≡ true → ((b == 33) ≡ false) × ((b == 64) ≡ false)
space_no_mark b h = (grind (arith, nat_tests), grind (arith, nat_tests))

form_again : (form : ItemForm) (rest : List ℕ) → ends_item rest ≡ true → form_at (form_text form ++ rest) ≡ (form, rest)
form_again One [] h = refl
form_again One (b ∷ bs) h = rw ((space_no_mark b h).0, (space_no_mark b h).1) refl
form_again Statement rest h = refl
form_again Attempt rest h = refl

item_of_again : (n : ℕ) (name : List ℕ) (form : ItemForm) (rest : List ℕ) → n ≡ length name → is_name name ≡ true → ends_item rest ≡ true → item_of n (name ++ (form_text form ++ rest)) ≡ Some ((name, form), rest)
item_of_again n name form rest e h g =
    rw (drop_at name (form_text form ++ rest) n (sym e), take_at name (form_text form ++ rest) n (sym e), form_again form rest g, h, g) refl

item_again : (name : List ℕ) (form : ItemForm) (rest : List ℕ) → is_name name ≡ true → ends_item rest ≡ true → item_at (name ++ (form_text form ++ rest)) ≡ Some ((name, form), rest)
unfolding item_at
item_again name form rest h g =
    let run : prefix_len is_word_byte (name ++ (form_text form ++ rest)) ≡ length name = runs is_word_byte name (form_text form ++ rest) (name_parts name h).run (form_no_word form rest g) in
    item_of_again _ name form rest run h g

-- the item at the front, spelled before the rest
pub record Front (bs : List ℕ) (x : NamedItem) (rest : List ℕ) : Type 0 where
  pub parts : bs ≡ x.0 ++ (form_text x.1 ++ rest)
  pub named : is_name x.0 ≡ true
  pub ends : ends_item rest ≡ true

form_is : (bs : List ℕ) → bs ≡ form_text (form_at bs).0 ++ (form_at bs).1
form_is [] = refl
form_is (b ∷ bs) = elim (eqb_tells b 33) [
  | inl h ↦ rw h.0 (ap (λ (c : ℕ). c ∷ bs) h.1)
  | inr h ↦ rw h.0 (elim (eqb_tells b 64) [
    | inl k ↦ rw k.0 (ap (λ (c : ℕ). c ∷ bs) k.1)
    | inr k ↦ rw k.0 refl
  ])
]

front_of : (n : ℕ) (bs : List ℕ) (x : NamedItem × List ℕ) → item_of n bs ≡ Some x → Front bs x.0 x.1
front_of n bs x h =
    let k = guarded (is_name (take n bs) && ends_item (form_at (drop n bs)).1) (Some ((take n bs, (form_at (drop n bs)).0), (form_at (drop n bs)).1)) x h in
    let t = and_true (is_name (take n bs)) (ends_item (form_at (drop n bs)).1) k.0 in
    subst (λ (y : NamedItem × List ℕ). Front bs y.0 y.1) (some_is ((take n bs, (form_at (drop n bs)).0), (form_at (drop n bs)).1) x k.1) (record {
      parts = sym (take-append-drop n bs) ∙ ap (λ (u : List ℕ). take n bs ++ u) (form_is (drop n bs));
      named = t.0;
      ends = t.1;
    })

pub front : (bs : List ℕ) (x : NamedItem × List ℕ) → item_at bs ≡ Some x → Front bs x.0 x.1
unfolding item_at
front bs x h = front_of (prefix_len is_word_byte bs) bs x h

-- ---- steps

pub behind_space : (bs : List ℕ) → starts_space bs ≡ true → items_behind 0 bs ≡ items_behind 0 (drop 1 bs)
unfolding items_behind
behind_space [] h = absurd cc
behind_space (b ∷ bs) h = rw h refl

behind_first : (b : ℕ) (bs w : List ℕ) (x : NamedItem) (rest : List ℕ) → bs ≡ w ++ rest → (b == 32) ≡ false → item_at (b ∷ bs) ≡ Some (x, rest) → items_behind 0 (b ∷ bs) ≡ put x (items_behind 0 rest)
unfolding items_behind
behind_first b bs w x rest e s h =
    rw (s, h) (ap (put x) (skip_behind (length bs - length rest) bs ∙ ap (items_behind 0) (left_over w rest bs e)))

behind_item : (bs front : List ℕ) (x : NamedItem) (rest : List ℕ) → bs ≡ front ++ rest → 0 < length front → starts_space bs ≡ false → item_at bs ≡ Some (x, rest) → items_behind 0 bs ≡ put x (items_behind 0 rest)
behind_item [] [] x rest e lt s h = absurd (omega arith)
behind_item (b ∷ bs) [] x rest e lt s h = absurd (omega arith)
behind_item [] (c ∷ w) x rest e lt s h = absurd cc
behind_item (b ∷ bs) (c ∷ w) x rest e lt s h = behind_first b bs w x rest (cc) s h

pub behind_none : (bs : List ℕ) → 0 < length bs → starts_space bs ≡ false → item_at bs ≡ None → items_behind 0 bs ≡ None
unfolding items_behind
behind_none [] lt s h = absurd (omega arith)
behind_none (b ∷ bs) lt s h = rw (s, h) refl

whole_front : (bs : List ℕ) (x : NamedItem) (rest : List ℕ) → Front bs x rest → bs ≡ (x.0 ++ form_text x.1) ++ rest
whole_front bs x rest f = f.parts ∙ sym (append_assoc x.0 (form_text x.1) rest)

front_some : (bs : List ℕ) (x : NamedItem) (rest : List ℕ) → Front bs x rest → 0 < length (x.0 ++ form_text x.1)
front_some bs x rest f = omega (arith, some_letter x.0 (name_parts x.0 f.named).letter, length-append x.0 (form_text x.1))

pub step : (bs : List ℕ) (x : NamedItem) (rest : List ℕ) → starts_space bs ≡ false → item_at bs ≡ Some (x, rest) → items_behind 0 bs ≡ put x (items_behind 0 rest)
step bs x rest s h =
    let f = front bs (x, rest) h in
    behind_item bs (x.0 ++ form_text x.1) x rest (whole_front bs x rest f) (front_some bs x rest f) s h

pub fewer : (bs : List ℕ) (x : NamedItem) (rest : List ℕ) → item_at bs ≡ Some (x, rest) → length rest < length bs
fewer bs x rest h =
    let f = front bs (x, rest) h in
    omega (arith, front_some bs x rest f, ap length (whole_front bs x rest f), length-append (x.0 ++ form_text x.1) rest)

-- ---- both ways

pub items_again : (xs : List NamedItem) (bs : List ℕ) → SpellsItems xs bs → items_of bs ≡ Some xs
unfolding items_behind
items_again _ _ nothing = refl
items_again _ _ (space xs bs h) = items_again xs bs h
items_again _ _ (item name form xs bs n e h) =
    let p = name_parts name n in
    behind_item (name ++ (form_text form ++ bs)) (name ++ form_text form) (name, form) bs (sym (append_assoc name (form_text form) bs)) (omega (arith, some_letter name p.letter, length-append name (form_text form))) (no_space_first name (form_text form ++ bs) p.letter) (item_again name form bs n e)
    ∙ ap (put (name, form)) (items_again xs bs h)

behind_rest : (b : ℕ) (bs front rest : List ℕ) → b ∷ bs ≡ front ++ rest → 0 < length front → drop (length bs - length rest) bs ≡ rest
behind_rest b bs [] rest e lt = absurd (omega arith)
behind_rest b bs (c ∷ w) rest e lt = left_over w rest bs (cc)

sound : (k : ℕ) (bs : List ℕ) (xs : List NamedItem) → items_behind k bs ≡ Some xs → SpellsItems xs (drop k bs)
unfolding items_behind
sound zero [] xs h = subst (λ (u : List NamedItem). SpellsItems u []) (some_is [] xs h) nothing
sound (suc k) [] xs h = subst (λ (u : List NamedItem). SpellsItems u []) (some_is [] xs h) nothing
sound (suc k) (b ∷ bs) xs h = sound k bs xs h
sound zero (b ∷ bs) xs h =
    elim (cond_some (b == 32) (items_behind zero bs) (item_at (b ∷ bs) >>= λ x. put x.0 (items_behind (length bs - length x.1) bs)) xs h) [
      | inl c ↦ subst (λ (d : ℕ). SpellsItems xs (d ∷ bs)) (sym (eqb-true _ _ c.0)) (space xs bs (sound zero bs xs c.1))
      | inr c ↦
          let a = bind_some (item_at (b ∷ bs)) (λ x. put x.0 (items_behind (length bs - length x.1) bs)) xs c.1 in
          let d = bind_some (items_behind (length bs - length a.0.1) bs) (λ us. Some (a.0.0 ∷ us)) xs a.2 in
          let f = front (b ∷ bs) a.0 a.1 in
          let rest : SpellsItems d.0 a.0.1 = subst (SpellsItems d.0) (behind_rest b bs (a.0.0.0 ++ form_text a.0.0.1) a.0.1 (whole_front (b ∷ bs) a.0.0 a.0.1 f) (front_some (b ∷ bs) a.0.0 a.0.1 f)) (sound (length bs - length a.0.1) bs d.0 d.1) in
          let all : SpellsItems ((a.0.0.0, a.0.0.1) ∷ d.0) (a.0.0.0 ++ (form_text a.0.0.1 ++ a.0.1)) = item a.0.0.0 a.0.0.1 d.0 a.0.1 f.named f.ends rest in
          subst (λ (u : List NamedItem). SpellsItems u (b ∷ bs)) (some_is (a.0.0 ∷ d.0) xs d.2) (subst (SpellsItems (a.0.0 ∷ d.0)) (sym f.parts) all)
    ]

pub items_found : (bs : List ℕ) (xs : List NamedItem) → items_of bs ≡ Some xs → SpellsItems xs bs
items_found bs xs h = sound 0 bs xs h

-- ---- with the places of their sessions

abbrev places : List SessionScript → Option (List NamedItem) → Option (List Placed)
places sessions r = r >>= λ xs. Some (map (placed sessions) xs)

place_put : (sessions : List SessionScript) (x : NamedItem) (r : Option (List NamedItem)) → places sessions (put x r) ≡ put_placed (Some (placed sessions x)) (places sessions r)
place_put sessions x (Some xs) = refl
place_put sessions x None = refl

pub placed_space : (sessions : List SessionScript) (bs : List ℕ) → starts_space bs ≡ true → placed_from sessions bs ≡ placed_from sessions (drop 1 bs)
unfolding placed_from
placed_space sessions bs h = ap (places sessions) (behind_space bs h)

pub placed_step : (sessions : List SessionScript) (bs : List ℕ) (x : NamedItem) (rest : List ℕ) → starts_space bs ≡ false → item_at bs ≡ Some (x, rest) → placed_from sessions bs ≡ put_placed (Some (placed sessions x)) (placed_from sessions rest)
unfolding placed_from
placed_step sessions bs x rest s h = ap (places sessions) (step bs x rest s h) ∙ place_put sessions x (items_of rest)

pub placed_none : (sessions : List SessionScript) (bs : List ℕ) → 0 < length bs → starts_space bs ≡ false → item_at bs ≡ None → placed_from sessions bs ≡ None
unfolding placed_from
placed_none sessions bs lt s h = ap (places sessions) (behind_none bs lt s h)

placed_end : (sessions : List SessionScript) (bs : List ℕ) → length bs ≡ 0 → placed_from sessions bs ≡ Some []
unfolding placed_from items_behind
placed_end sessions [] h = refl
placed_end sessions (b ∷ bs) h = absurd (omega arith)

-- ---- the loop

abbrev with_front : List Placed → Option (List Placed) → Option (List Placed)
with_front front r = r >>= λ xs. Some (front ++ xs)

regroup : (front : List Placed) (x : Placed) (r : Option (List Placed)) → with_front front (put_placed (Some x) r) ≡ with_front (front ++ x ∷ []) r
regroup front x (Some xs) = ap (λ (u : List Placed). Some u) (simp append_assoc)
regroup front x None = refl

no_items : (r : Option (List Placed)) → with_front [] r ≡ r
no_items (Some x) = refl
no_items None = refl

-- what was read, before what the rest gives, is what the line gives
pub record Led (sessions : List SessionScript) (line : List ℕ) (items : List Placed) (rest : List ℕ) : Type 0 where
  pub led : with_front items (placed_from sessions rest) ≡ placed_from sessions line

pub begins : (sessions : List SessionScript) (line : List ℕ) → Led sessions line [] line
begins sessions line = record { led = no_items (placed_from sessions line) }

pub goes_on : (sessions : List SessionScript) (line : List ℕ) (items : List Placed) (rest : List ℕ) (x : Placed) (after : List ℕ) → Led sessions line items rest → placed_from sessions rest ≡ put_placed (Some x) (placed_from sessions after) → Led sessions line (items ++ x ∷ []) after
goes_on sessions line items rest x after l e = record { led = sym (regroup items x (placed_from sessions after)) ∙ ap (with_front items) (sym e) ∙ l.led }

pub passes : (sessions : List SessionScript) (line : List ℕ) (items : List Placed) (rest after : List ℕ) → Led sessions line items rest → placed_from sessions rest ≡ placed_from sessions after → Led sessions line items after
passes sessions line items rest after l e = record { led = ap (with_front items) (sym e) ∙ l.led }

pub is_done : (sessions : List SessionScript) (line : List ℕ) (items : List Placed) (rest : List ℕ) → length rest ≡ 0 → Led sessions line items rest → placed_from sessions line ≡ Some items
is_done sessions line items rest h l = sym l.led ∙ ap (with_front items) (placed_end sessions rest h) ∙ ap (λ (u : List Placed). Some u) (append-nil items)

pub stops : (sessions : List SessionScript) (line : List ℕ) (items : List Placed) (rest : List ℕ) → Led sessions line items rest → placed_from sessions rest ≡ None → placed_from sessions line ≡ None
stops sessions line items rest l e = sym l.led ∙ ap (with_front items) e
