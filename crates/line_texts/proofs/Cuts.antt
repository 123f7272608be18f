-- The pieces of a text, one after another.
use Rattle.std.proofs.Common.{◌≡◌, ℕ, ◌+◌, ◌<◌, ◌≤◌, ◌==◌, Bool, true, false, cond, if◌then◌else◌, nat_lt, List, [], ◌∷◌, ◌++◌, length, take, drop, map, Option, Some, None, option_map, is_some, refl, sym, ap, ◌∙◌, subst, append_assoc, arith}
use Rattle.std.specs.List.{onto_first, position, position_or_len, join_with_byte, flat_map}
use Rattle.std.proofs.lemmas.Bool.{ltb-true, ltb-false, eqb-true}
use Rattle.std.proofs.lemmas.List.{append-nil}
use Rattle.std.proofs.lemmas.List.Sums.{fails_before_first}
use Rattle.std.proofs.lemmas.List.Splits.{slice_split_none, slice_split_first, length-slice_split}
use Rattle.line_texts.specs.Pieces.{pieces, both, each, each_line, next_line, first_bad, only_line, bad_only}

some_of : {A : Type 0} (b : Bool) (x y : A) → Some y ≡ cond b (Some x) None → (b ≡ true) × (x ≡ y)
some_of true x y e = (refl, cc)
some_of false x y e = cc

none_of : {A : Type 0} (b : Bool) (x : A) → None ≡ cond b (Some x) None → b ≡ false
none_of true x e = cc
none_of false x e = refl

pub pieces_at : (byte at : ℕ) (text : List ℕ) → Some at ≡ position (λ b. b == byte) text → (at < length text) × (pieces byte text ≡ take at text ∷ pieces byte (drop (at + 1) text))
pieces_at byte at text e =
    let p = some_of (nat_lt (position_or_len (λ b. b == byte) text) (length text)) (position_or_len (λ b. b == byte) text) at e in
    let within : position_or_len (λ b. b == byte) text < length text = ltb-true (position_or_len (λ b. b == byte) text) (length text) p.0 in
    let P : ℕ → Type 0 = λ n. pieces byte text ≡ take n text ∷ pieces byte (drop (n + 1) text) in
    let place : position_or_len (λ b. b == byte) text ≡ at = p.1 in
    (omega (arith, place), subst P place (slice_split_first (λ b. b == byte) text 0 within))

pub pieces_none : (byte : ℕ) (text : List ℕ) → None ≡ position (λ b. b == byte) text → pieces byte text ≡ text ∷ []
pieces_none byte text e =
    let far : length text ≤ position_or_len (λ b. b == byte) text = ltb-false (position_or_len (λ b. b == byte) text) (length text) (none_of (nat_lt (position_or_len (λ b. b == byte) text) (length text)) (position_or_len (λ b. b == byte) text) e) in
    slice_split_none (λ b. b == byte) text (λ k d within. fails_before_first (λ b. b == byte) text k d (omega arith))

pub some_piece : (byte : ℕ) (text : List ℕ) → 0 < length (pieces byte text)
some_piece byte text = omega (arith, length-slice_split (λ b. b == byte) text)

-- a value behind those that were read
more : {A : Type 0} (xs : List A) (x : A) (o : Option (List A)) → option_map (λ ys. xs ++ ys) (both (Some x) o) ≡ option_map (λ ys. (xs ++ x ∷ []) ++ ys) o
more xs x None = refl
more xs x (Some ys) = ap Some (sym (append_assoc xs (x ∷ []) ys))

pub each_more : {A : Type 0} (read : List ℕ → Option A) (p : List ℕ) (ps qs : List (List ℕ)) (x : A) (xs : List A) (whole : Option (List A)) → qs ≡ p ∷ ps → Some x ≡ read p → option_map (λ ys. xs ++ ys) (each read qs) ≡ whole → option_map (λ ys. (xs ++ x ∷ []) ++ ys) (each read ps) ≡ whole
each_more read p ps qs x xs whole e r h =
    sym (more xs x (each read ps)) ∙ ap (λ o. option_map (λ ys. xs ++ ys) (both o (each read ps))) r ∙ sym (ap (λ zs. option_map (λ ys. xs ++ ys) (each read zs)) e) ∙ h

pub each_bad : {A : Type 0} (read : List ℕ → Option A) (p : List ℕ) (ps qs : List (List ℕ)) (xs : List A) (whole : Option (List A)) → qs ≡ p ∷ ps → None ≡ read p → option_map (λ ys. xs ++ ys) (each read qs) ≡ whole → None ≡ whole
each_bad read p ps qs xs whole e r h =
    ap (λ o. option_map (λ ys. xs ++ ys) (both o (each read ps))) r ∙ sym (ap (λ zs. option_map (λ ys. xs ++ ys) (each read zs)) e) ∙ h

pub each_last : {A : Type 0} (read : List ℕ → Option A) (p : List ℕ) (qs : List (List ℕ)) (x : A) (xs : List A) (whole : Option (List A)) → qs ≡ p ∷ [] → Some x ≡ read p → option_map (λ ys. xs ++ ys) (each read qs) ≡ whole → Some (xs ++ x ∷ []) ≡ whole
each_last read p qs x xs whole e r h = ap Some (sym (append-nil (xs ++ x ∷ []))) ∙ each_more read p [] qs x xs whole e r h

pub each_none : {A : Type 0} (o : Option (List A)) → option_map (λ ys. [] ++ ys) o ≡ o
each_none None = refl
each_none (Some ys) = refl

-- lines
pub line_first : {A : Type 0} (read : List ℕ → Option A) (l : List ℕ) (ps : List (List ℕ)) → 0 < length ps → each_line read (l ∷ ps) ≡ both (read l) (each_line read ps)
line_first read l [] some = absurd (omega arith)
line_first read l (m ∷ ls) some = refl

bad_first : {A : Type 0} (read : List ℕ → Option A) (n : ℕ) (l : List ℕ) (ps : List (List ℕ)) → 0 < length ps → first_bad read n (l ∷ ps) ≡ (if is_some (read l) then first_bad read (next_line n) ps else n)
bad_first read n l [] some = absurd (omega arith)
bad_first read n l (m ∷ ls) some = refl

pub lines_more : {A : Type 0} (read : List ℕ → Option A) (l back : List ℕ) (qs : List (List ℕ)) (x : A) (xs : List A) (whole : Option (List A)) → qs ≡ l ∷ pieces 10 back → Some x ≡ read l → option_map (λ ys. xs ++ ys) (each_line read qs) ≡ whole → option_map (λ ys. (xs ++ x ∷ []) ++ ys) (each_line read (pieces 10 back)) ≡ whole
lines_more read l back qs x xs whole e r h =
    sym (more xs x (each_line read (pieces 10 back))) ∙ ap (λ o. option_map (λ ys. xs ++ ys) (both o (each_line read (pieces 10 back)))) r
    ∙ sym (ap (λ o. option_map (λ ys. xs ++ ys) o) (ap (each_line read) e ∙ line_first read l (pieces 10 back) (some_piece 10 back))) ∙ h

pub lines_bad : {A : Type 0} (read : List ℕ → Option A) (l back : List ℕ) (qs : List (List ℕ)) (xs : List A) (whole : Option (List A)) → qs ≡ l ∷ pieces 10 back → None ≡ read l → option_map (λ ys. xs ++ ys) (each_line read qs) ≡ whole → whole ≡ None
lines_bad read l back qs xs whole e r h =
    sym (ap (λ o. option_map (λ ys. xs ++ ys) (both o (each_line read (pieces 10 back)))) r
    ∙ sym (ap (λ o. option_map (λ ys. xs ++ ys) o) (ap (each_line read) e ∙ line_first read l (pieces 10 back) (some_piece 10 back))) ∙ h)

pub bad_more : {A : Type 0} (read : List ℕ → Option A) (n whole : ℕ) (l back : List ℕ) (qs : List (List ℕ)) (x : A) → qs ≡ l ∷ pieces 10 back → Some x ≡ read l → first_bad read n qs ≡ whole → first_bad read (next_line n) (pieces 10 back) ≡ whole
bad_more read n whole l back qs x e r h =
    ap (λ o. if is_some o then first_bad read (next_line n) (pieces 10 back) else n) r ∙ sym (ap (first_bad read n) e ∙ bad_first read n l (pieces 10 back) (some_piece 10 back)) ∙ h

pub bad_here : {A : Type 0} (read : List ℕ → Option A) (n whole : ℕ) (l back : List ℕ) (qs : List (List ℕ)) → qs ≡ l ∷ pieces 10 back → None ≡ read l → first_bad read n qs ≡ whole → n ≡ whole
bad_here read n whole l back qs e r h =
    ap (λ o. if is_some o then first_bad read (next_line n) (pieces 10 back) else n) r ∙ sym (ap (first_bad read n) e ∙ bad_first read n l (pieces 10 back) (some_piece 10 back)) ∙ h

-- behind the last line end
pub lines_end : {A : Type 0} (read : List ℕ → Option A) (l : List ℕ) (qs : List (List ℕ)) (xs : List A) (whole : Option (List A)) → qs ≡ l ∷ [] → (length l == 0) ≡ true → option_map (λ ys. xs ++ ys) (each_line read qs) ≡ whole → whole ≡ Some xs
lines_end read l qs xs whole e none h =
    sym (ap Some (sym (append-nil xs)) ∙ ap (λ b. option_map (λ ys. xs ++ ys) (if b then Some [] else None)) (sym none) ∙ sym (ap (λ o. option_map (λ ys. xs ++ ys) (each_line read o)) e) ∙ h)

pub lines_open : {A : Type 0} (read : List ℕ → Option A) (l : List ℕ) (qs : List (List ℕ)) (xs : List A) (whole : Option (List A)) → qs ≡ l ∷ [] → (length l == 0) ≡ false → option_map (λ ys. xs ++ ys) (each_line read qs) ≡ whole → whole ≡ None
lines_open read l qs xs whole e some h =
    sym (ap (λ b. option_map (λ ys. xs ++ ys) (if b then Some [] else None)) (sym some) ∙ sym (ap (λ o. option_map (λ ys. xs ++ ys) (each_line read o)) e) ∙ h)

pub bad_end : {A : Type 0} (read : List ℕ → Option A) (n whole : ℕ) (l : List ℕ) (qs : List (List ℕ)) → qs ≡ l ∷ [] → first_bad read n qs ≡ whole → n ≡ whole
bad_end read n whole l qs e h = sym (ap (first_bad read n) e) ∙ h

-- the only line
first_of_two : {A : Type 0} (read : List ℕ → Option A) (l : List ℕ) (b : ℕ) (ps : List (List ℕ)) → only_line read (l ∷ onto_first b ps) ≡ None
first_of_two read l b [] = refl
first_of_two read l b (p ∷ ps) = refl

third : {A : Type 0} (read : List ℕ → Option A) (l : List ℕ) (ps : List (List ℕ)) → 0 < length ps → only_line read (l ∷ [] ∷ ps) ≡ None
third read l [] some = absurd (omega arith)
third read l (p ∷ ps) some = refl

behind : {A : Type 0} (read : List ℕ → Option A) (l : List ℕ) (t : Bool) (b : ℕ) (ps : List (List ℕ)) → 0 < length ps → only_line read (l ∷ cond t ([] ∷ ps) (onto_first b ps)) ≡ None
behind read l true b ps some = third read l ps some
behind read l false b ps some = first_of_two read l b ps

pub only_not : {A : Type 0} (read : List ℕ → Option A) (l back : List ℕ) → (length back == 0) ≡ false → only_line read (l ∷ pieces 10 back) ≡ None
only_not read l [] some = cc
only_not read l (b ∷ bs) some = behind read l (b == 10) b (pieces 10 bs) (some_piece 10 bs)

only_bad : {A : Type 0} (read : List ℕ → Option A) (l : List ℕ) (ps : List (List ℕ)) → None ≡ read l → only_line read (l ∷ ps) ≡ None
only_bad read l [] e = refl
only_bad read l ([] ∷ []) e = sym e
only_bad read l ([] ∷ m ∷ ms) e = refl
only_bad read l ((b ∷ bs) ∷ ms) e = refl

bad_only_first : {A : Type 0} (read : List ℕ → Option A) (l : List ℕ) (ps : List (List ℕ)) → 0 < length ps → bad_only read (l ∷ ps) ≡ (if is_some (read l) then 2 else 1)
bad_only_first read l [] some = absurd (omega arith)
bad_only_first read l (m ∷ ls) some = refl

pub the_only : {A : Type 0} (read : List ℕ → Option A) (l back : List ℕ) (qs : List (List ℕ)) (x : A) → qs ≡ l ∷ pieces 10 back → Some x ≡ read l → (length back == 0) ≡ true → only_line read qs ≡ Some x
the_only read l [] qs x e r none = ap (only_line read) e ∙ sym r
the_only read l (b ∷ bs) qs x e r none = absurd (omega (arith, eqb-true (length (b ∷ bs)) 0 none))

pub not_the_only : {A : Type 0} (read : List ℕ → Option A) (l back : List ℕ) (qs : List (List ℕ)) (x : A) → qs ≡ l ∷ pieces 10 back → Some x ≡ read l → (length back == 0) ≡ false → (only_line read qs ≡ None) × (2 ≡ bad_only read qs)
not_the_only read l back qs x e r some = (
  ap (only_line read) e ∙ only_not read l back some,
  sym (ap (bad_only read) e ∙ bad_only_first read l (pieces 10 back) (some_piece 10 back) ∙ ap (λ o. if is_some o then 2 else 1) (sym r)),
)

pub a_bad_only : {A : Type 0} (read : List ℕ → Option A) (l back : List ℕ) (qs : List (List ℕ)) → qs ≡ l ∷ pieces 10 back → None ≡ read l → (only_line read qs ≡ None) × (1 ≡ bad_only read qs)
a_bad_only read l back qs e r = (
  ap (only_line read) e ∙ only_bad read l (pieces 10 back) r,
  sym (ap (bad_only read) e ∙ bad_only_first read l (pieces 10 back) (some_piece 10 back) ∙ ap (λ o. if is_some o then 2 else 1) (sym r)),
)

pub no_line : {A : Type 0} (read : List ℕ → Option A) (l : List ℕ) (qs : List (List ℕ)) → qs ≡ l ∷ [] → (only_line read qs ≡ None) × (1 ≡ bad_only read qs)
no_line read l qs e = (ap (only_line read) e, sym (ap (bad_only read) e))

-- joined pieces
pub join_is : (c : ℕ) (x : List ℕ) (xs : List (List ℕ)) → join_with_byte c (x ∷ xs) ≡ x ++ flat_map (λ y. c ∷ y) xs
join_is c x [] = sym (append-nil x)
join_is c x (y ∷ xs) = ap (λ zs. x ++ (c ∷ zs)) (join_is c y xs)

pub join_map : {A : Type 0} (c : ℕ) (f : A → List ℕ) (x : A) (xs : List A) → join_with_byte c (map f (x ∷ xs)) ≡ f x ++ flat_map (λ y. c ∷ f y) xs
join_map c f x [] = sym (append-nil (f x))
join_map c f x (y ∷ xs) = ap (λ zs. f x ++ (c ∷ zs)) (join_map c f y xs)
