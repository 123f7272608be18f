-- What holds of every script that some bytes spell.
use Rattle.std.proofs.Common.{◌≡◌, ℕ, ℤ, pos, negsuc, ◌+◌, ◌<◌, ◌≤◌, Bool, true, false, cond, List, [], ◌∷◌, ◌++◌, length, map, Option, Some, None, refl, sym, subst, arith, length-append, All}
use Rattle.std.specs.Prelude.{◌==◌, ◌&&◌, nat_lt, nat_le, option_map}
use Rattle.std.specs.List.{list_all, flat_map, position, position_or_len}
use Rattle.std.specs.Str.{bytes_eq}
use Rattle.std.proofs.lemmas.Bool.{eqb-true}
use Rattle.std.proofs.lemmas.Bool.Decides.{nat_tests}
use Rattle.std.proofs.lemmas.List.Concat.{flat_map-cons}
use Rattle.std.proofs.lemmas.List.Elements.{All-append, All-push}
use Rattle.actor_core.specs.declared.schedule.Item.{Item}
use Rattle.actor_core.specs.declared.schedule.ItemForm.{ItemForm}
use Rattle.row_base.specs.declared.limits.TheConstants.{MAX_ATTEMPTS, MAX_STATEMENT_ROWS, MAX_STATEMENTS, MAX_SCHEDULE_ITEMS, MAX_SESSIONS}
use Rattle.row_base.specs.declared.row.Datum.{Datum as ADatum}
use Rattle.row_base.specs.declared.row.Datum.TheVariants as datum
use Rattle.op_types.specs.declared.statement.Statement.{Statement as AStatement}
use Rattle.op_types.specs.declared.statement.Statement.TheVariants as statement
use Rattle.script_tokens.specs.declared.token.Token.{Token}
use Rattle.script_tokens.proofs.Runs.{some_is, guarded, and_true}
use Rattle.script_grammar.specs.Shape.{a_literal, spell, comma_before, separated, Fits, FitsMore, FitsMany}
use Rattle.script_text.specs.Lines.{column, row, line_shape, line_value, Says}
use Rattle.script_text.specs.declared.line.Line.TheVariants as line
use Rattle.script_text.specs.declared.script.Script.{Script}
use Rattle.script_text.specs.declared.script.SessionScript.{SessionScript}
use Rattle.script_text.specs.declared.place.Place.{Place}
use Rattle.script_text.specs.declared.place.Place.TheVariants.{Start, Headed, Session, Items}
use Rattle.script_text.specs.declared.place.Placed.{Placed}
use Rattle.script_text.specs.declared.place.Entry.{Entry}
use Rattle.script_text.specs.Items.{NamedItem}
use Rattle.script_text.specs.Places.{attempts_of, are_columns, table_of, column_count, place_named, placed, Stands, attempts, table, first_session, schedule_at_once, next_session, insert, select, schedule, items, is_within, item_of_place, known_item, with_session, with_statement, begun, after}
use Rattle.script_text.specs.Scripts.{Takes, passed, entered, Follows, here, next, script_of, SpellsScript, pieces}
use Rattle.script_text.proofs.Longs.{AllFit, fit_parts, tokens_fit}
use Rattle.script_text.specs.Fit.{IsLong, IsFitStatement, IsFitSession, IsFit}

lt_from : (m n : ℕ) → nat_lt m n ≡ true → m < n
lt_from m n h = grind (arith, nat_tests)

le_from : (m n : ℕ) → nat_le m n ≡ true → m ≤ n
le_from m n h = grind (arith, nat_tests)

no_elements : {X : Type 0} (P : X → Type 0) → All P []
no_elements P k d h = absurd (omega arith)

-- a limit of puts that was read
abbrev IsLimit : Option ℕ → Type 0
IsLimit None = Unit {0}
IsLimit (Some n) = (1 ≤ n) × (n ≤ MAX_ATTEMPTS)

limit_read : (n : ℤ) → IsLimit (attempts_of n)
limit_read (pos n) = by_test (nat_le 1 n && nat_le n MAX_ATTEMPTS) refl
  where
    by_test : (c : Bool) → (nat_le 1 n && nat_le n MAX_ATTEMPTS) ≡ c → IsLimit (cond c (Some n) None)
    by_test true e = let k = and_true (nat_le 1 n) (nat_le n MAX_ATTEMPTS) e in (le_from 1 n k.0, le_from n MAX_ATTEMPTS k.1)
    by_test false e = tt
limit_read (negsuc n) = tt

one_more : {X : Type 0} (P : X → Type 0) (x : X) (xs : List X) → P x → All P xs → All P (x ∷ xs)
one_more P x xs p h = All-append P (x ∷ []) xs (All-push P [] x (no_elements P) p) h

-- ---- what the grammar says of rows and columns

module _ {A : Type 0} (spells : A → List Token) (fits : A → List Token → Type 0) (P : A → Type 0) (each : (v : A) (rest : List Token) → fits v rest → AllFit (spells v) → P v) where
  all_more : (vs : List A) (rest : List Token) → FitsMore spells fits vs rest → AllFit (comma_before spells vs) → All P vs
  all_more [] rest h k = no_elements P
  all_more (v ∷ vs) rest h k = let two = fit_parts (spells v) (comma_before spells vs) k.1 in one_more P v vs (each v _ h.0 two.0) (all_more vs rest h.1 two.1)

  all_many : (vs : List A) (rest : List Token) → FitsMany spells fits vs rest → AllFit (separated spells vs) → All P vs
  all_many [] rest h k = absurd h
  all_many (v ∷ vs) rest h k = let two = fit_parts (spells v) (comma_before spells vs) k in one_more P v vs (each v _ h.0 two.0) (all_more vs rest h.1 two.1)

literal_is_long : (d : ADatum) (rest : List Token) → Fits a_literal d rest → AllFit (spell a_literal d) → IsLong d
literal_is_long (datum.Long n) rest h k = k.0
literal_is_long datum.Null rest h k = absurd cc
literal_is_long (datum.Integer n) rest h k = absurd cc
literal_is_long (datum.Boolean b) rest h k = absurd cc
literal_is_long (datum.Text t) rest h k = absurd cc
literal_is_long (datum.Date d) rest h k = absurd cc

row_is_long : (r : List ADatum) (rest : List Token) → Fits row r rest → AllFit (spell row r) → All IsLong r
row_is_long r rest h k = all_many (spell a_literal) (Fits a_literal) IsLong literal_is_long r _ h (fit_parts (separated (spell a_literal) r) _ k.1).0

inserted_long : (l : List ℕ) (rows : List (List ADatum)) → Says l (line.Insert rows) → All (All IsLong) rows
inserted_long l rows h =
    let said = fit_parts (spell line_shape (line_value (line.Insert rows))) [] (subst AllFit h.spelled.parts (tokens_fit false h.tokens l h.cut)) in
    all_many (spell row) (Fits row) (All IsLong) row_is_long rows [] h.spelled.fits.1.1.1 said.0.1

some_of_many : {A : Type 0} (spells : A → List Token) (fits : A → List Token → Type 0) (vs : List A) (rest : List Token) → FitsMany spells fits vs rest → 1 ≤ length vs
some_of_many spells fits [] rest h = absurd h
some_of_many spells fits (v ∷ vs) rest h = omega arith

some_columns : (l : List ℕ) (names : List (List ℕ)) → Says l (line.Table names) → 1 ≤ length names
some_columns l names h = some_of_many (spell column) (Fits column) names _ h.spelled.fits.1

rows_as_long : (columns : ℕ) (rows : List (List ADatum)) → list_all (λ r. length r == columns) rows ≡ true → All (λ r. length r ≡ columns) rows
rows_as_long columns [] h = no_elements _
rows_as_long columns (r ∷ rows) h =
    let k = and_true (length r == columns) (list_all (λ q. length q == columns) rows) h in
    one_more (λ q. length q ≡ columns) r rows (eqb-true _ _ k.0) (rows_as_long columns rows k.1)

place_within : (sessions : List SessionScript) (name : List ℕ) (n : ℕ) → place_named sessions name ≡ Some n → (0 < n) × (n ≤ length sessions)
place_within sessions name n h = by_place (position (λ s. bytes_eq s.name name) sessions) refl h
  where
    by_place : (o : Option ℕ) → position (λ s. bytes_eq s.name name) sessions ≡ o → option_map (λ i. i + 1) o ≡ Some n → (0 < n) × (n ≤ length sessions)
    by_place None e m = absurd cc
    by_place (Some i) e m =
        let p = position_or_len (λ s. bytes_eq s.name name) sessions in
        let k = guarded (nat_lt p (length sessions)) (Some p) i e in
        let lt : p < length sessions = lt_from p (length sessions) k.0 in
        let same : p ≡ i = some_is p i k.1 in
        let one : i + 1 ≡ n = some_is (i + 1) n m in
        (omega arith, omega (arith, lt, same, one))

abbrev OfSession : ℕ → Item → Type 0
OfSession count i = (0 < i.actor) × (i.actor ≤ count)

one_item : (sessions : List SessionScript) (o : Option ℕ) (form : ItemForm) → ((n : ℕ) → o ≡ Some n → (0 < n) × (n ≤ length sessions)) → All (OfSession (length sessions)) (item_of_place o form)
one_item sessions None form h = no_elements _
one_item sessions (Some n) form h = All-push (OfSession (length sessions)) [] (record { actor = n; form = form }) (no_elements _) (h n refl)

known_within : (sessions : List SessionScript) (xs : List NamedItem) → All (OfSession (length sessions)) (flat_map known_item (map (placed sessions) xs))
known_within sessions [] = no_elements _
known_within sessions (x ∷ xs) =
    rw (flat_map-cons known_item (placed sessions x) (map (placed sessions) xs))
    (All-append (OfSession (length sessions)) (known_item (placed sessions x)) (flat_map known_item (map (placed sessions) xs)) (one_item sessions (place_named sessions x.0) x.1 (place_within sessions x.0)) (known_within sessions xs))

one_at_most : (o : Option ℕ) (form : ItemForm) → length (item_of_place o form) ≤ 1
one_at_most None form = omega arith
one_at_most (Some n) form = omega arith

known_fewer : (xs : List Placed) → length (flat_map known_item xs) ≤ length xs
known_fewer [] = omega arith
known_fewer (x ∷ xs) = rw (flat_map-cons known_item x xs) (omega (arith, length-append (known_item x) (flat_map known_item xs), one_at_most x.session x.form, known_fewer xs))

-- ---- places

record IsFitCurrent (s : Script) (current : SessionScript) : Type 0 where
  script : IsFit s
  no_items : s.items ≡ []
  session : IsFitSession (column_count s.header) current
  room : length s.sessions + 1 ≤ MAX_SESSIONS

record IsFitHeaded (s : Script) : Type 0 where
  script : IsFit s
  no_items : s.items ≡ []

abbrev IsFitPlace : Place → Type 0
IsFitPlace (Start a) = IsLimit a
IsFitPlace (Headed s) = IsFitHeaded s
IsFitPlace (Session s current) = IsFitCurrent s current
IsFitPlace (Items s) = IsFit s

begun_fit : (a : Option ℕ) (names : List (List ℕ)) → IsLimit a → 1 ≤ length names → are_columns names ≡ true → IsFitHeaded (begun a (table_of names))
begun_fit None names l m c = record { script = record { least = omega arith; most = omega arith; header = record { names = names; table = refl; some = m; distinct = c }; sessions = omega arith; each = no_elements _; count = omega arith; items = no_elements _ }; no_items = refl }
begun_fit (Some n) names l m c = record { script = record { least = l.0; most = l.1; header = record { names = names; table = refl; some = m; distinct = c }; sessions = omega arith; each = no_elements _; count = omega arith; items = no_elements _ }; no_items = refl }

new_session : (columns : ℕ) (name : List ℕ) → IsFitSession columns (record { name = name; statements = [] })
new_session columns name = record { count = omega arith; each = no_elements _ }

closed_fit : (s : Script) (current : SessionScript) → IsFitCurrent s current → IsFit (with_session s current)
closed_fit s current f = record {
  least = f.script.least;
  most = f.script.most;
  header = f.script.header;
  sessions = omega (arith, f.room, length-append s.sessions (current ∷ []));
  each = All-push (IsFitSession (column_count s.header)) s.sessions current f.script.each f.session;
  count = f.script.count;
  items = subst (All (OfSession (length (s.sessions ++ current ∷ [])))) (sym f.no_items) (no_elements _);
}

with_one : (s : Script) (current : SessionScript) (x : AStatement) → IsFitCurrent s current → IsFitStatement (column_count s.header) x → length current.statements < MAX_STATEMENTS → IsFitCurrent s (with_statement current x)
with_one s current x f k lt = record {
  script = f.script;
  no_items = f.no_items;
  session = record {
    count = omega (arith, lt, length-append current.statements (x ∷ []));
    each = All-push (IsFitStatement (column_count s.header)) current.statements x f.session.each k;
  };
  room = f.room;
}

fit_after : (p : Place) (l : List ℕ) (e : Entry) → Stands p l e → is_within p e ≡ true → IsFitPlace p → IsFitPlace (after p e)
unfolding is_within after
fit_after _ _ _ (attempts l n s) w f = limit_read n
fit_after _ _ _ (table a l names s c) w f = begun_fit a names f (some_columns l names s) c
fit_after _ _ _ (first_session s l name h k) w f = record { script = f.script; no_items = f.no_items; session = new_session (column_count s.header) name; room = omega (arith, lt_from (length s.sessions) MAX_SESSIONS w) }
fit_after _ _ _ (schedule_at_once s l h) w f = f.script
fit_after _ _ _ (next_session s current l name h k) w f = record { script = closed_fit s current f; no_items = f.no_items; session = new_session (column_count s.header) name; room = omega (arith, lt_from (length s.sessions + 1) MAX_SESSIONS w, length-append s.sessions (current ∷ [])) }
fit_after _ _ _ (insert s current l rows h k) w f =
    let t = and_true (nat_le (length rows) MAX_STATEMENT_ROWS) (nat_lt (length current.statements) MAX_STATEMENTS) w in
    with_one s current (statement.Insert rows) f (record { count = le_from (length rows) MAX_STATEMENT_ROWS t.0; lengths = rows_as_long (column_count s.header) rows k; longs = inserted_long l rows h }) (lt_from (length current.statements) MAX_STATEMENTS t.1)
fit_after _ _ _ (select s current l h) w f =
    let t = and_true (nat_le 0 MAX_STATEMENT_ROWS) (nat_lt (length current.statements) MAX_STATEMENTS) w in
    with_one s current statement.Select f tt (lt_from (length current.statements) MAX_STATEMENTS t.1)
fit_after _ _ _ (schedule s current l h) w f = closed_fit s current f
fit_after _ _ _ (items s l xs h) w f = record {
  least = f.least;
  most = f.most;
  header = f.header;
  sessions = f.sessions;
  each = f.each;
  count = omega (arith, le_from (length s.items + length (map (placed s.sessions) xs)) MAX_SCHEDULE_ITEMS w, length-append s.items (flat_map known_item (map (placed s.sessions) xs)), known_fewer (map (placed s.sessions) xs));
  items = All-append (OfSession (length s.sessions)) s.items (flat_map known_item (map (placed s.sessions) xs)) f.items (known_within s.sessions xs);
}

fit_taken : (p : Place) (l : List ℕ) (q : Place) → Takes p l q → IsFitPlace p → IsFitPlace q
fit_taken _ _ _ (passed p l u k) f = f
fit_taken _ _ _ (entered p l e u k s n w) f = fit_after p l e s w f

fit_behind : (p : Place) (ls : List (List ℕ)) (q : Place) → Follows p ls q → IsFitPlace p → IsFitPlace q
fit_behind _ _ _ (here p) f = f
fit_behind _ _ _ (next p l q ls r t h) f = fit_behind q ls r h (fit_taken p l q t f)

fit_script : (p : Place) (s : Script) → IsFitPlace p → script_of p ≡ Some s → IsFit s
fit_script (Start a) s f h = absurd cc
fit_script (Headed c) s f h = subst IsFit (some_is c s h) f.script
fit_script (Session c current) s f h = subst IsFit (some_is (with_session c current) s h) (closed_fit c current f)
fit_script (Items c) s f h = subst IsFit (some_is c s h) f

pub spelled_fit : (bytes : List ℕ) (s : Script) → SpellsScript bytes s → IsFit s
spelled_fit bytes s h = fit_script h.place s (fit_behind (Start None) (pieces bytes) h.place h.taken tt) h.script
