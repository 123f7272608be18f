-- What holds of every script that some bytes spell.
use Rattle.std.proofs.Common.{◌≡◌, ℕ, ℤ, pos, negsuc, ◌+◌, ◌<◌, ◌≤◌, Bool, true, false, cond, List, [], ◌∷◌, ◌++◌, length, map, Option, Some, None, suc, refl, sym, ap, subst, arith, length-append, All, Result, Ok, Err}
use Rattle.std.specs.Prelude.{◌&&◌, nat_lt, nat_le, option_map, FitsSigned, IfOk}
use Rattle.std.specs.Int.{w32}
use Rattle.std.proofs.lemmas.Str.{IsUtf8-from_is_utf8}
use Rattle.std.specs.List.{list_all, flat_map, position, position_or_len}
use Rattle.std.specs.Str.{bytes_eq}
use Rattle.std.proofs.lemmas.Bool.Decides.{nat_tests}
use Rattle.std.proofs.lemmas.List.Concat.{flat_map-cons}
use Rattle.std.proofs.lemmas.List.Elements.{All-append, All-push, All-head, All-tail, All-weaker}
use Rattle.actor_core.specs.declared.schedule.Item.{Item}
use Rattle.actor_core.specs.declared.schedule.ItemForm.{ItemForm}
use Rattle.jiff_core.proofs.SignedLemmas.{signed_arith}
use Rattle.op_types.specs.declared.statement.Property.{Property}
use Rattle.row_base.specs.Dates.{IsDayNumber}
use Rattle.row_base.specs.declared.limits.TheConstants.{MAX_ATTEMPTS, MAX_COLUMNS, MAX_STATEMENT_ROWS, MAX_STATEMENTS, MAX_SCHEDULE_ITEMS, MAX_SESSIONS, MAX_TEXT_BYTES, MAX_WAIT}
use Rattle.row_base.specs.declared.row.Datum.{Datum as ADatum}
use Rattle.row_base.specs.declared.row.Datum.TheVariants as datum
use Rattle.schema_text.specs.PartitionWritten.{HasText}
use Rattle.statement_types.specs.Literals.{IsLiteral, AreLiterals}
use Rattle.statement_types.specs.declared.statement.Statement.{Statement as AStatement}
use Rattle.statement_types.specs.declared.statement.Statement.TheVariants as statement
use Rattle.script_tokens.specs.Gives.{Gives}
use Rattle.script_tokens.specs.declared.fault.ParseError.{ParseError}
use Rattle.script_tokens.specs.declared.token.Token.{Token}
use Rattle.script_tokens.proofs.Runs.{some_is, guarded, and_true}
use Rattle.script_grammar.specs.Names.{is_name}
use Rattle.script_grammar.specs.Shape.{a_name, a_datum, spell, comma_before, separated, Fits, FitsMore, FitsMany}
use Rattle.script_forms.specs.Tables.{column, column_value, partition}
use Rattle.script_forms.specs.Lines.{row, line_shape, line_value, Says}
use Rattle.script_forms.specs.Limits.{are_keys, is_short_property, is_short_datum, table_within, rows_within}
use Rattle.script_forms.specs.declared.line.Line.TheVariants as line
use Rattle.script_forms.specs.declared.table.TableForm.{TableForm}
use Rattle.script_forms.specs.declared.script.Header.{Header as AHeader}
use Rattle.script_forms.specs.declared.script.Header.TheVariants as header
use Rattle.script_forms.specs.declared.script.Script.{Script}
use Rattle.script_forms.specs.declared.script.SessionScript.{SessionScript}
use Rattle.script_forms.specs.declared.place.Place.{Place}
use Rattle.script_forms.specs.declared.place.Place.TheVariants.{Start, Headed, Session, Items}
use Rattle.script_forms.specs.declared.place.Placed.{Placed}
use Rattle.script_forms.specs.declared.place.Entry.{Entry}
use Rattle.script_forms.specs.Items.{NamedItem}
use Rattle.script_forms.specs.Places.{attempts_of, or_none, spec_of, place_named, placed, Stands, attempts, open_table, table, first_session, schedule_at_once, next_session, table_made, insert, select, wait, schedule, items, entry_at, is_within, IsSound, item_of_place, known_item, with_session, with_statement, begun, after}
use Rattle.script_forms.specs.Scripts.{Takes, passed, entered, Follows, here, next, script_of, SpellsScript, pieces}
use Rattle.script_forms.proofs.Longs.{AllFit, fit_parts, tokens_fit}
use Rattle.script_forms.specs.Fit.{AreFitRows, IsFitTable, IsFitStatement, IsFitSession, IsFitHeader, IsFit}
use Rattle.script_forms.proofs.Places.{entry_is}

lt_from : (m n : ℕ) → nat_lt m n ≡ true → m < n
lt_from m n h = grind (arith, nat_tests)

le_from : (m n : ℕ) → nat_le m n ≡ true → m ≤ n
le_from m n h = grind (arith, nat_tests)

no_elements : {X : Type 0} (P : X → Type 0) → All P []
no_elements P k d h = absurd (omega arith)

-- a limit of puts that was read
abbrev IsLimit : Option ℕ → Type 0
IsLimit None = Unit {0}
IsLimit (Some n) = (1 ≤ n) × (n ≤ MAX_ATTEMPTS)

limit_read : (n : ℤ) → IsLimit (attempts_of n)
limit_read (pos n) = by_test (nat_le 1 n && nat_le n MAX_ATTEMPTS) refl
  where
    by_test : (c : Bool) → (nat_le 1 n && nat_le n MAX_ATTEMPTS) ≡ c → IsLimit (cond c (Some n) None)
    by_test true e = let k = and_true (nat_le 1 n) (nat_le n MAX_ATTEMPTS) e in (le_from 1 n k.0, le_from n MAX_ATTEMPTS k.1)
    by_test false e = tt
limit_read (negsuc n) = tt

one_more : {X : Type 0} (P : X → Type 0) (x : X) (xs : List X) → P x → All P xs → All P (x ∷ xs)
one_more P x xs p h = All-append P (x ∷ []) xs (All-push P [] x (no_elements P) p) h

-- ---- what the grammar says of rows and tables

module _ {A : Type 0} (spells : A → List Token) (fits : A → List Token → Type 0) (P : A → Type 0) (each : (v : A) (rest : List Token) → fits v rest → AllFit (spells v) → P v) where
  all_more : (vs : List A) (rest : List Token) → FitsMore spells fits vs rest → AllFit (comma_before spells vs) → All P vs
  all_more [] rest h k = no_elements P
  all_more (v ∷ vs) rest h k = let two = fit_parts (spells v) (comma_before spells vs) k.1 in one_more P v vs (each v _ h.0 two.0) (all_more vs rest h.1 two.1)

  all_many : (vs : List A) (rest : List Token) → FitsMany spells fits vs rest → AllFit (separated spells vs) → All P vs
  all_many [] rest h k = absurd h
  all_many (v ∷ vs) rest h k = let two = fit_parts (spells v) (comma_before spells vs) k in one_more P v vs (each v _ h.0 two.0) (all_more vs rest h.1 two.1)

module _ {A : Type 0} (spells : A → List Token) (fits : A → List Token → Type 0) (P : A → Type 0) (each : (v : A) (rest : List Token) → fits v rest → P v) where
  each_more : (vs : List A) (rest : List Token) → FitsMore spells fits vs rest → All P vs
  each_more [] rest h = no_elements P
  each_more (v ∷ vs) rest h = one_more P v vs (each v _ h.0) (each_more vs rest h.1)

  each_many : (vs : List A) (rest : List Token) → FitsMany spells fits vs rest → All P vs
  each_many [] rest h = absurd h
  each_many (v ∷ vs) rest h = one_more P v vs (each v _ h.0) (each_more vs rest h.1)

some_of_many : {A : Type 0} (spells : A → List Token) (fits : A → List Token → Type 0) (vs : List A) (rest : List Token) → FitsMany spells fits vs rest → 1 ≤ length vs
some_of_many spells fits [] rest h = absurd h
some_of_many spells fits (v ∷ vs) rest h = omega arith

-- what holds of each element that passes a test holds of all where all pass
resolved : {X : Type 0} (b : X → Bool) (P : X → Type 0) (xs : List X) → All (λ x. b x ≡ true → P x) xs → list_all b xs ≡ true → All P xs
resolved b P [] h k = no_elements P
resolved b P (x ∷ xs) h k =
    let t = and_true (b x) (list_all b xs) k in
    one_more P x xs (All-head (λ y. b y ≡ true → P y) x xs h t.0) (resolved b P xs (All-tail (λ y. b y ≡ true → P y) x xs h) t.1)

day_fits : (n : ℤ) → IsDayNumber n → FitsSigned w32 n
day_fits (pos n) h = record { sfits = omega (arith, signed_arith, h.0, h.1) }
day_fits (negsuc n) h = record { sfits = omega (arith, signed_arith, h.0, h.1) }

literal_is : (d : ADatum) (rest : List Token) → Fits a_datum d rest → AllFit (spell a_datum d) → is_short_datum d ≡ true → IsLiteral d
literal_is datum.Null rest h k s = tt
literal_is (datum.Long n) rest h k s = k.0
literal_is (datum.Integer n) rest h k s = absurd h
literal_is (datum.Boolean b) rest h k s = tt
literal_is (datum.Text t) rest h k s = (IsUtf8-from_is_utf8 t h, le_from (length t) MAX_TEXT_BYTES s)
literal_is (datum.Date n) rest h k s = (day_fits n h, h)

row_is : (r : List ADatum) (rest : List Token) → Fits row r rest → AllFit (spell row r) → list_all is_short_datum r ≡ true → All IsLiteral r
row_is r rest h k s =
    resolved is_short_datum IsLiteral r
    (all_many (spell a_datum) (Fits a_datum) (λ d. is_short_datum d ≡ true → IsLiteral d) literal_is r _ h (fit_parts (separated (spell a_datum) r) _ k.1).0)
    s

-- rows of a line, of which no text is too long
inserted_rows : (l : List ℕ) (rows : List (List ADatum)) → Says l (line.Insert rows) → list_all (λ r. list_all is_short_datum r) rows ≡ true → AreLiterals rows
inserted_rows l rows h s =
    let said = fit_parts (spell line_shape (line_value (line.Insert rows))) [] (subst AllFit h.spelled.parts (tokens_fit false h.tokens l h.cut)) in
    resolved (λ r. list_all is_short_datum r) (All IsLiteral) rows
    (all_many (spell row) (Fits row) (λ r. list_all is_short_datum r ≡ true → All IsLiteral r) row_is rows [] h.spelled.fits.1.1.1.1 said.0.1)
    s

some_rows : (l : List ℕ) (rows : List (List ADatum)) → Says l (line.Insert rows) → 1 ≤ length rows
some_rows l rows h = some_of_many (spell row) (Fits row) rows _ h.spelled.fits.1.1.1.1

has_text : (d : ADatum) → IsLiteral d → HasText d
has_text datum.Null h = tt
has_text (datum.Long n) h = tt
has_text (datum.Integer n) h = tt
has_text (datum.Boolean b) h = tt
has_text (datum.Text t) h = tt
has_text (datum.Date n) h = h.1

have_texts : (rows : List (List ADatum)) → AreLiterals rows → All (λ r. All HasText r) rows
have_texts rows h = All-weaker (All IsLiteral) (All HasText) (λ r k. All-weaker IsLiteral HasText has_text r k) rows h

fit_rows : (l : List ℕ) (rows : List (List ADatum)) → Says l (line.Insert rows) → rows_within rows ≡ true → AreFitRows rows
fit_rows l rows h w =
    let t = and_true (nat_le (length rows) MAX_STATEMENT_ROWS) (list_all (λ r. list_all is_short_datum r) rows) w in
    let literals = inserted_rows l rows h t.1 in
    record { some = some_rows l rows h; count = le_from (length rows) MAX_STATEMENT_ROWS t.0; literals = literals; texts = have_texts rows literals }

-- ---- tables

length_map : {A B : Type 0} (f : A → B) (xs : List A) → length (map f xs) ≡ length xs
length_map f [] = refl
length_map f (x ∷ xs) = ap suc (length_map f xs)

unmapped : {A B : Type 0} (P : B → Type 0) (f : A → B) (xs : List A) → All P (map f xs) → All (λ x. P (f x)) xs
unmapped P f [] h = no_elements _
unmapped P f (x ∷ xs) h = one_more (λ y. P (f y)) x xs (All-head P (f x) (map f xs) h) (unmapped P f xs (All-tail P (f x) (map f xs) h))

names_of : (o : Option (List (List ℕ))) (rest : List Token) → Fits partition o rest → All (λ n. is_name n ≡ true) (or_none o)
names_of None rest h = no_elements _
names_of (Some names) rest h = each_many (spell a_name) (Fits a_name) (λ n. is_name n ≡ true) (λ n r k. k) names _ h

short_property : (p : Property) → is_short_property p ≡ true → (length p.key ≤ MAX_TEXT_BYTES) × (length p.value ≤ MAX_TEXT_BYTES)
short_property p h =
    let t = and_true (nat_le (length p.key) MAX_TEXT_BYTES) (nat_le (length p.value) MAX_TEXT_BYTES) h in
    (le_from (length p.key) MAX_TEXT_BYTES t.0, le_from (length p.value) MAX_TEXT_BYTES t.1)

short_properties : (ps : List Property) → list_all is_short_property ps ≡ true → All (λ p. (length p.key ≤ MAX_TEXT_BYTES) × (length p.value ≤ MAX_TEXT_BYTES)) ps
short_properties [] h = no_elements _
short_properties (p ∷ ps) h =
    let t = and_true (is_short_property p) (list_all is_short_property ps) h in
    one_more (λ q. (length q.key ≤ MAX_TEXT_BYTES) × (length q.value ≤ MAX_TEXT_BYTES)) p ps (short_property p t.0) (short_properties ps t.1)

fit_table : (l : List ℕ) (form : TableForm) → Says l (line.Table form) → are_keys (spec_of form).properties ≡ true → table_within (spec_of form) ≡ true → IsFitTable (spec_of form)
fit_table l form h k w =
    let t = and_true (nat_le (length form.columns) MAX_COLUMNS) (list_all is_short_property (spec_of form).properties) w in
    let fits = h.spelled.fits.1.1 in
    let some : 1 ≤ length (map column_value form.columns) = some_of_many (spell column) (Fits column) (map column_value form.columns) _ fits.0 in
    record {
      some = omega (arith, some, length_map column_value form.columns);
      most = le_from (length form.columns) MAX_COLUMNS t.0;
      columns = unmapped (λ v. is_name v.0 ≡ true) column_value form.columns (each_many (spell column) (Fits column) (λ v. is_name v.0 ≡ true) (λ v r q. q.0) (map column_value form.columns) _ fits.0);
      partition = names_of form.partition _ fits.1.0;
      keys = k;
      texts = short_properties (spec_of form).properties t.1;
    }

place_within : (sessions : List SessionScript) (name : List ℕ) (n : ℕ) → place_named sessions name ≡ Some n → (0 < n) × (n ≤ length sessions)
place_within sessions name n h = by_place (position (λ s. bytes_eq s.name name) sessions) refl h
  where
    by_place : (o : Option ℕ) → position (λ s. bytes_eq s.name name) sessions ≡ o → option_map (λ i. i + 1) o ≡ Some n → (0 < n) × (n ≤ length sessions)
    by_place None e m = absurd cc
    by_place (Some i) e m =
        let p = position_or_len (λ s. bytes_eq s.name name) sessions in
        let k = guarded (nat_lt p (length sessions)) (Some p) i e in
        let lt : p < length sessions = lt_from p (length sessions) k.0 in
        let same : p ≡ i = some_is p i k.1 in
        let one : i + 1 ≡ n = some_is (i + 1) n m in
        (omega arith, omega (arith, lt, same, one))

abbrev OfSession : ℕ → Item → Type 0
OfSession count i = (0 < i.actor) × (i.actor ≤ count)

one_item : (sessions : List SessionScript) (o : Option ℕ) (form : ItemForm) → ((n : ℕ) → o ≡ Some n → (0 < n) × (n ≤ length sessions)) → All (OfSession (length sessions)) (item_of_place o form)
one_item sessions None form h = no_elements _
one_item sessions (Some n) form h = All-push (OfSession (length sessions)) [] (record { actor = n; form = form }) (no_elements _) (h n refl)

known_within : (sessions : List SessionScript) (xs : List NamedItem) → All (OfSession (length sessions)) (flat_map known_item (map (placed sessions) xs))
known_within sessions [] = no_elements _
known_within sessions (x ∷ xs) =
    rw (flat_map-cons known_item (placed sessions x) (map (placed sessions) xs))
    (All-append (OfSession (length sessions)) (known_item (placed sessions x)) (flat_map known_item (map (placed sessions) xs)) (one_item sessions (place_named sessions x.0) x.1 (place_within sessions x.0)) (known_within sessions xs))

one_at_most : (o : Option ℕ) (form : ItemForm) → length (item_of_place o form) ≤ 1
one_at_most None form = omega arith
one_at_most (Some n) form = omega arith

known_fewer : (xs : List Placed) → length (flat_map known_item xs) ≤ length xs
known_fewer [] = omega arith
known_fewer (x ∷ xs) = rw (flat_map-cons known_item x xs) (omega (arith, length-append (known_item x) (flat_map known_item xs), one_at_most x.session x.form, known_fewer xs))

-- ---- places

record IsFitCurrent (s : Script) (current : SessionScript) : Type 0 where
  script : IsFit s
  no_items : s.items ≡ []
  session : IsFitSession current
  room : length s.sessions + 1 ≤ MAX_SESSIONS

record IsFitHeaded (s : Script) : Type 0 where
  script : IsFit s
  no_items : s.items ≡ []

abbrev IsFitPlace : Place → Type 0
IsFitPlace (Start a) = IsLimit a
IsFitPlace (Headed s) = IsFitHeaded s
IsFitPlace (Session s current) = IsFitCurrent s current
IsFitPlace (Items s) = IsFit s

begun_fit : (a : Option ℕ) (h : AHeader) → IsLimit a → IsFitHeader h → IsFitHeaded (begun a h)
begun_fit None h l f = record { script = record { least = omega arith; most = omega arith; header = f; sessions = omega arith; each = no_elements _; count = omega arith; items = no_elements _ }; no_items = refl }
begun_fit (Some n) h l f = record { script = record { least = l.0; most = l.1; header = f; sessions = omega arith; each = no_elements _; count = omega arith; items = no_elements _ }; no_items = refl }

new_session : (name : List ℕ) → IsFitSession (record { name = name; statements = [] })
new_session name = record { count = omega arith; each = no_elements _ }

closed_fit : (s : Script) (current : SessionScript) → IsFitCurrent s current → IsFit (with_session s current)
closed_fit s current f = record {
  least = f.script.least;
  most = f.script.most;
  header = f.script.header;
  sessions = omega (arith, f.room, length-append s.sessions (current ∷ []));
  each = All-push IsFitSession s.sessions current f.script.each f.session;
  count = f.script.count;
  items = subst (All (OfSession (length (s.sessions ++ current ∷ [])))) (sym f.no_items) (no_elements _);
}

with_one : (s : Script) (current : SessionScript) (x : AStatement) → IsFitCurrent s current → IsFitStatement x → length current.statements < MAX_STATEMENTS → IsFitCurrent s (with_statement current x)
with_one s current x f k lt = record {
  script = f.script;
  no_items = f.no_items;
  session = record {
    count = omega (arith, lt, length-append current.statements (x ∷ []));
    each = All-push IsFitStatement current.statements x f.session.each k;
  };
  room = f.room;
}

fit_after : (p : Place) (l : List ℕ) (e : Entry) → Stands p l e → is_within p e ≡ true → IsFitPlace p → IsFitPlace (after p e)
unfolding is_within after
fit_after _ _ _ (attempts l n s) w f = limit_read n
fit_after _ _ _ (open_table a l s) w f = begun_fit a header.Existing f tt
fit_after _ _ _ (table a l form s k m) w f = begun_fit a (header.Table (spec_of form)) f (fit_table l form s k m)
fit_after _ _ _ (first_session s l name h k) w f = record { script = f.script; no_items = f.no_items; session = new_session name; room = omega (arith, lt_from (length s.sessions) MAX_SESSIONS w) }
fit_after _ _ _ (schedule_at_once s l h) w f = f.script
fit_after _ _ _ (next_session s current l name h k) w f = record { script = closed_fit s current f; no_items = f.no_items; session = new_session name; room = omega (arith, lt_from (length s.sessions + 1) MAX_SESSIONS w, length-append s.sessions (current ∷ [])) }
fit_after _ _ _ (table_made s current l form h k) w f =
    let t = and_true (table_within (spec_of form)) (nat_lt (length current.statements) MAX_STATEMENTS) w in
    with_one s current (statement.Table (spec_of form)) f (fit_table l form h k t.0) (lt_from (length current.statements) MAX_STATEMENTS t.1)
fit_after _ _ _ (insert s current l rows h) w f =
    let t = and_true (rows_within rows) (nat_lt (length current.statements) MAX_STATEMENTS) w in
    with_one s current (statement.Insert rows) f (fit_rows l rows h t.0) (lt_from (length current.statements) MAX_STATEMENTS t.1)
fit_after _ _ _ (select s current l h) w f =
    with_one s current statement.Select f tt (lt_from (length current.statements) MAX_STATEMENTS w)
fit_after _ _ _ (wait s current l n h) w f =
    let t = and_true (nat_le n MAX_WAIT) (nat_lt (length current.statements) MAX_STATEMENTS) w in
    with_one s current (statement.Wait n) f (le_from n MAX_WAIT t.0) (lt_from (length current.statements) MAX_STATEMENTS t.1)
fit_after _ _ _ (schedule s current l h) w f = closed_fit s current f
fit_after _ _ _ (items s l xs h) w f = record {
  least = f.least;
  most = f.most;
  header = f.header;
  sessions = f.sessions;
  each = f.each;
  count = omega (arith, le_from (length s.items + length (map (placed s.sessions) xs)) MAX_SCHEDULE_ITEMS w, length-append s.items (flat_map known_item (map (placed s.sessions) xs)), known_fewer (map (placed s.sessions) xs));
  items = All-append (OfSession (length s.sessions)) s.items (flat_map known_item (map (placed s.sessions) xs)) f.items (known_within s.sessions xs);
}

fit_taken : (p : Place) (l : List ℕ) (q : Place) → Takes p l q → IsFitPlace p → IsFitPlace q
fit_taken _ _ _ (passed p l u k) f = f
fit_taken _ _ _ (entered p l e u k s n w) f = fit_after p l e s w f

fit_behind : (p : Place) (ls : List (List ℕ)) (q : Place) → Follows p ls q → IsFitPlace p → IsFitPlace q
fit_behind _ _ _ (here p) f = f
fit_behind _ _ _ (next p l q ls r t h) f = fit_behind q ls r h (fit_taken p l q t f)

fit_script : (p : Place) (s : Script) → IsFitPlace p → script_of p ≡ Some s → IsFit s
fit_script (Start a) s f h = absurd cc
fit_script (Headed c) s f h = subst IsFit (some_is c s h) f.script
fit_script (Session c current) s f h = subst IsFit (some_is (with_session c current) s h) (closed_fit c current f)
fit_script (Items c) s f h = subst IsFit (some_is c s h) f

pub spelled_fit : (bytes : List ℕ) (s : Script) → SpellsScript bytes s → IsFit s
spelled_fit bytes s h = fit_script h.place s (fit_behind (Start None) (pieces bytes) h.place h.taken tt) h.script

-- ---- an entry that passes no limit

sound_stands : (p : Place) (l : List ℕ) (e : Entry) → Stands p l e → is_within p e ≡ true → IsSound e
unfolding is_within
sound_stands _ _ _ (attempts l n s) w = tt
sound_stands _ _ _ (open_table a l s) w = tt
sound_stands _ _ _ (table a l form s k m) w = tt
sound_stands _ _ _ (first_session c l name s k) w = tt
sound_stands _ _ _ (schedule_at_once c l s) w = tt
sound_stands _ _ _ (next_session c current l name s k) w = tt
sound_stands _ _ _ (table_made c current l form s k) w = tt
sound_stands _ _ _ (insert c current l rows s) w =
    let t = and_true (rows_within rows) (nat_lt (length current.statements) MAX_STATEMENTS) w in
    (fit_rows l rows s t.0).literals
sound_stands _ _ _ (select c current l s) w = tt
sound_stands _ _ _ (wait c current l n s) w = tt
sound_stands _ _ _ (schedule c current l s) w = tt
sound_stands _ _ _ (items c l xs s) w = tt

pub sound_entry : (p : Place) (l : List ℕ) (r : Result Entry ParseError) → Gives (λ e. e) r (entry_at p l) → IfOk r (λ e. is_within p e ≡ true → IsSound e)
sound_entry p l (Ok e) h = λ w. sound_stands p l e (entry_is p l e h) w
sound_entry p l (Err e) h = tt
