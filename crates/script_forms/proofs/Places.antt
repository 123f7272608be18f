-- What a line is at its place is read exactly where it may stand there.
use Rattle.std.proofs.Common.{◌≡◌, ℕ, ◌+◌, ◌<◌, ◌≤◌, true, List, [], ◌∷◌, ◌++◌, length, map, Option, Some, None, refl, ap, subst, ◌∙◌, arith, length-append}
use Rattle.std.specs.Prelude.{ℤ, pos, negsuc, nat_lt}
use Rattle.std.proofs.lemmas.Bool.Decides.{nat_tests}
use Rattle.row_base.specs.declared.limits.TheConstants.{MAX_SESSIONS}
use Rattle.row_base.specs.Readings.{◌>>=◌}
use Rattle.script_tokens.proofs.Runs.{some_is, bind_some, guarded}
use Rattle.script_forms.specs.declared.script.Script.{Script}
use Rattle.script_forms.specs.declared.script.SessionScript.{SessionScript}
use Rattle.script_forms.specs.declared.line.Line.{Line}
use Rattle.script_forms.specs.declared.line.Line.TheVariants as line
use Rattle.script_forms.specs.declared.place.Place.{Place}
use Rattle.script_forms.specs.declared.place.Place.TheVariants.{Start, Headed, Session, Items}
use Rattle.script_forms.specs.declared.table.TableForm.{TableForm}
use Rattle.script_forms.specs.declared.script.Header.TheVariants as header
use Rattle.script_forms.specs.declared.place.Stated.TheVariants as stated
use Rattle.script_forms.specs.declared.place.Placed.{Placed}
use Rattle.script_forms.specs.declared.place.Entry.{Entry}
use Rattle.script_forms.specs.declared.place.Entry.TheVariants as entry
use Rattle.script_forms.specs.Lines.{Says, reading}
use Rattle.script_forms.specs.Items.{items_of}
use Rattle.script_forms.specs.Limits.{are_keys, table_within}
use Rattle.script_forms.specs.Places.{attempts_of, spec_of, wait_entry, is_session_name, placed, Stands, attempts, open_table, table, first_session, schedule_at_once, next_session, table_made, insert, select, wait, schedule, items, made_header, start_entry, headed_entry, session_entry, placed_from, entry_at, is_within, after}
use Rattle.script_forms.specs.Scripts.{session_count}
use Rattle.script_forms.proofs.Lines.{reading_is, reading_again}
use Rattle.script_forms.proofs.ItemLines.{items_found, items_again}

header_is : (a : Option ℕ) (l : List ℕ) (form : TableForm) (e : Entry) → Says l (line.Table form) → made_header (spec_of form) ≡ Some e → Stands (Start a) l e
header_is a l form e s h =
    let k = guarded (are_keys (spec_of form).properties) _ e h in
    let m = guarded (table_within (spec_of form)) (Some (entry.Header (header.Table (spec_of form)))) e k.1 in
    subst (Stands (Start a) l) (some_is (entry.Header (header.Table (spec_of form))) e m.1) (table a l form s k.0 m.0)

start_is : (a : Option ℕ) (l : List ℕ) (x : Line) (e : Entry) → Says l x → start_entry x a ≡ Some e → Stands (Start a) l e
start_is None l (line.Attempts n) e s h = subst (Stands (Start None) l) (some_is (entry.Attempts (attempts_of n)) e h) (attempts l n s)
start_is (Some a) l (line.Attempts n) e s h = absurd cc
start_is a l line.Open e s h = subst (Stands (Start a) l) (some_is (entry.Header header.Existing) e h) (open_table a l s)
start_is a l (line.Table form) e s h = header_is a l form e s h
start_is a l (line.Session name) e s h = absurd cc
start_is a l (line.Insert rows) e s h = absurd cc
start_is a l line.Select e s h = absurd cc
start_is a l (line.Wait n) e s h = absurd cc
start_is a l line.Schedule e s h = absurd cc

headed_is : (c : Script) (l : List ℕ) (x : Line) (e : Entry) → Says l x → headed_entry x ≡ Some e → Stands (Headed c) l e
headed_is c l (line.Session name) e s h =
    let k = guarded (is_session_name name) (Some (entry.Session name)) e h in
    subst (Stands (Headed c) l) (some_is (entry.Session name) e k.1) (first_session c l name s k.0)
headed_is c l line.Schedule e s h = subst (Stands (Headed c) l) (some_is entry.Schedule e h) (schedule_at_once c l s)
headed_is c l (line.Attempts n) e s h = absurd cc
headed_is c l line.Open e s h = absurd cc
headed_is c l (line.Table form) e s h = absurd cc
headed_is c l (line.Insert rows) e s h = absurd cc
headed_is c l line.Select e s h = absurd cc
headed_is c l (line.Wait n) e s h = absurd cc

wait_is : (c : Script) (current : SessionScript) (l : List ℕ) (n : ℤ) (e : Entry) → Says l (line.Wait n) → wait_entry n ≡ Some e → Stands (Session c current) l e
wait_is c current l (pos n) e s h = subst (Stands (Session c current) l) (some_is (entry.Statement (stated.Wait n)) e h) (wait c current l n s)
wait_is c current l (negsuc n) e s h = absurd cc

session_is : (c : Script) (current : SessionScript) (l : List ℕ) (x : Line) (e : Entry) → Says l x → session_entry x ≡ Some e → Stands (Session c current) l e
session_is c current l (line.Session name) e s h =
    let k = guarded (is_session_name name) (Some (entry.Session name)) e h in
    subst (Stands (Session c current) l) (some_is (entry.Session name) e k.1) (next_session c current l name s k.0)
session_is c current l (line.Table form) e s h =
    let k = guarded (are_keys (spec_of form).properties) (Some (entry.Statement (stated.Table (spec_of form)))) e h in
    subst (Stands (Session c current) l) (some_is (entry.Statement (stated.Table (spec_of form))) e k.1) (table_made c current l form s k.0)
session_is c current l (line.Insert rows) e s h = subst (Stands (Session c current) l) (some_is (entry.Statement (stated.Insert rows)) e h) (insert c current l rows s)
session_is c current l line.Select e s h = subst (Stands (Session c current) l) (some_is (entry.Statement stated.Select) e h) (select c current l s)
session_is c current l (line.Wait n) e s h = wait_is c current l n e s h
session_is c current l line.Schedule e s h = subst (Stands (Session c current) l) (some_is entry.Schedule e h) (schedule c current l s)
session_is c current l (line.Attempts n) e s h = absurd cc
session_is c current l line.Open e s h = absurd cc

pub entry_is : (p : Place) (l : List ℕ) (e : Entry) → entry_at p l ≡ Some e → Stands p l e
unfolding entry_at placed_from
entry_is (Start a) l e h =
    let b = bind_some (reading l) (λ x. start_entry x a) e h in
    start_is a l b.0 e (reading_is l b.0 b.1) b.2
entry_is (Headed c) l e h =
    let b = bind_some (reading l) (λ x. headed_entry x) e h in
    headed_is c l b.0 e (reading_is l b.0 b.1) b.2
entry_is (Session c current) l e h =
    let b = bind_some (reading l) (λ x. session_entry x) e h in
    session_is c current l b.0 e (reading_is l b.0 b.1) b.2
entry_is (Items c) l e h =
    let b = bind_some (items_of l >>= λ xs. Some (map (placed c.sessions) xs)) (λ xs. Some (entry.Items xs)) e h in
    let d = bind_some (items_of l) (λ xs. Some (map (placed c.sessions) xs)) b.0 b.1 in
    let same : entry.Items (map (placed c.sessions) d.0) ≡ e = ap (λ (xs : List Placed). entry.Items xs) (some_is (map (placed c.sessions) d.0) b.0 d.2) ∙ some_is (entry.Items b.0) e b.2 in
    subst (Stands (Items c) l) same (items c l d.0 (items_found l d.0 d.1))

pub entry_again : (p : Place) (l : List ℕ) (e : Entry) → Stands p l e → entry_at p l ≡ Some e
unfolding entry_at placed_from
entry_again _ _ _ (attempts l n s) = rw (reading_again l (line.Attempts n) s) refl
entry_again _ _ _ (open_table a l s) = rw (reading_again l line.Open s) refl
entry_again _ _ _ (table a l form s k w) = rw (reading_again l (line.Table form) s, k, w) refl
entry_again _ _ _ (first_session c l name s k) = rw (reading_again l (line.Session name) s, k) refl
entry_again _ _ _ (schedule_at_once c l s) = rw (reading_again l line.Schedule s) refl
entry_again _ _ _ (next_session c current l name s k) = rw (reading_again l (line.Session name) s, k) refl
entry_again _ _ _ (table_made c current l form s k) = rw (reading_again l (line.Table form) s, k) refl
entry_again _ _ _ (insert c current l rows s) = rw (reading_again l (line.Insert rows) s) refl
entry_again _ _ _ (select c current l s) = rw (reading_again l line.Select s) refl
entry_again _ _ _ (wait c current l n s) = rw (reading_again l (line.Wait (pos n)) s) refl
entry_again _ _ _ (schedule c current l s) = rw (reading_again l line.Schedule s) refl
entry_again _ _ _ (items c l xs s) = rw (items_again xs l s) refl

-- ---- at most MAX_SESSIONS sessions

lt_from : (m n : ℕ) → nat_lt m n ≡ true → m < n
lt_from m n h = grind (arith, nat_tests)

one_more : {A : Type 0} (xs : List A) (x : A) → length (xs ++ x ∷ []) ≡ length xs + 1
one_more xs x = length-append xs (x ∷ [])

pub room : (p : Place) (e : Entry) → session_count p ≤ MAX_SESSIONS → is_within p e ≡ true → session_count (after p e) ≤ MAX_SESSIONS
unfolding is_within after
room (Start a) (entry.Attempts n) h w = omega arith
room (Start a) (entry.Header x) h w = omega arith
room (Start a) (entry.Session name) h w = omega arith
room (Start a) (entry.Statement x) h w = omega arith
room (Start a) entry.Schedule h w = omega arith
room (Start a) (entry.Items xs) h w = omega arith
room (Headed c) (entry.Attempts n) h w = h
room (Headed c) (entry.Header x) h w = h
room (Headed c) (entry.Session name) h w = omega (arith, lt_from (length c.sessions) MAX_SESSIONS w)
room (Headed c) (entry.Statement x) h w = h
room (Headed c) entry.Schedule h w = h
room (Headed c) (entry.Items xs) h w = h
room (Session c current) (entry.Attempts n) h w = h
room (Session c current) (entry.Header x) h w = h
room (Session c current) (entry.Session name) h w = omega (arith, lt_from (length c.sessions + 1) MAX_SESSIONS w, one_more c.sessions current)
room (Session c current) (entry.Statement x) h w = h
room (Session c current) entry.Schedule h w = omega (arith, h, one_more c.sessions current)
room (Session c current) (entry.Items xs) h w = h
room (Items c) (entry.Attempts n) h w = h
room (Items c) (entry.Header x) h w = h
room (Items c) (entry.Session name) h w = h
room (Items c) (entry.Statement x) h w = h
room (Items c) entry.Schedule h w = h
room (Items c) (entry.Items xs) h w = h
