-- What a statement sees: by the moments of its listing and of its session's puts, which come in the order of the statements.
use Rattle.std.proofs.Common.{◌≡◌, ◌⊎◌, inl, inr, ℕ, ◌<◌, ◌≤◌, ◌^◌, ◌==◌, Bool, true, false, List, [], ◌∷◌, ◌++◌, refl, sym, ◌∙◌, ap, subst, arith}
use Rattle.std.proofs.lemmas.List.{append_assoc}
use Rattle.std.specs.Prelude.{Option, Some, None, if◌then◌else◌, nat_lt}
use Rattle.std.specs.Str.{bytes_eq}
use Rattle.std.proofs.lemmas.Bool.Decides.{nat_tests}
use Rattle.edge_api.specs.declared.call.Tag.{Tag}
use Rattle.edge_api.specs.declared.call.Call.{Call}
use Rattle.edge_api.specs.declared.call.Call.TheVariants.{Get, PutNew, Put as Replace, List as ListNames, Delete, Now, Wait}
use Rattle.edge_api.specs.declared.call.Answer.{Answer}
use Rattle.edge_api.specs.declared.call.Answer.TheVariants.{Fault, Body, Missing, Stored, Taken, Names, Gone, Time, Waited}
use Rattle.edge_api.specs.declared.call.Listed.{Listed}
use Rattle.edge_api.specs.declared.call.Object.{Object}
use Rattle.edge_api.specs.Journal.{Objects, Moment, object_at, IsLegal, Answers, same_tag, answer_of, after_moment, objects_after, entries_of, listing}
use Rattle.table_rules.specs.Names.{log_prefix, commit_text}
use Rattle.statement_calls.specs.Listing.{newest}
use Rattle.statement_calls.specs.declared.finish.Finish.{Finish}
use Rattle.op_types.specs.declared.statement.Statement.{Statement}
use Rattle.actor_core.specs.Entries.{own, of_actor}
use Rattle.actor_core.proofs.Owners.{same_tag_is}
use Rattle.table_laws.specs.History.{Put, put_under, put_if_free, puts_of, if_done, puts_at, history}
use Rattle.table_laws.specs.Runs.{or_first, listed_by, first_given, version_read, NoneEarlier, Rises, IsRun, replies_of}
use Rattle.table_laws.specs.Views.{IsNewest, ListingIsNewest, IsLater, ReadsNeverFall, ReadsCoverCommits}
use Rattle.table_laws.proofs.Sessions.{SessionKnows}
use Rattle.table_laws.proofs.Puts.{or_else}
use Rattle.table_laws.proofs.Shown.{one_under}
use Rattle.table_laws.proofs.Tries.{put_under-front}
use Rattle.table_laws.proofs.Readings.{some_put}
use Rattle.table_laws.proofs.Listings.{given_by, listing_is_newest, newest_there, listed_object}
use Rattle.table_laws.proofs.Journals.{StandsAt}
use Rattle.table_laws.proofs.Ends.{stands_after}

same_number : (a b : ℕ) → a ≡ b → (a == b) ≡ true
same_number a b is = grind (arith, nat_tests)

-- a moment among others, with what comes before it and after it
record IsAt (moments before : List Moment) (m : Moment) : Type 0 where
  after : List Moment
  parts : moments ≡ before ++ m ∷ after

one_more : (x : Moment) (ms before : List Moment) (m : Moment) → IsAt ms before m → IsAt (x ∷ ms) (x ∷ before) m
one_more x ms before m a = record { after = a.after; parts = ap (λ (l : List Moment). x ∷ l) a.parts }

-- the moment of a statement's listing
record ListedAt (moments : List Moment) (t : Tag) (v : ℕ) : Type 0 where
  before : List Moment
  m : Moment
  at : IsAt moments before m
  whose : m.entry.tag ≡ t
  call : m.entry.call ≡ ListNames log_prefix
  listed : List Listed
  answer : m.entry.answer ≡ Names listed
  is : newest listed ≡ Some v

first_of : (a b : Option ℕ) (v : ℕ) → or_first a b ≡ Some v → (a ≡ Some v) ⊎ (b ≡ Some v)
first_of None b v h = inr h
first_of (Some w) b v h = inl h

listed_later : (x : Moment) (ms : List Moment) (t : Tag) (v : ℕ) → ListedAt ms t v → ListedAt (x ∷ ms) t v
listed_later x ms t v l = record { before = x ∷ l.before; m = l.m; at = one_more x ms l.before l.m l.at; whose = l.whose; call = l.call; listed = l.listed; answer = l.answer; is = l.is }

listed_at : (ms : List Moment) (t : Tag) (v : ℕ) → version_read (own t (entries_of ms)) ≡ Some v → ListedAt ms t v
listed_at [] t v h = cc
listed_at (x ∷ ms) t v h = by (same_tag t x.entry.tag) refl h (listed_at ms t v)
  where
    by : (c : Bool) → same_tag t x.entry.tag ≡ c → first_given listed_by (if c then x.entry ∷ own t (entries_of ms) else own t (entries_of ms)) ≡ Some v → (version_read (own t (entries_of ms)) ≡ Some v → ListedAt ms t v) → ListedAt (x ∷ ms) t v
    by false e k rest = listed_later x ms t v (rest k)
    by true e k rest = elim (first_of (listed_by x.entry.call x.entry.answer) (version_read (own t (entries_of ms))) v k) [
      | inl here ↦
          let g = given_by x.entry.call x.entry.answer v here in
          record { before = []; m = x; at = record { after = ms; parts = refl }; whose = sym (same_tag_is t x.entry.tag e); call = g.0; listed = g.1; answer = g.2; is = g.3 }
      | inr there ↦ listed_later x ms t v (rest there)
    ]

-- the puts of a part of the moments, and of all
history-append : (os : Objects) (a b : List Moment) → history os (a ++ b) ≡ history os a ++ history (objects_after os a) b
history-append os [] b = refl
history-append os (x ∷ a) b = ap (λ (l : List Put). puts_at os x ++ l) (history-append (after_moment os x) a b) ∙ sym (append_assoc (puts_at os x) (history (after_moment os x) a) (history (objects_after (after_moment os x) a) b))

still_put : (os : Objects) (a b : List Moment) (n : List ℕ) (p : Put) → put_under (history os a) n ≡ Some p → put_under (history os (a ++ b)) n ≡ Some p
still_put os a b n p h = ap (λ (l : List Put). put_under l n) (history-append os a b) ∙ put_under-front (history os a) (history (objects_after os a) b) n p h

-- the moment of a put, at which its name has it
record PutAt (os : Objects) (moments : List Moment) (n : List ℕ) (p : Put) : Type 0 where
  before : List Moment
  m : Moment
  at : IsAt moments before m
  whose : m.entry.tag ≡ p.tag
  there : put_under (history os (before ++ m ∷ [])) n ≡ Some p

put_under-append : (xs ys : List Put) (n : List ℕ) → put_under (xs ++ ys) n ≡ or_else (put_under xs n) (put_under ys n)
put_under-append [] ys n = refl
put_under-append (q ∷ xs) ys n =
    elim (bytes_eq q.name n) as (λ b. (if b then Some q else put_under (xs ++ ys) n) ≡ or_else (if b then Some q else put_under xs n) (put_under ys n)) [ true ↦ refl | false ↦ put_under-append xs ys n ]

-- what a moment puts is of its statement
done_put : (a : Answer) (u : Bool) (l : List Put) (n : List ℕ) (p : Put) → put_under (if_done a u l) n ≡ Some p → put_under l n ≡ Some p
done_put Fault true l n p h = h
done_put Fault false l n p h = cc
done_put (Body b) u l n p h = h
done_put Missing u l n p h = h
done_put Stored u l n p h = h
done_put Taken u l n p h = h
done_put (Names k) u l n p h = h
done_put Gone u l n p h = h
done_put (Time t) u l n p h = h
done_put Waited u l n p h = h

free_put : (o : Option Object) (q : Put) (n : List ℕ) (p : Put) → put_under (put_if_free o q) n ≡ Some p → q ≡ p
free_put None q n p h = (one_under q p n h).1
free_put (Some there) q n p h = cc

call_put : (os : Objects) (tag : Tag) (clock : ℕ) (call : Call) (n : List ℕ) (p : Put) → put_under (puts_of os tag clock call) n ≡ Some p → tag ≡ p.tag
call_put os tag clock (PutNew name body) n p h = ap (λ (q : Put). q.tag) (free_put (object_at os name) (record { tag = tag; name = name; body = body; at = clock }) n p h)
call_put os tag clock (Get name) n p h = cc
call_put os tag clock (Replace name body) n p h = cc
call_put os tag clock (ListNames prefix) n p h = cc
call_put os tag clock (Delete name) n p h = cc
call_put os tag clock Now n p h = cc
call_put os tag clock (Wait t) n p h = cc

put_at : (os : Objects) (ms : List Moment) (n : List ℕ) (p : Put) → put_under (history os ms) n ≡ Some p → PutAt os ms n p
put_at os [] n p h = cc
put_at os (x ∷ ms) n p h = by (put_under (puts_at os x) n) refl (sym (put_under-append (puts_at os x) (history (after_moment os x) ms) n) ∙ h) (put_at (after_moment os x) ms n p)
  where
    by : (o : Option Put) → put_under (puts_at os x) n ≡ o → or_else o (put_under (history (after_moment os x) ms) n) ≡ Some p
        → (put_under (history (after_moment os x) ms) n ≡ Some p → PutAt (after_moment os x) ms n p) → PutAt os (x ∷ ms) n p
    by (Some q) e k rest =
        let here : put_under (puts_at os x) n ≡ Some p = e ∙ k in
        record {
          before = [];
          m = x;
          at = record { after = ms; parts = refl };
          whose = call_put os x.entry.tag x.clock x.entry.call n p (done_put x.entry.answer x.took_effect (puts_of os x.entry.tag x.clock x.entry.call) n p here);
          there = put_under-front (puts_at os x) [] n p here;
        }
    by None e k rest =
        let r = rest k in
        record {
          before = x ∷ r.before;
          m = r.m;
          at = one_more x ms r.before r.m r.at;
          whose = r.whose;
          there = put_under-append (puts_at os x) (history (after_moment os x) (r.before ++ r.m ∷ [])) n
              ∙ ap (λ (o : Option Put). or_else o (put_under (history (after_moment os x) (r.before ++ r.m ∷ [])) n)) e ∙ r.there;
        }

-- of a session's statements the later one's entries come later
rises_rest : (n : ℕ) (x : Moment) (ms : List Moment) → Rises (of_actor n (entries_of (x ∷ ms))) → Rises (of_actor n (entries_of ms))
rises_rest n x ms h = by (x.entry.tag.actor == n) h
  where
    by : (c : Bool) → Rises (if c then x.entry ∷ of_actor n (entries_of ms) else of_actor n (entries_of ms)) → Rises (of_actor n (entries_of ms))
    by true k = k.1
    by false k = k

none_earlier : (s n : ℕ) (before after : List Moment) (m : Moment) → m.entry.tag.actor ≡ n → NoneEarlier s (of_actor n (entries_of (before ++ m ∷ after))) → s ≤ m.entry.tag.statement
none_earlier s n [] after m is h = (subst (λ (c : Bool). NoneEarlier s (if c then m.entry ∷ of_actor n (entries_of after) else of_actor n (entries_of after))) (same_number m.entry.tag.actor n is) h).0
none_earlier s n (x ∷ before) after m is h = by (x.entry.tag.actor == n) h (none_earlier s n before after m is)
  where
    by : (c : Bool) → NoneEarlier s (if c then x.entry ∷ of_actor n (entries_of (before ++ m ∷ after)) else of_actor n (entries_of (before ++ m ∷ after)))
        → (NoneEarlier s (of_actor n (entries_of (before ++ m ∷ after))) → s ≤ m.entry.tag.statement) → s ≤ m.entry.tag.statement
    by true k rest = rest k.1
    by false k rest = rest k

-- the second of two moments, with what lies between
record IsBehind (first : List Moment) (m : Moment) (second : List Moment) : Type 0 where
  between : List Moment
  parts : second ≡ first ++ m ∷ between

order : (ms before later : List Moment) (m k : Moment) → IsAt ms before m → IsAt ms later k → IsLater m.entry.tag k.entry.tag → Rises (of_actor k.entry.tag.actor (entries_of ms)) → IsBehind before m later
order ms before later m k a b is rises = from ms before later a.after b.after a.parts b.parts rises
  where
    same_head : (x y : Moment) (xs ys : List Moment) → x ∷ xs ≡ y ∷ ys → (x ≡ y) × (xs ≡ ys)
    same_head x y xs ys h = (cc, cc)

    from : (ms before later after rest : List Moment) → ms ≡ before ++ m ∷ after → ms ≡ later ++ k ∷ rest → Rises (of_actor k.entry.tag.actor (entries_of ms)) → IsBehind before m later
    from ms [] [] after rest p q r =
        let same = (same_head m k after rest (sym p ∙ q)).0 in
        let lt = is.1 in
        let e : m.entry.tag.statement ≡ k.entry.tag.statement = ap (λ (x : Moment). x.entry.tag.statement) same in
        absurd (omega (arith, lt, e))
    from ms [] (y ∷ later) after rest p q r =
        let two = same_head m y after (later ++ k ∷ rest) (sym p ∙ q) in
        record { between = later; parts = ap (λ (x : Moment). x ∷ later) (sym two.0) }
    from ms (x ∷ before) [] after rest p q r =
        let two = same_head x k (before ++ m ∷ after) rest (sym p ∙ q) in
        let here : Rises (of_actor k.entry.tag.actor (entries_of (k ∷ (before ++ m ∷ after)))) = subst (λ (l : List Moment). Rises (of_actor k.entry.tag.actor (entries_of l))) (p ∙ ap (λ (y : Moment). y ∷ (before ++ m ∷ after)) two.0) r in
        let le = none_earlier k.entry.tag.statement k.entry.tag.actor before after m is.0 (subst (λ (c : Bool). Rises (if c then k.entry ∷ of_actor k.entry.tag.actor (entries_of (before ++ m ∷ after)) else of_actor k.entry.tag.actor (entries_of (before ++ m ∷ after)))) (same_number k.entry.tag.actor k.entry.tag.actor refl) here).0 in
        let lt = is.1 in
        absurd (omega (arith, lt, le))
    from ms (x ∷ before) (y ∷ later) after rest p q r =
        let two = same_head x y (before ++ m ∷ after) (later ++ k ∷ rest) (sym p ∙ q) in
        let less = subst (λ (l : List Moment). Rises (of_actor k.entry.tag.actor (entries_of l))) p r in
        let rest_of = from (before ++ m ∷ after) before later after rest refl two.1 (rises_rest k.entry.tag.actor x (before ++ m ∷ after) less) in
        record { between = rest_of.between; parts = ap (λ (l : List Moment). y ∷ l) rest_of.parts ∙ ap (λ (z : Moment). z ∷ (before ++ m ∷ rest_of.between)) (sym two.0) }

module _ (limit : ℕ) (script : Tag → Option Statement) (outcomes : Tag → Option Finish) (moments : List Moment) (legal : IsLegal [] 0 moments) (run : IsRun limit script outcomes (entries_of moments)) where
  abbrev K : Tag → List ℕ → List ℕ → Type 0
  K = SessionKnows (entries_of moments)

  abbrev At : List Moment → List Moment → Type 0
  At before rest = StandsAt K script (replies_of outcomes) run.tags [] [] [] 0 before rest

  at_moment : (before after : List Moment) (m : Moment) → moments ≡ before ++ m ∷ after → At before (m ∷ after)
  at_moment before after m parts = stands_after limit script outcomes moments legal run before (m ∷ after) parts

  -- a listing of the log, by the objects of its moment
  listing_is : (before after : List Moment) (m : Moment) (listed : List Listed) (r : At before (m ∷ after)) → m.entry.call ≡ ListNames log_prefix → m.entry.answer ≡ Names listed → listed ≡ listing r.os log_prefix
  listing_is before after m listed r call answer =
      same_names listed (listing r.os log_prefix) (subst (λ (a : Answer). Answers a (Names (listing r.os log_prefix))) answer (subst (λ (c : Call). Answers m.entry.answer (answer_of r.os m.clock c)) call (r.legal).2))
    where
      same_names : (a b : List Listed) → Names a ≡ Names b → a ≡ b
      same_names a b h = cc

  pub listing_at : ListingIsNewest moments
  listing_at before after m listed parts call answer =
      let r = at_moment before after m parts in
      subst (λ (l : List Listed). IsNewest (history [] before) (newest l)) (sym (listing_is before after m listed r call answer)) (listing_is_newest K script (replies_of outcomes) run.tags r.past r.os (history [] before) r.clock r.stands)

  -- the version that a statement read was the newest at some moment of its own
  record Saw (t : Tag) (v : ℕ) : Type 0 where
    place : ListedAt moments t v
    newest_then : IsNewest (history [] place.before) (Some v)
    small : v < 2 ^ 64

  saw : (t : Tag) (v : ℕ) → version_read (own t (entries_of moments)) ≡ Some v → Saw t v
  saw t v h =
      let l = listed_at moments t v h in
      let r = at_moment l.before (l.at).after l.m (l.at).parts in
      let is = listing_is l.before (l.at).after l.m l.listed r l.call l.answer in
      record {
        place = l;
        newest_then = subst (λ (o : Option ℕ). IsNewest (history [] l.before) o) l.is (listing_at l.before (l.at).after l.m l.listed (l.at).parts l.call l.answer);
        small = (listed_object r.os log_prefix v (newest_there (listing r.os log_prefix) v (sym (ap newest is) ∙ l.is))).0;
      }

  -- a version that was committed by a moment before is no newer
  no_newer : (ps : List Put) (v w : ℕ) (p : Put) → v < 2 ^ 64 → put_under ps (commit_text v) ≡ Some p → IsNewest ps (Some w) → v ≤ w
  no_newer ps v w p small there newest = by (nat_lt w v) refl
    where
      no_some : None ≡ Some p → ⊥
      no_some h = cc

      by : (c : Bool) → nat_lt w v ≡ c → v ≤ w
      by true e = let less : w < v = grind (arith, nat_tests) in absurd (no_some (sym (newest.1 v less small) ∙ there))
      by false e = grind (arith, nat_tests)

  later_of : (t u : Tag) (m k : Moment) → m.entry.tag ≡ t → k.entry.tag ≡ u → IsLater t u → IsLater m.entry.tag k.entry.tag
  later_of t u m k is also h = subst (λ (x : Tag). IsLater x k.entry.tag) (sym is) (subst (λ (y : Tag). IsLater t y) (sym also) h)

  pub reads_at : ReadsNeverFall moments
  reads_at t u v w later is also =
      let a = saw t v is in
      let b = saw u w also in
      let o = order moments (a.place).before (b.place).before (a.place).m (b.place).m (a.place).at (b.place).at (later_of t u (a.place).m (b.place).m (a.place).whose (b.place).whose later) (run.in_order (b.place).m.entry.tag.actor) in
      let p = some_put (put_under (history [] (a.place).before) (commit_text v)) (a.newest_then).0 in
      let there : put_under (history [] (b.place).before) (commit_text v) ≡ Some p.0 =
      ap (λ (ms : List Moment). put_under (history [] ms) (commit_text v)) o.parts ∙ still_put [] (a.place).before ((a.place).m ∷ o.between) (commit_text v) p.0 p.1 in
      no_newer (history [] (b.place).before) v w p.0 a.small there b.newest_then

  pub covers_at : ReadsCoverCommits moments
  covers_at p u v w small is later also =
      let a = put_at [] moments (commit_text v) p is in
      let b = saw u w also in
      let o = order moments a.before (b.place).before a.m (b.place).m a.at (b.place).at (later_of p.tag u a.m (b.place).m a.whose (b.place).whose later) (run.in_order (b.place).m.entry.tag.actor) in
      let there : put_under (history [] (b.place).before) (commit_text v) ≡ Some p =
      ap (λ (ms : List Moment). put_under (history [] ms) (commit_text v)) (o.parts ∙ sym (append_assoc a.before (a.m ∷ []) o.between)) ∙ still_put [] (a.before ++ a.m ∷ []) o.between (commit_text v) p a.there in
      no_newer (history [] (b.place).before) v w p small there b.newest_then
