-- The entries of an actor and those of a statement.
use Rattle.std.proofs.Common.{◌≡◌, ◌≢◌, ℕ, ◌==◌, ◌&&◌, Bool, true, false, List, [], ◌∷◌, ◌++◌, refl, sym, ◌∙◌, ap}
use Rattle.std.proofs.lemmas.List.{append-nil}
use Rattle.std.specs.Prelude.{if◌then◌else◌}
use Rattle.edge_api.specs.declared.call.JournalEntry.{JournalEntry}
use Rattle.edge_api.specs.declared.call.Tag.{Tag}
use Rattle.actor_core.specs.Entries.{of_actor, same_tag, own, AllOfActor}
use Rattle.actor_core.proofs.Lists.{equal-refl, equal_is, equal_not, not_equal}

-- a list of kept entries, cut in two
keep_both : (c : Bool) (e : JournalEntry) (a b both : List JournalEntry) → both ≡ a ++ b → (if c then e ∷ both else both) ≡ (if c then e ∷ a else a) ++ b
keep_both true e a b both is = ap (λ (l : List JournalEntry). e ∷ l) is
keep_both false e a b both is = is

-- the entries of an actor, one list after another
pub of_actor-append : (n : ℕ) (a b : List JournalEntry) → of_actor n (a ++ b) ≡ of_actor n a ++ of_actor n b
of_actor-append n [] b = refl
of_actor-append n (e ∷ a) b = keep_both (e.tag.actor == n) e (of_actor n a) (of_actor n b) (of_actor n (a ++ b)) (of_actor-append n a b)

-- the entries of a statement, one list after another
pub own-append : (t : Tag) (a b : List JournalEntry) → own t (a ++ b) ≡ own t a ++ own t b
own-append t [] b = refl
own-append t (e ∷ a) b = keep_both (same_tag t e.tag) e (own t a) (own t b) (own t (a ++ b)) (own-append t a b)

-- a tag names its own statement
pub same_tag-refl : (t : Tag) → same_tag t t ≡ true
same_tag-refl t = ap (λ (b : Bool). b && (t.statement == t.statement)) (equal-refl t.actor) ∙ equal-refl t.statement

-- both tests hold
both_true : (a b : Bool) → a && b ≡ true → (a ≡ true) × (b ≡ true)
both_true true true h = (refl, refl)
both_true true false h = absurd cc
both_true false b h = absurd cc

-- tags that name one statement are equal
pub same_tag_is : (a b : Tag) → same_tag a b ≡ true → a ≡ b
same_tag_is a b h =
    let two = both_true (a.actor == b.actor) (a.statement == b.statement) h in
    let actor : a.actor ≡ b.actor = equal_is a.actor b.actor two.0 in
    let statement : a.statement ≡ b.statement = equal_is a.statement b.statement two.1 in
    ap (λ (n : ℕ). record { actor = n; statement = a.statement }) actor ∙ ap (λ (n : ℕ). record { actor = b.actor; statement = n }) statement

-- one entry more
own_step : (t : Tag) (e : JournalEntry) (es : List JournalEntry) → own t es ≡ own t (of_actor t.actor es) → (c : Bool) → same_tag t e.tag ≡ c → (d : Bool) → (e.tag.actor == t.actor) ≡ d → own t (e ∷ es) ≡ own t (of_actor t.actor (e ∷ es))
own_step t e es rest true is true at =
    ap (λ (b : Bool). if b then e ∷ own t es else own t es) is ∙ ap (λ (l : List JournalEntry). e ∷ l) rest ∙ sym (ap (λ (b : Bool). if b then e ∷ own t (of_actor t.actor es) else own t (of_actor t.actor es)) is)
    ∙ sym (ap (λ (b : Bool). own t (if b then e ∷ of_actor t.actor es else of_actor t.actor es)) at)
own_step t e es rest true is false at = absurd (equal_not e.tag.actor t.actor at (sym (ap (λ (u : Tag). u.actor) (same_tag_is t e.tag is))))
own_step t e es rest false is true at =
    ap (λ (b : Bool). if b then e ∷ own t es else own t es) is ∙ rest ∙ sym (ap (λ (b : Bool). if b then e ∷ own t (of_actor t.actor es) else own t (of_actor t.actor es)) is)
    ∙ sym (ap (λ (b : Bool). own t (if b then e ∷ of_actor t.actor es else of_actor t.actor es)) at)
own_step t e es rest false is false at =
    ap (λ (b : Bool). if b then e ∷ own t es else own t es) is ∙ rest ∙ sym (ap (λ (b : Bool). own t (if b then e ∷ of_actor t.actor es else of_actor t.actor es)) at)

-- the entries of a statement are among those of its actor
pub own_among : (t : Tag) (es : List JournalEntry) → own t es ≡ own t (of_actor t.actor es)
own_among t [] = refl
own_among t (e ∷ es) = own_step t e es (own_among t es) (same_tag t e.tag) refl (e.tag.actor == t.actor) refl

-- the entries of an actor alone are all its own
pub of_actor_all : (n : ℕ) (es : List JournalEntry) → AllOfActor n es → of_actor n es ≡ es
of_actor_all n [] all = refl
of_actor_all n (e ∷ es) all =
    let here : (e.tag.actor == n) ≡ true = ap (λ (m : ℕ). m == n) all.0 ∙ equal-refl n in
    ap (λ (c : Bool). if c then e ∷ of_actor n es else of_actor n es) here ∙ ap (λ (l : List JournalEntry). e ∷ l) (of_actor_all n es all.1)

-- and none are of another
pub of_actor_none : (n m : ℕ) (es : List JournalEntry) → AllOfActor n es → n ≢ m → of_actor m es ≡ []
of_actor_none n m [] all differ = refl
of_actor_none n m (e ∷ es) all differ =
    let here : (e.tag.actor == m) ≡ false = not_equal e.tag.actor m (λ same. differ (sym all.0 ∙ same)) in
    ap (λ (c : Bool). if c then e ∷ of_actor m es else of_actor m es) here ∙ of_actor_none n m es all.1 differ

-- a journal that begins with the part of one actor: what comes later is of others
pub own_first : (n : ℕ) (p q : List JournalEntry) → AllOfActor n p → of_actor n q ≡ [] → (t : Tag) → t.actor ≡ n → own t (p ++ q) ≡ own t p
own_first n p q all none t is =
    let later : own t q ≡ [] = own_among t q ∙ ap (own t) (ap (λ (m : ℕ). of_actor m q) is ∙ none) in
    own-append t p q ∙ ap (λ (l : List JournalEntry). own t p ++ l) later ∙ append-nil (own t p)

-- a statement of another actor is in the later part
pub own_later : (n : ℕ) (p q : List JournalEntry) → AllOfActor n p → (t : Tag) → n ≢ t.actor → own t (p ++ q) ≡ own t (of_actor t.actor q)
own_later n p q all t differ =
    let first : own t p ≡ [] = own_among t p ∙ ap (own t) (of_actor_none n t.actor p all differ) in
    own-append t p q ∙ ap (λ (l : List JournalEntry). l ++ own t q) first ∙ own_among t q
