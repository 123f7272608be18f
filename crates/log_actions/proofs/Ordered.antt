-- A value that was read has each object's members in byte order, each name once.
use Rattle.std.proofs.Common.{◌≡◌, ℕ, List, [], ◌∷◌, map, Bool, true, false, cond, Option, Some, None, option_map, option_and_then, refl, ap, ◌∙◌}
use Rattle.std.specs.declared.cmp.Ordering.{Ordering}
use Rattle.std.specs.declared.cmp.Ordering.TheVariants.{Less, Equal, Greater}
use Rattle.std.specs.Ordering.{nat_cmp, match_ordering, ordering_reverse}
use Rattle.std.specs.Cmp.Lexicographic.{slice_cmp}
use Rattle.std.specs.List.{AllByRecursion}
use Rattle.std.specs.List.Sorted.{IsStrictlySortedBy}
use Rattle.std.specs.Str.{is_utf8}
use Rattle.std.proofs.lemmas.Cmp.{nat_list_cmp_total}
use Rattle.json.specs.Json as json
use Rattle.json.specs.Lex.{tokens}
use Rattle.serde_json.specs.Data.{Num, Data, null, boolean, number, string, array, object, Items, no_items, item, Members, no_members, member, put}
use Rattle.serde_json.specs.Find.{get, get_member}
use Rattle.serde_json.specs.Read.{number_of, of_json, of_items, of_members, max_depth, read}
use Rattle.json_lines.specs.Kinds.{as_itself, unless_null, present, text_or_null, TextEntry, with_entry, entries_in, as_text_map, nullables_in, as_nullable_map}
use Rattle.json_lines.specs.Lines.{value_of_line, object_of_line}
use Rattle.json_lines.specs.Single.{put_first, present_members, only_one, single_member, Named}
use Rattle.log_actions.specs.Whole.{IsMap}

-- P of what is there
abbrev pub Each : {A : Type 0} → (A → Type 0) → Option A → Type 0
Each P None = Unit {0}
Each P (Some x) = P x

pub Each-map : {A B : Type 0} (P : A → Type 0) (Q : B → Type 0) (f : A → B) (o : Option A) → ((x : A) → P x → Q (f x)) → Each P o → Each Q (option_map f o)
Each-map P Q f None h e = tt
Each-map P Q f (Some x) h e = h x e

pub Each-then : {A B : Type 0} (P : A → Type 0) (Q : B → Type 0) (f : A → Option B) (o : Option A) → ((x : A) → P x → Each Q (f x)) → Each P o → Each Q (option_and_then f o)
Each-then P Q f None h e = tt
Each-then P Q f (Some x) h e = h x e

pub Each-weaken : {A : Type 0} (P Q : A → Type 0) (o : Option A) → ((x : A) → P x → Q x) → Each P o → Each Q o
Each-weaken P Q None h e = tt
Each-weaken P Q (Some x) h e = h x e

abbrev Under : List ℕ → Members → Type 0
Under k no_members = Unit {0}
Under k (member l d ms) = (slice_cmp nat_cmp k l ≡ Less) × Under k ms

abbrev mutual
  pub Ordered : Data → Type 0
  Ordered null = Unit {0}
  Ordered (boolean b) = Unit {0}
  Ordered (number n) = Unit {0}
  Ordered (string s) = Unit {0}
  Ordered (array ds) = OrderedItems ds
  Ordered (object ms) = OrderedMembers ms

  pub OrderedItems : Items → Type 0
  OrderedItems no_items = Unit {0}
  OrderedItems (item d ds) = Ordered d × OrderedItems ds

  pub OrderedMembers : Members → Type 0
  OrderedMembers no_members = Unit {0}
  OrderedMembers (member k d ms) = Ordered d × Under k ms × OrderedMembers ms

under_all : (k l : List ℕ) (ms : Members) → slice_cmp nat_cmp k l ≡ Less → Under l ms → Under k ms
under_all k l no_members less h = tt
under_all k l (member m d ms) less h = (nat_list_cmp_total.trans k l m less h.0, under_all k l ms less h.1)

placed_under : (l k m : List ℕ) (o : Ordering) (d e : Data) (ms later : Members) → slice_cmp nat_cmp l k ≡ Less → slice_cmp nat_cmp l m ≡ Less → Under l ms → Under l later
    → Under l (match_ordering o (member k d (member m e ms)) (member m d ms) (member m e later))
placed_under l k m Less d e ms later p q all more = (p, (q, all))
placed_under l k m Equal d e ms later p q all more = (q, all)
placed_under l k m Greater d e ms later p q all more = (q, more)

Under-put : (l k : List ℕ) (d : Data) (ms : Members) → slice_cmp nat_cmp l k ≡ Less → Under l ms → Under l (put k d ms)
Under-put l k d no_members p all = (p, tt)
Under-put l k d (member m e ms) p all = placed_under l k m (slice_cmp nat_cmp k m) d e ms (put k d ms) p all.0 all.1 (Under-put l k d ms p all.1)

placed_ordered : (k l : List ℕ) (o : Ordering) (d e : Data) (ms : Members) → slice_cmp nat_cmp k l ≡ o → Ordered d → Ordered e → Under l ms → OrderedMembers ms → OrderedMembers (put k d ms)
    → OrderedMembers (match_ordering o (member k d (member l e ms)) (member l d ms) (member l e (put k d ms)))
placed_ordered k l Less d e ms is p q under all more = (p, (is, under_all k l ms is under), (q, under, all))
placed_ordered k l Equal d e ms is p q under all more = (p, under, all)
placed_ordered k l Greater d e ms is p q under all more = (q, Under-put l k d ms (nat_list_cmp_total.antisymm l k ∙ ap ordering_reverse is) under, more)

OrderedMembers-put : (k : List ℕ) (d : Data) (ms : Members) → Ordered d → OrderedMembers ms → OrderedMembers (put k d ms)
OrderedMembers-put k d no_members p all = (p, tt, tt)
OrderedMembers-put k d (member l e ms) p all = placed_ordered k l (slice_cmp nat_cmp k l) d e ms refl p all.0 all.1 all.2 (OrderedMembers-put k d ms p all.2)

number_ordered : (o : Option Num) → Each Ordered (option_map number o)
number_ordered None = tt
number_ordered (Some n) = tt

mutual
  ordered_json : (j : json.Json) → Each Ordered (of_json j)
  ordered_json json.null = tt
  ordered_json (json.boolean b) = tt
  ordered_json (json.number s) = number_ordered (number_of s)
  ordered_json (json.string s) = tt
  ordered_json (json.array js) = Each-map OrderedItems Ordered array (of_items js) (λ ds h. h) (ordered_items js)
  ordered_json (json.object ms) = Each-map OrderedMembers Ordered object (of_members ms no_members) (λ ds h. h) (ordered_members ms no_members tt)

  ordered_items : (js : json.Items) → Each OrderedItems (of_items js)
  ordered_items json.no_items = tt
  ordered_items (json.item j js) = Each-then Ordered OrderedItems (λ d. option_map (item d) (of_items js)) (of_json j) (λ d p. Each-map OrderedItems OrderedItems (item d) (of_items js) (λ ds q. (p, q)) (ordered_items js)) (ordered_json j)

  ordered_members : (ms : json.Members) (found : Members) → OrderedMembers found → Each OrderedMembers (of_members ms found)
  ordered_members json.no_members found h = h
  ordered_members (json.member k j ms) found h = Each-then Ordered OrderedMembers (λ d. of_members ms (put k d found)) (of_json j) (λ d p. ordered_members ms (put k d found) (OrderedMembers-put k d found p h)) (ordered_json j)

ordered_of : (o : Option json.Json) → Each Ordered (option_and_then of_json o)
ordered_of None = tt
ordered_of (Some j) = ordered_json j

ordered_value : (b : Bool) (o : Option Data) → Each Ordered o → Each Ordered (cond b o None)
ordered_value true o h = h
ordered_value false o h = tt

ordered_itself : (d : Data) → Ordered d → Each Ordered (as_itself d)
ordered_itself null h = tt
ordered_itself (boolean b) h = tt
ordered_itself (number n) h = tt
ordered_itself (string s) h = tt
ordered_itself (array ds) h = tt
ordered_itself (object ms) h = h

pub ordered_line : (line : List ℕ) → Each Ordered (object_of_line line)
unfolding object_of_line
ordered_line line = Each-then Ordered Ordered as_itself (value_of_line line) ordered_itself (ordered_value (is_utf8 line) (read line) (ordered_of (option_and_then (λ p. json.if_last p.0 p.1) (json.value max_depth (tokens line)))))

-- members
ordered_present : (d : Data) → Ordered d → Each Ordered (unless_null d)
ordered_present null h = tt
ordered_present (boolean b) h = tt
ordered_present (number n) h = tt
ordered_present (string s) h = tt
ordered_present (array ds) h = h
ordered_present (object ms) h = h

AllNamed : List Named → Type 0
AllNamed [] = Unit {0}
AllNamed (n ∷ ns) = Ordered n.1 × AllNamed ns

first_named : (k : List ℕ) (o : Option Data) (ns : List Named) → Each Ordered o → AllNamed ns → AllNamed (put_first k o ns)
unfolding AllNamed
first_named k None ns h all = all
first_named k (Some d) ns h all = (h, all)

all_named : (ms : Members) → OrderedMembers ms → AllNamed (present_members ms)
unfolding AllNamed
all_named no_members h = tt
all_named (member k d ms) h = first_named k (unless_null d) (present_members ms) (ordered_present d h.0) (all_named ms h.2)

one_named : (ns : List Named) → AllNamed ns → Each (λ n. Ordered n.1) (only_one ns)
unfolding AllNamed
one_named [] h = tt
one_named (n ∷ []) h = h.0
one_named (n ∷ m ∷ ns) h = tt

pub ordered_single : (d : Data) → Ordered d → Each (λ n. Ordered n.1) (single_member d)
unfolding single_member
ordered_single null h = tt
ordered_single (boolean b) h = tt
ordered_single (number n) h = tt
ordered_single (string s) h = tt
ordered_single (array ds) h = tt
ordered_single (object ms) h = one_named (present_members ms) (all_named ms h)

chosen : (o : Ordering) (a b : Option Data) → Each Ordered a → Each Ordered b → Each Ordered (match_ordering o a b a)
chosen Less a b p q = p
chosen Equal a b p q = q
chosen Greater a b p q = p

ordered_get : (k : List ℕ) (ms : Members) → OrderedMembers ms → Each Ordered (get_member k ms)
ordered_get k no_members h = tt
ordered_get k (member l e ms) h = chosen (slice_cmp nat_cmp k l) (get_member k ms) (Some e) (ordered_get k ms h.2) h.0

ordered_member : (k : List ℕ) (d : Data) → Ordered d → Each Ordered (get k d)
ordered_member k null h = tt
ordered_member k (boolean b) h = tt
ordered_member k (number n) h = tt
ordered_member k (string s) h = tt
ordered_member k (array ds) h = tt
ordered_member k (object ms) h = ordered_get k ms h

pub ordered_at : (k : List ℕ) (d : Data) → Ordered d → Each Ordered (present k d)
unfolding present
ordered_at k d h = Each-then Ordered Ordered unless_null (get k d) ordered_present (ordered_member k d h)

-- maps
abbrev Over : List ℕ → List (List ℕ) → Type 0
Over k ks = AllByRecursion (λ y. slice_cmp nat_cmp k y ≡ Less) ks

record Mapped (ms : Members) (ks : List (List ℕ)) : Type 0 where
  ascends : IsStrictlySortedBy (slice_cmp nat_cmp) ks
  over : (k : List ℕ) → Under k ms → Over k ks

mapped_entry : (k : List ℕ) (d : Data) (ms : Members) (t : Option (List ℕ)) (es : List TextEntry) → Under k ms → Mapped ms (map (λ e. e.name) es) → Mapped (member k d ms) (map (λ e. e.name) (with_entry k t es))
unfolding IsStrictlySortedBy
mapped_entry k d ms None es under h = record { ascends = h.ascends; over = λ l u. h.over l u.1 }
mapped_entry k d ms (Some t) es under h = record { ascends = (h.over k under, h.ascends); over = λ l u. (u.0, h.over l u.1) }

with_text : (k : List ℕ) (d : Data) (ms : Members) (o : Option (Option (List ℕ))) → Under k ms → Each (λ es. Mapped ms (map (λ e. e.name) es)) (entries_in ms)
    → Each (λ es. Mapped (member k d ms) (map (λ e. e.name) es)) (option_and_then (λ t. option_map (with_entry k t) (entries_in ms)) o)
with_text k d ms None under rest = tt
with_text k d ms (Some t) under rest =
    Each-map (λ es. Mapped ms (map (λ e. e.name) es)) (λ es. Mapped (member k d ms) (map (λ e. e.name) es)) (with_entry k t) (entries_in ms) (λ es m. mapped_entry k d ms t es under m) rest

mapped : (ms : Members) → OrderedMembers ms → Each (λ es. Mapped ms (map (λ e. e.name) es)) (entries_in ms)
unfolding IsStrictlySortedBy
mapped no_members h = record { ascends = tt; over = λ k u. tt }
mapped (member k d ms) h = with_text k d ms (text_or_null d) h.1 (mapped ms h.2)

pub map_ascends : (d : Data) → Ordered d → Each IsMap (as_text_map d)
unfolding as_text_map
map_ascends null h = tt
map_ascends (boolean b) h = tt
map_ascends (number n) h = tt
map_ascends (string s) h = tt
map_ascends (array ds) h = tt
map_ascends (object ms) h = Each-weaken (λ es. Mapped ms (map (λ e. e.name) es)) IsMap (entries_in ms) (λ es m. m.ascends) (mapped ms h)

with_value : (k : List ℕ) (d : Data) (ms : Members) (o : Option (Option (List ℕ))) → Under k ms → Each (λ vs. Mapped ms (map (λ v. v.name) vs)) (nullables_in ms)
    → Each (λ vs. Mapped (member k d ms) (map (λ v. v.name) vs)) (option_and_then (λ t. option_map (λ vs. record { name = k; value = t } ∷ vs) (nullables_in ms)) o)
unfolding IsStrictlySortedBy
with_value k d ms None under rest = tt
with_value k d ms (Some t) under rest =
    Each-map (λ vs. Mapped ms (map (λ v. v.name) vs)) (λ vs. Mapped (member k d ms) (map (λ v. v.name) vs)) (λ vs. record { name = k; value = t } ∷ vs) (nullables_in ms)
    (λ vs m. record { ascends = (m.over k under, m.ascends); over = λ l u. (u.0, m.over l u.1) }) rest

valued : (ms : Members) → OrderedMembers ms → Each (λ vs. Mapped ms (map (λ v. v.name) vs)) (nullables_in ms)
unfolding IsStrictlySortedBy
valued no_members h = record { ascends = tt; over = λ k u. tt }
valued (member k d ms) h = with_value k d ms (text_or_null d) h.1 (valued ms h.2)

pub values_ascend : (d : Data) → Ordered d → Each IsMap (as_nullable_map d)
unfolding as_nullable_map
values_ascend null h = tt
values_ascend (boolean b) h = tt
values_ascend (number n) h = tt
values_ascend (string s) h = tt
values_ascend (array ds) h = tt
values_ascend (object ms) h = Each-weaken (λ vs. Mapped ms (map (λ v. v.name) vs)) IsMap (nullables_in ms) (λ vs m. m.ascends) (valued ms h)
