-- What is found among the members that are written.
use Rattle.std.proofs.Common.{◌≡◌, ℕ, Bool, true, false, cond, if◌then◌else◌, List, [], ◌∷◌, Option, Some, None, option_map, option_and_then, refl, sym, ap, ◌∙◌, subst, true≢false}
use Rattle.std.specs.Prelude.{IfSome}
use Rattle.std.specs.Str.{bytes_eq}
use Rattle.std.proofs.lemmas.Slice.Eq.{bytes_eq-Decides}
use Rattle.serde_json.specs.Data.{Data, object, Members, no_members, put}
use Rattle.serde_json.specs.Find.{get_member}
use Rattle.serde_json.proofs.Views.{get_member-put, get_member-put_other}
use Rattle.json_lines.specs.Kinds.{unless_null, present, needed, optional, if_there}
use Rattle.json_lines.specs.Written.{with_member}
use Rattle.log_actions.specs.Written.{Fields, members_with, members_of}

abbrev pub newer : Option Data → Option Data → Option Data
newer None d = d
newer (Some e) d = Some e

-- the value of the last field of this name
abbrev pub get_in : List ℕ → Option Data → Fields → Option Data
get_in q d [] = d
get_in q d (f ∷ fs) = get_in q (if bytes_eq q f.0 then newer f.1 d else d) fs

either_same : (b : Bool) (o : Option Data) → o ≡ cond b o o
either_same true o = refl
either_same false o = refl

put_found : (b : Bool) (q k : List ℕ) (d : Data) (ms : Members) → bytes_eq q k ≡ b → get_member q (put k d ms) ≡ (if b then Some d else get_member q ms)
put_found true q k d ms e = subst (λ n. get_member n (put k d ms) ≡ Some d) (sym ((bytes_eq-Decides q k).0 e)) (get_member-put k d ms)
put_found false q k d ms e = get_member-put_other q k d ms (λ same. true≢false (sym ((bytes_eq-Decides q k).1 same) ∙ e))

with_found : (q k : List ℕ) (o : Option Data) (ms : Members) → get_member q (with_member k o ms) ≡ (if bytes_eq q k then newer o (get_member q ms) else get_member q ms)
unfolding with_member
with_found q k None ms = either_same (bytes_eq q k) (get_member q ms)
with_found q k (Some d) ms = put_found (bytes_eq q k) q k d ms refl

all_found : (q : List ℕ) (ms : Members) (fs : Fields) → get_member q (members_with ms fs) ≡ get_in q (get_member q ms) fs
all_found q ms [] = refl
all_found q ms (f ∷ fs) = all_found q (with_member f.0 f.1 ms) fs ∙ ap (λ d. get_in q d fs) (with_found q f.0 f.1 ms)

pub present_in : (q : List ℕ) (fs : Fields) → present q (object (members_of fs)) ≡ option_and_then unless_null (get_in q None fs)
unfolding present members_of
present_in q fs = ap (option_and_then unless_null) (all_found q no_members fs)

pub needed_in : {A : Type 0} (kind : Data → Option A) (q : List ℕ) (fs : Fields) → needed kind q (object (members_of fs)) ≡ option_and_then kind (option_and_then unless_null (get_in q None fs))
unfolding needed
needed_in kind q fs = ap (option_and_then kind) (present_in q fs)

pub optional_in : {A : Type 0} (kind : Data → Option A) (q : List ℕ) (fs : Fields) → optional kind q (object (members_of fs)) ≡ if_there kind (option_and_then unless_null (get_in q None fs))
unfolding optional
optional_in kind q fs = ap (if_there kind) (present_in q fs)

-- a value that reads as x, where it is there
abbrev pub ReadsAs : {A : Type 0} → (Data → Option A) → Data → A → Type 0
ReadsAs kind d x = option_and_then kind (unless_null d) ≡ Some x

there : {A : Type 0} (kind : Data → Option A) (o : Option Data) (x : A) → option_and_then kind o ≡ Some x → if_there kind o ≡ Some (Some x)
there kind None x e = cc
there kind (Some d) x e = ap (option_map Some) e

pub optional_back : {A : Type 0} (kind : Data → Option A) (f : A → Data) (o : Option A) → IfSome o (λ x. ReadsAs kind (f x) x)
    → if_there kind (option_and_then unless_null (newer (option_map f o) None)) ≡ Some o
optional_back kind f None h = refl
optional_back kind f (Some x) h = there kind (unless_null (f x)) x h

pub lenient_back : {A : Type 0} (kind : Data → Option A) (f : A → Data) (o : Option A) → IfSome o (λ x. ReadsAs kind (f x) x)
    → option_and_then kind (option_and_then unless_null (newer (option_map f o) None)) ≡ o
lenient_back kind f None h = refl
lenient_back kind f (Some x) h = h

pub if_some : {A : Type 0} {P Q : A → Type 0} (o : Option A) → ((x : A) → P x → Q x) → IfSome o P → IfSome o Q
if_some None f h = tt
if_some (Some x) f h = f x h

pub each_some : {A : Type 0} (P : A → Type 0) (o : Option A) → ((x : A) → P x) → IfSome o P
each_some P None f = tt
each_some P (Some x) f = f x
