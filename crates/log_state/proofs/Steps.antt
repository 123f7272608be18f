-- Actions that are kept one after another.
use Rattle.std.proofs.Common.{◌≡◌, ◌+◌, ℕ, false, List, [], ◌∷◌, ◌++◌, None, length, map, refl, sym, ap, ◌∙◌, subst, arith}
use Rattle.log_actions.specs.declared.action.Action.{Action}
use Rattle.log_state.specs.declared.kept.Kept.{Kept}
use Rattle.log_state.specs.declared.keyed.Keyed.{Keyed}
use Rattle.log_state.specs.Keys.{with_key}
use Rattle.log_state.specs.Newest.{newer, newest, protocol_in, metadata_in, txn_on, action_on}
use Rattle.log_state.specs.Table.{found, txns_after, actions_after}
use Rattle.log_state.specs.Kept.{Keeps, IsSame, HasRoom}
use Rattle.std.specs.List.{AllByRecursion, IsDistinct}
use Rattle.std.specs.Map.{keys_of}
use Rattle.std.specs.Str.{bytes_eq}
use Rattle.log_state.proofs.InOrder.{turned}
use Rattle.log_state.proofs.Newer.{newer_step}

-- what is kept now, with the actions that are left, is what was kept with all of them
pub record Leads (old : Kept) (all rest : List Action) (now : Kept) : Type 0 where
  pub protocol : newer now.protocol (newest protocol_in rest) ≡ newer old.protocol (newest protocol_in all)
  pub meta : newer now.meta (newest metadata_in rest) ≡ newer old.meta (newest metadata_in all)
  pub txns : txns_after now.txns.entries rest ≡ txns_after old.txns.entries all
  pub actions : actions_after now.actions.entries rest ≡ actions_after old.actions.entries all
  pub txn : (app : List ℕ) → newer (found now.txns.entries app) (newest (txn_on app) rest) ≡ newer (found old.txns.entries app) (newest (txn_on app) all)
  pub action : (path : List ℕ) → newer (found now.actions.entries path) (newest (action_on path) rest) ≡ newer (found old.actions.entries path) (newest (action_on path) all)

pub at_start : (old now : Kept) (all : List Action) → IsSame old now → Leads old all all now
at_start old now all same = record {
  protocol = ap (λ x. newer x (newest protocol_in all)) same.protocol;
  meta = ap (λ x. newer x (newest metadata_in all)) same.meta;
  txns = ap (λ es. txns_after es all) same.txns;
  actions = ap (λ es. actions_after es all) same.actions;
  txn = λ app. ap (λ es. newer (found es app) (newest (txn_on app) all)) same.txns;
  action = λ path. ap (λ es. newer (found es path) (newest (action_on path) all)) same.actions;
}

pub one_step : (old now new : Kept) (all rest : List Action) (a : Action) → Leads old all (a ∷ rest) now → Keeps now (a ∷ []) new → Leads old all rest new
one_step old now new all rest a l k = record {
  protocol = newer_step protocol_in (newer old.protocol (newest protocol_in all)) a rest now.protocol new.protocol l.protocol k.protocol;
  meta = newer_step metadata_in (newer old.meta (newest metadata_in all)) a rest now.meta new.meta l.meta k.meta;
  txns = ap (λ es. txns_after es rest) k.txns ∙ l.txns;
  actions = ap (λ es. actions_after es rest) k.actions ∙ l.actions;
  txn = λ app. newer_step (txn_on app) (newer (found old.txns.entries app) (newest (txn_on app) all)) a rest (found now.txns.entries app) (found new.txns.entries app) (l.txn app) (k.txn app);
  action = λ path. newer_step (action_on path) (newer (found old.actions.entries path) (newest (action_on path) all)) a rest (found now.actions.entries path) (found new.actions.entries path) (l.action path) (k.action path);
}

pub at_end : (old now : Kept) (all : List Action) → Leads old all [] now → Keeps old all now
unfolding newest
at_end old now all l = record { protocol = l.protocol; meta = l.meta; txns = l.txns; actions = l.actions; txn = l.txn; action = l.action }

-- the actions without their keys
abbrev pub actions_of : List Keyed → List Action
actions_of ks = map (λ k. k.action) ks

pub keys_off : (all : List Action) → actions_of (map with_key all) ≡ all
keys_off [] = refl
keys_off (a ∷ more) = ap (λ (l : List Action). a ∷ l) (keys_off more)

-- what the loop keeps: with the lines that are left everything is kept, there is room for them, and each has its key
pub record Goes (old : Kept) (all : List Action) (rest : List Keyed) (now : Kept) : Type 0 where
  pub leads : Leads old all (actions_of rest) now
  pub keyed : rest ≡ map with_key (actions_of rest)
  pub room : HasRoom (length rest) now

pub begins : (old now : Kept) (all : List Action) (lines : List Keyed) → lines ≡ map with_key all → IsSame old now → HasRoom (length lines) now → Goes old all lines now
begins old now all lines is same room =
    let off : actions_of lines ≡ all = ap actions_of is ∙ keys_off all in
    record {
      leads = subst (λ (l : List Action). Leads old all l now) (sym off) (at_start old now all same);
      keyed = is ∙ ap (map with_key) (sym off);
      room = room;
    }

-- at the first of the lines that are left
module _ (old now : Kept) (all : List Action) (k : Keyed) (rest lines : List Keyed) (at : lines ≡ k ∷ rest) (g : Goes old all lines now) where
  here : Goes old all (k ∷ rest) now
  here = subst (λ (l : List Keyed). Goes old all l now) at g

  pub first_keyed : k ≡ with_key k.action
  first_keyed = let e = here.keyed in cc

  pub room_for_one : HasRoom 1 now
  room_for_one = record { txns = omega (arith, here.room.txns); actions = omega (arith, here.room.actions) }

  pub goes_on : (new : Kept) → Keeps now (k.action ∷ []) new → ((n : ℕ) → HasRoom (n + 1) now → HasRoom n new) → Goes old all rest new
  goes_on new keeps room = record {
    leads = one_step old now new all (actions_of rest) k.action here.leads keeps;
    keyed = let e = here.keyed in cc;
    room = room (length rest) (record { txns = omega (arith, here.room.txns); actions = omega (arith, here.room.actions) });
  }

pub goes_to_end : (old now : Kept) (all : List Action) (lines : List Keyed) → lines ≡ [] → Goes old all lines now → Keeps old all now
goes_to_end old now all lines at g = at_end old now all (subst (λ (l : List Keyed). Leads old all (actions_of l) now) at g.leads)

pub no_items : (ks : List Keyed) → length ks ≡ 0 → ks ≡ []
no_items [] e = refl
no_items (k ∷ ks) e = absurd cc

-- ---- copies

all_at : {V : Type 0} (P : List ℕ → Type 0) (done rest : List (List ℕ × V)) (name : List ℕ) (value : V) → AllByRecursion P (keys_of (done ++ (name, value) ∷ rest)) → P name
all_at P [] rest name value all = all.0
all_at P (e ∷ es) rest name value all = all_at P es rest name value all.1

not_before : {V : Type 0} (done rest : List (List ℕ × V)) (name : List ℕ) (value : V) → IsDistinct bytes_eq (keys_of (done ++ (name, value) ∷ rest)) → found done name ≡ None
unfolding IsDistinct
not_before [] rest name value d = refl
not_before (e ∷ es) rest name value d =
    let other : bytes_eq name e.0 ≡ false = turned name e.0 ∙ all_at (λ y. bytes_eq e.0 y ≡ false) es rest name value d.0 in
    rw other (not_before es rest name value d.1)

-- a name of a map isn't among those before it
pub fresh : {V : Type 0} (all done rest : List (List ℕ × V)) (name : List ℕ) (value : V) → IsDistinct bytes_eq (keys_of all) → done ++ (name, value) ∷ rest ≡ all → found done name ≡ None
fresh all done rest name value d is = not_before done rest name value (subst (λ l. IsDistinct bytes_eq (keys_of l)) (sym is) d)
