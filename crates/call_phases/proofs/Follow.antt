-- What follows a phase of one call may be weakened, and is told by its answer.
use Rattle.std.proofs.Common.{◌≡◌, ℕ, List, [], ◌∷◌, refl}
use Rattle.edge_api.specs.declared.call.Answer.{Answer}
use Rattle.edge_api.specs.declared.call.Answer.TheVariants.{Fault, Body, Missing, Stored, Taken, Names, Gone, Time, Waited}
use Rattle.edge_api.specs.declared.call.Listed.{Listed}
use Rattle.call_phases.specs.Phases.{Entries, OnTime, OnNames, OnGot, OnPut, OnStored, OnGone, OnWaited, AtNow, AtList, AtGet, AtPutNew, AtPut, AtDelete, AtWait}

-- by the answer
pub on_time : {F G : Type 0} {N : ℕ → Type 0} (a : Answer) → OnTime a F N → (a ≡ Fault → F → G) → ((t : ℕ) → a ≡ Time t → N t → G) → G
on_time Fault h f n = f refl h
on_time (Time t) h f n = n t refl h
on_time (Body b) h f n = absurd h
on_time Missing h f n = absurd h
on_time Stored h f n = absurd h
on_time Taken h f n = absurd h
on_time (Names l) h f n = absurd h
on_time Gone h f n = absurd h
on_time Waited h f n = absurd h

pub on_names : {F G : Type 0} {N : List Listed → Type 0} (a : Answer) → OnNames a F N → (a ≡ Fault → F → G) → ((l : List Listed) → a ≡ Names l → N l → G) → G
on_names Fault h f n = f refl h
on_names (Names l) h f n = n l refl h
on_names (Body b) h f n = absurd h
on_names Missing h f n = absurd h
on_names Stored h f n = absurd h
on_names Taken h f n = absurd h
on_names Gone h f n = absurd h
on_names (Time t) h f n = absurd h
on_names Waited h f n = absurd h

pub on_got : {F M G : Type 0} {N : List ℕ → Type 0} (a : Answer) → OnGot a F M N → (a ≡ Fault → F → G) → (a ≡ Missing → M → G) → ((b : List ℕ) → a ≡ Body b → N b → G) → G
on_got Fault h f m n = f refl h
on_got Missing h f m n = m refl h
on_got (Body b) h f m n = n b refl h
on_got Stored h f m n = absurd h
on_got Taken h f m n = absurd h
on_got (Names l) h f m n = absurd h
on_got Gone h f m n = absurd h
on_got (Time t) h f m n = absurd h
on_got Waited h f m n = absurd h

pub on_put : {F S T G : Type 0} (a : Answer) → OnPut a F S T → (a ≡ Fault → F → G) → (a ≡ Stored → S → G) → (a ≡ Taken → T → G) → G
on_put Fault h f s t = f refl h
on_put Stored h f s t = s refl h
on_put Taken h f s t = t refl h
on_put (Body b) h f s t = absurd h
on_put Missing h f s t = absurd h
on_put (Names l) h f s t = absurd h
on_put Gone h f s t = absurd h
on_put (Time x) h f s t = absurd h
on_put Waited h f s t = absurd h

pub on_stored : {F D G : Type 0} (a : Answer) → OnStored a F D → (a ≡ Fault → F → G) → (a ≡ Stored → D → G) → G
on_stored Fault h f d = f refl h
on_stored Stored h f d = d refl h
on_stored (Body b) h f d = absurd h
on_stored Missing h f d = absurd h
on_stored Taken h f d = absurd h
on_stored (Names l) h f d = absurd h
on_stored Gone h f d = absurd h
on_stored (Time x) h f d = absurd h
on_stored Waited h f d = absurd h

pub on_gone : {F D G : Type 0} (a : Answer) → OnGone a F D → (a ≡ Fault → F → G) → (a ≡ Gone → D → G) → G
on_gone Fault h f d = f refl h
on_gone Gone h f d = d refl h
on_gone (Body b) h f d = absurd h
on_gone Missing h f d = absurd h
on_gone Stored h f d = absurd h
on_gone Taken h f d = absurd h
on_gone (Names l) h f d = absurd h
on_gone (Time x) h f d = absurd h
on_gone Waited h f d = absurd h

pub on_waited : {F D G : Type 0} (a : Answer) → OnWaited a F D → (a ≡ Fault → F → G) → (a ≡ Waited → D → G) → G
on_waited Fault h f d = f refl h
on_waited Waited h f d = d refl h
on_waited (Body b) h f d = absurd h
on_waited Missing h f d = absurd h
on_waited Stored h f d = absurd h
on_waited Taken h f d = absurd h
on_waited (Names l) h f d = absurd h
on_waited Gone h f d = absurd h
on_waited (Time x) h f d = absurd h

map_time : (a : Answer) (F G : Type 0) (N M : ℕ → Type 0) → (F → G) → ((t : ℕ) → N t → M t) → OnTime a F N → OnTime a G M
map_time Fault F G N M f n h = f h
map_time (Time t) F G N M f n h = n t h
map_time (Body b) F G N M f n h = h
map_time Missing F G N M f n h = h
map_time Stored F G N M f n h = h
map_time Taken F G N M f n h = h
map_time (Names l) F G N M f n h = h
map_time Gone F G N M f n h = h
map_time Waited F G N M f n h = h

map_names : (a : Answer) (F G : Type 0) (N M : List Listed → Type 0) → (F → G) → ((l : List Listed) → N l → M l) → OnNames a F N → OnNames a G M
map_names Fault F G N M f n h = f h
map_names (Names l) F G N M f n h = n l h
map_names (Body b) F G N M f n h = h
map_names Missing F G N M f n h = h
map_names Stored F G N M f n h = h
map_names Taken F G N M f n h = h
map_names Gone F G N M f n h = h
map_names (Time t) F G N M f n h = h
map_names Waited F G N M f n h = h

pub map_got : (a : Answer) (F G P Q : Type 0) (N M : List ℕ → Type 0) → (F → G) → (P → Q) → ((b : List ℕ) → N b → M b) → OnGot a F P N → OnGot a G Q M
map_got Fault F G P Q N M f m n h = f h
map_got Missing F G P Q N M f m n h = m h
map_got (Body b) F G P Q N M f m n h = n b h
map_got Stored F G P Q N M f m n h = h
map_got Taken F G P Q N M f m n h = h
map_got (Names l) F G P Q N M f m n h = h
map_got Gone F G P Q N M f m n h = h
map_got (Time t) F G P Q N M f m n h = h
map_got Waited F G P Q N M f m n h = h

map_put : (a : Answer) (F G S S' T T' : Type 0) → (F → G) → (S → S') → (T → T') → OnPut a F S T → OnPut a G S' T'
map_put Fault F G S S' T T' f s t h = f h
map_put Stored F G S S' T T' f s t h = s h
map_put Taken F G S S' T T' f s t h = t h
map_put (Body b) F G S S' T T' f s t h = h
map_put Missing F G S S' T T' f s t h = h
map_put (Names l) F G S S' T T' f s t h = h
map_put Gone F G S S' T T' f s t h = h
map_put (Time x) F G S S' T T' f s t h = h
map_put Waited F G S S' T T' f s t h = h

map_stored : (a : Answer) (F G D E : Type 0) → (F → G) → (D → E) → OnStored a F D → OnStored a G E
map_stored Fault F G D E f d h = f h
map_stored Stored F G D E f d h = d h
map_stored (Body b) F G D E f d h = h
map_stored Missing F G D E f d h = h
map_stored Taken F G D E f d h = h
map_stored (Names l) F G D E f d h = h
map_stored Gone F G D E f d h = h
map_stored (Time x) F G D E f d h = h
map_stored Waited F G D E f d h = h

map_gone : (a : Answer) (F G D E : Type 0) → (F → G) → (D → E) → OnGone a F D → OnGone a G E
map_gone Fault F G D E f d h = f h
map_gone Gone F G D E f d h = d h
map_gone (Body b) F G D E f d h = h
map_gone Missing F G D E f d h = h
map_gone Stored F G D E f d h = h
map_gone Taken F G D E f d h = h
map_gone (Names l) F G D E f d h = h
map_gone (Time x) F G D E f d h = h
map_gone Waited F G D E f d h = h

map_waited : (a : Answer) (F G D E : Type 0) → (F → G) → (D → E) → OnWaited a F D → OnWaited a G E
map_waited Fault F G D E f d h = f h
map_waited Waited F G D E f d h = d h
map_waited (Body b) F G D E f d h = h
map_waited Missing F G D E f d h = h
map_waited Stored F G D E f d h = h
map_waited Taken F G D E f d h = h
map_waited (Names l) F G D E f d h = h
map_waited Gone F G D E f d h = h
map_waited (Time x) F G D E f d h = h

module _ {O P : Type 0} (o : O → P) where
  pub map_now : (F G : Entries → Type 0) (N M : ℕ → Entries → Type 0) (es : Entries) → ((rest : Entries) → F rest → G rest) → ((t : ℕ) (rest : Entries) → N t rest → M t rest)
      → AtNow O F N es → AtNow P G M es
  map_now F G N M [] f n h = o h
  map_now F G N M (e ∷ es) f n h = (h.0, map_time e.answer _ _ (λ t. N t es) (λ t. M t es) (f es) (λ t. n t es) h.1)

  pub map_list : (prefix : List ℕ) (F G : Entries → Type 0) (N M : List Listed → Entries → Type 0) (es : Entries) → ((rest : Entries) → F rest → G rest) → ((l : List Listed) (rest : Entries) → N l rest → M l rest)
      → AtList O prefix F N es → AtList P prefix G M es
  map_list prefix F G N M [] f n h = o h
  map_list prefix F G N M (e ∷ es) f n h = (h.0, map_names e.answer _ _ (λ l. N l es) (λ l. M l es) (f es) (λ l. n l es) h.1)

  pub map_get : (name : List ℕ) (F G R S : Entries → Type 0) (N M : List ℕ → Entries → Type 0) (es : Entries) → ((rest : Entries) → F rest → G rest) → ((rest : Entries) → R rest → S rest) → ((b : List ℕ) (rest : Entries) → N b rest → M b rest)
      → AtGet O name F R N es → AtGet P name G S M es
  map_get name F G R S N M [] f m n h = o h
  map_get name F G R S N M (e ∷ es) f m n h = (h.0, map_got e.answer _ _ _ _ (λ b. N b es) (λ b. M b es) (f es) (m es) (λ b. n b es) h.1)

  pub map_put_new : (name body : List ℕ) (F G S S' T T' : Entries → Type 0) (es : Entries) → ((rest : Entries) → F rest → G rest) → ((rest : Entries) → S rest → S' rest) → ((rest : Entries) → T rest → T' rest)
      → AtPutNew O name body F S T es → AtPutNew P name body G S' T' es
  map_put_new name body F G S S' T T' [] f s t h = o h
  map_put_new name body F G S S' T T' (e ∷ es) f s t h = (h.0, map_put e.answer _ _ _ _ _ _ (f es) (s es) (t es) h.1)

  pub map_replace : (name body : List ℕ) (F G D E : Entries → Type 0) (es : Entries) → ((rest : Entries) → F rest → G rest) → ((rest : Entries) → D rest → E rest)
      → AtPut O name body F D es → AtPut P name body G E es
  map_replace name body F G D E [] f d h = o h
  map_replace name body F G D E (e ∷ es) f d h = (h.0, map_stored e.answer _ _ _ _ (f es) (d es) h.1)

  pub map_delete : (name : List ℕ) (F G D E : Entries → Type 0) (es : Entries) → ((rest : Entries) → F rest → G rest) → ((rest : Entries) → D rest → E rest)
      → AtDelete O name F D es → AtDelete P name G E es
  map_delete name F G D E [] f d h = o h
  map_delete name F G D E (e ∷ es) f d h = (h.0, map_gone e.answer _ _ _ _ (f es) (d es) h.1)

  pub map_wait : (for_time : ℕ) (F G D E : Entries → Type 0) (es : Entries) → ((rest : Entries) → F rest → G rest) → ((rest : Entries) → D rest → E rest)
      → AtWait O for_time F D es → AtWait P for_time G E es
  map_wait for_time F G D E [] f d h = o h
  map_wait for_time F G D E (e ∷ es) f d h = (h.0, map_waited e.answer _ _ _ _ (f es) (d es) h.1)
