-- A data file is put before the commit that adds it: a history of which this holds, and one of which it is refuted.
-- ViewsMean cites first_holds and last_refuted, and the lemmas on lists.
use Rattle.std.proofs.Common.{◌≡◌, ℕ, zero, suc, ◌<◌, ◌^◌, Bool, false, List, [], ◌∷◌, ◌++◌, refl, sym, ◌∙◌, ap, subst, arith}
use Rattle.std.specs.Prelude.{Some, None, if◌then◌else◌, option_map}
use Rattle.std.specs.Str.{bytes_eq}
use Rattle.std.proofs.lemmas.Slice.Eq.{bytes_eq-Decides}
use Rattle.table_rules.specs.Names.{commit_text, data_text}
use Rattle.table_rules.proofs.Names.{commits_differ, data_is_no_commit}
use Rattle.line_texts.specs.Texts.{text_of_add, text_of_rows}
use Rattle.line_texts.proofs.Laws.{path_reads_back, rows_read_back}
use Rattle.snapshot_replay.specs.Table.{append_commit}
use Rattle.table_changes.specs.Table.{Commit}
use Rattle.table_laws.specs.History.{Put, put_under, put_if_free, body_of, commit_at}
use Rattle.table_laws.specs.Laws.{AllFilesRead, added_files, HasFilesBefore}
use Rattle.table_laws.specs.ViewsMean.{first}
use Rattle.table_laws.proofs.CommitEffects.{new_file}
use Rattle.table_laws.proofs.Shown.{InPut, one_under, one_itself}
use Rattle.table_laws.proofs.Paths.{data_is_path}
use Rattle.table_laws.proofs.Parts.{differ}
use Rattle.table_laws.proofs.Texts.{read_later}
use Rattle.table_laws.proofs.Effects.{commit_is}

abbrev file_put : Put
file_put = record { tag = first; name = data_text first 0 0; body = text_of_rows []; at = 0 }

abbrev commit_put : Put
commit_put = record { tag = first; name = commit_text 1; body = text_of_add (data_text first 0 0); at = 0 }

-- the commits above version 0 have their files before them
abbrev FilesFirst : List Put → Type 0
FilesFirst ps = (v : ℕ) (by : Put) → suc v < 2 ^ 64 → put_under ps (commit_text (suc v)) ≡ Some by → HasFilesBefore ps by (suc v)

-- the second of two puts, by whether its name is that of the first
abbrev puts_then : Put → Put → Bool → List Put
puts_then p q same = p ∷ (put_if_free (if same then Some (record { body = p.body; put_at = 0 }) else None) q ++ [])

file_apart : (v : ℕ) → bytes_eq (data_text first 0 0) (commit_text v) ≡ false
file_apart v = differ (data_text first 0 0) (commit_text v) (data_is_no_commit first 0 0 v)

commit_apart : bytes_eq (commit_text 1) (data_text first 0 0) ≡ false
commit_apart = differ (commit_text 1) (data_text first 0 0) (λ same. data_is_no_commit first 0 0 1 (sym same))

pub small_one : suc zero < 2 ^ 64
small_one = omega arith

-- the commit adds the file
adds_it : (ps : List Put) → InPut ps (commit_text 1) (text_of_add (data_text first 0 0)) → added_files (commit_at ps 1).lines ≡ new_file first 0 0 ∷ []
adds_it ps there =
    let path = data_text first 0 0 in
    ap (λ (t : Commit). added_files t.lines)
    (commit_is ps 1 (text_of_add path) (append_commit path) there (read_later 0 (text_of_add path) ∙ ap (option_map append_commit) (path_reads_back path (data_is_path first 0 0 (omega arith)))))

-- behind the file only the commit is found under a commit's name
behind : (v : ℕ) → put_under (file_put ∷ commit_put ∷ []) (commit_text v) ≡ put_under (commit_put ∷ []) (commit_text v)
behind v = ap (λ (b : Bool). if b then Some file_put else put_under (commit_put ∷ []) (commit_text v)) (file_apart v)

first_of_two : HasFilesBefore (file_put ∷ commit_put ∷ []) commit_put 1
first_of_two = record {
  earlier = file_put ∷ [];
  later = [];
  order = refl;
  there = subst (AllFilesRead (file_put ∷ [])) (sym (adds_it (file_put ∷ commit_put ∷ []) (ap body_of (behind 1 ∙ one_itself commit_put)))) ((file_put, one_itself file_put, [], rows_read_back [] refl), tt);
}

pub first_holds : FilesFirst (puts_then file_put commit_put (bytes_eq (data_text first 0 0) (commit_text 1)))
first_holds = subst (λ (b : Bool). FilesFirst (puts_then file_put commit_put b)) (sym (file_apart 1)) (λ v by small is.
    let one = one_under commit_put by (commit_text (suc v)) (sym (behind (suc v)) ∙ is) in
    let same : suc zero ≡ suc v = commits_differ 1 (suc v) small_one small one.0 in
    subst (λ (w : ℕ). HasFilesBefore (file_put ∷ commit_put ∷ []) by w) same (subst (λ (q : Put). HasFilesBefore (file_put ∷ commit_put ∷ []) q 1) one.1 first_of_two))

pub no_some : {A : Type 0} (x : A) → None ≡ Some x → ⊥
no_some x h = cc

pub same_head : {A : Type 0} (p q : A) (ps qs : List A) → p ∷ ps ≡ q ∷ qs → (p ≡ q) × (ps ≡ qs)
same_head p q ps qs h = (cc, cc)

pub no_parts : {A : Type 0} (earlier later : List A) (p : A) → [] ≡ earlier ++ p ∷ later → ⊥
no_parts [] later p h = cc
no_parts (x ∷ earlier) later p h = cc

-- the file isn't there before the commit
not_before : (earlier later : List Put) → commit_put ∷ file_put ∷ [] ≡ earlier ++ commit_put ∷ later → AllFilesRead earlier (new_file first 0 0 ∷ []) → ⊥
not_before [] later order h = no_some h.0.0 h.0.1
not_before (x ∷ []) later order h =
    let two = same_head file_put commit_put [] later (same_head commit_put x (file_put ∷ []) (commit_put ∷ later) order).1 in
    data_is_no_commit first 0 0 1 (ap (λ (p : Put). p.name) two.0)
not_before (x ∷ y ∷ earlier) later order h =
    no_parts earlier later commit_put (same_head file_put y [] (earlier ++ commit_put ∷ later) (same_head commit_put x (file_put ∷ []) (y ∷ (earlier ++ commit_put ∷ later)) order).1).1

pub last_refuted : FilesFirst (puts_then commit_put file_put (bytes_eq (commit_text 1) (data_text first 0 0))) → ⊥
last_refuted h =
    let ps = commit_put ∷ file_put ∷ [] in
    let both : FilesFirst ps = subst (λ (b : Bool). FilesFirst (puts_then commit_put file_put b)) commit_apart h in
    let found : put_under ps (commit_text 1) ≡ Some commit_put = ap (λ (b : Bool). if b then Some commit_put else put_under (file_put ∷ []) (commit_text 1)) ((bytes_eq-Decides (commit_text 1) (commit_text 1)).1 refl) in
    let k = both 0 commit_put small_one found in
    not_before k.earlier k.later k.order (subst (AllFilesRead k.earlier) (adds_it ps (ap body_of found)) k.there)
