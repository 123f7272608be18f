-- The pages of a chunk are read where they stand, and only there.
use Rattle.std.proofs.Common.{◌≡◌, ℕ, zero, suc, ◌+◌, ◌-◌, ◌<◌, ◌≤◌, ◌==◌, Bool, true, false, nat_lt, not, ◌&&◌, if◌then◌else◌, List, [], ◌++◌, length, Option, Some, None, Result, Ok, Err, pos, refl, sym, ap, ◌∙◌, subst, arith, append_assoc, append-nil, length-append, ◌⊎◌, inl, inr, ◌||◌}
use Rattle.std.specs.Ordering.{int_eq}
use Rattle.std.proofs.lemmas.Bool.{ltb-false, le-ltb, lt-ltb, eqb-true, eq-eqb, and_parts, and_from, or_left, or_right}
use Rattle.row_base.specs.declared.row.Datum.{Datum}
use Rattle.parquet_meta.specs.declared.fault.FileFault.{FileFault}
use Rattle.parquet_meta.specs.declared.fault.FileFault.TheVariants as faults
use Rattle.parquet_meta.specs.declared.head.PageAt.{PageAt}
use Rattle.parquet_meta.specs.declared.head.DictionaryPageHead.{DictionaryPageHead}
use Rattle.row_base.specs.Faults.{◌>>=◌}
use Rattle.parquet_meta.specs.Heads.{page_head_at}
use Rattle.parquet_pages.specs.Pages.{page_values, page_has_null, dictionary_values}
use Rattle.parquet_pages.specs.Grammar.{DataPage, DictionaryPage}
use Rattle.parquet_pages.proofs.PagesRead.{page_found, page_only, dictionary_page_found, dictionary_page_only, number_same}
use Rattle.parquet_plain.specs.declared.chunk.Span.{Span}
use Rattle.parquet_plain.specs.declared.pages.Walk.{Walk}
use Rattle.parquet_plain.specs.declared.source.Leaf.{Leaf}
use Rattle.parquet_plain.specs.Reading.{page_end, count_in, dictionary_checked, nulls_checked, with_dictionary, with_values, with_data, with_page, with_pages, walk_from, finished, chunk_values}
use Rattle.parquet_plain.specs.Grammar.{HeadStands, NullsMayStand, DataPages, done, next, ChunkPages, plain, indexed}
use Rattle.parquet_plain.proofs.HeadsRead.{head_found, head_only, past}
use Rattle.parquet_plain.proofs.PageFacts.{AreThere, page_count, nulls_found, nulls_only, plain_there}
use Rattle.parquet_plain.proofs.PageLemmas.{pages_end}
use Rattle.parquet_plain.proofs.Steps.{bind_ok, bind_at, if_ok, unless_ok, if_at, unless_at, ok_inside, not_false, false_not, not_is_true, true_not}

-- ---- what a page makes of a walk

-- a walk behind a data page
abbrev behind : PageAt → Walk → List Datum → Walk
behind page w vs = record { at = page_end page; values = w.values ++ vs; dictionary = w.dictionary }

record Stepped (l : Leaf) (span : Span) (file : List ℕ) (page : PageAt) (w after : Walk) : Type 0 where
  vs : List Datum
  read : page_values l.kind l.optional page file w.dictionary ≡ Ok vs
  nulls : NullsMayStand l vs
  within : page_end page ≤ span.ends
  is : after ≡ behind page w vs

allowed_by : (l : Leaf) (page : PageAt) (file : List ℕ) (d : Option (List Datum)) (vs : List Datum) (o n : Bool) → l.optional ≡ o → l.nullable ≡ n → AreThere d
    → page_values l.kind l.optional page file d ≡ Ok vs
    → ◌≡◌ {A = Result (Unit {0}) FileFault} (if o && not n then (page_has_null o page file >>= λ has. if has then Err (faults.Shape l.name) else Ok tt) else Ok tt) (Ok tt)
    → NullsMayStand l vs
allowed_by l page file d vs false n eo en known e h = λ t f. absurd (let k : true ≡ false = sym t ∙ eo in cc)
allowed_by l page file d vs true true eo en known e h = λ t f. absurd (let k : true ≡ false = sym en ∙ f in cc)
allowed_by l page file d vs true false eo en known e h = λ t f.
    let p = bind_ok (page_has_null true page file) (λ has. if has then Err (faults.Shape l.name) else Ok tt) tt h in
    let q = unless_ok p.0 (Ok tt) (faults.Shape l.name) tt p.2 in
    nulls_found l.kind page file d vs known (subst (λ o. page_values l.kind o page file d ≡ Ok vs) eo e) (p.1 ∙ ap Ok q.0)

allowed : (l : Leaf) (page : PageAt) (file : List ℕ) (d : Option (List Datum)) (vs : List Datum) → AreThere d → page_values l.kind l.optional page file d ≡ Ok vs
    → nulls_checked l page file ≡ Ok tt → NullsMayStand l vs
unfolding nulls_checked
allowed l page file d vs known e h = allowed_by l page file d vs l.optional l.nullable refl refl known e h

data_stepped : (l : Leaf) (rows : ℕ) (span : Span) (file : List ℕ) (page : PageAt) (w after : Walk) → AreThere w.dictionary → with_data l rows span file page w ≡ Ok after
    → Stepped l span file page w after
unfolding with_data
data_stepped l rows span file page w after known e =
    let p = bind_ok (count_in l.optional page) (λ count. if nat_lt rows (length w.values + count) then Err (faults.Shape l.name) else with_values l span file page w) after e in
    let q = unless_ok (nat_lt rows (length w.values + p.0)) (with_values l span file page w) (faults.Shape l.name) after p.2 in
    let r = unless_ok (nat_lt span.ends (page_end page)) (nulls_checked l page file >>= λ _. page_values l.kind l.optional page file w.dictionary >>= λ vs. Ok (behind page w vs)) (faults.Page page.body) after q.1 in
    let n = bind_ok (nulls_checked l page file) (λ _. page_values l.kind l.optional page file w.dictionary >>= λ vs. Ok (behind page w vs)) after r.1 in
    let v = bind_ok (page_values l.kind l.optional page file w.dictionary) (λ vs. Ok (behind page w vs)) after n.2 in
    record {
      vs = v.0;
      read = v.1;
      nulls = allowed l page file w.dictionary v.0 known v.1 n.1;
      within = ltb-false span.ends (page_end page) r.0;
      is = sym (ok_inside (behind page w v.0) after v.2);
    }

-- behind the first page of a chunk there are data pages alone
page_stepped : (l : Leaf) (rows : ℕ) (span : Span) (file : List ℕ) (w after : Walk) → AreThere w.dictionary → span.begins < w.at → with_page l rows span file w ≡ Ok after
    → (page : PageAt) × (page_head_at file w.at ≡ Ok page) × Stepped l span file page w after
unfolding with_page with_dictionary
page_stepped l rows span file w after known past e =
    let p = bind_ok (page_head_at file w.at) (λ page. if int_eq page.head.page_type (pos 2) then with_dictionary l span file page w else with_data l rows span file page w) after e in
    (p.0, p.1, by p.0 (int_eq p.0.head.page_type (pos 2)) p.2)
  where
    by : (page : PageAt) (b : Bool) → (if b then with_dictionary l span file page w else with_data l rows span file page w) ≡ Ok after → Stepped l span file page w after
    by page true h =
        let q = bind_ok (dictionary_checked page.head.dictionary_page) (λ _. if not (w.at == span.begins) then Err (faults.PageKind (pos 2))
        else (if nat_lt span.ends (page_end page) then Err (faults.Page page.body)
        else (dictionary_values l.kind page file >>= λ ds. Ok (record { at = page_end page; values = w.values; dictionary = Some ds })))) after h in
        let r = unless_ok (not (w.at == span.begins)) (if nat_lt span.ends (page_end page) then Err (faults.Page page.body)
        else (dictionary_values l.kind page file >>= λ ds. Ok (record { at = page_end page; values = w.values; dictionary = Some ds }))) (faults.PageKind (pos 2)) after q.2 in
        let same = eqb-true w.at span.begins (not_false (w.at == span.begins) r.0) in
        absurd (omega (arith, same))
    by page false h = data_stepped l rows span file page w after known h

-- ---- pages that were read stand there

record Walked (l : Leaf) (span : Span) (file : List ℕ) (w after : Walk) : Type 0 where
  more : List Datum
  pages : DataPages l file w.dictionary w.at after.at more
  grown : after.values ≡ w.values ++ more
  within : after.at ≤ span.ends

nothing_walked : (l : Leaf) (span : Span) (file : List ℕ) (w after : Walk) → w.at ≤ span.ends → w ≡ after → Walked l span file w after
nothing_walked l span file w after within e = record {
  more = [];
  pages = done (ap (λ (x : Walk). x.at) e) refl;
  grown = ap (λ (x : Walk). x.values) (sym e) ∙ sym (append-nil w.values);
  within = subst (λ (x : Walk). x.at ≤ span.ends) e within;
}

step_walked : (l : Leaf) (span : Span) (file : List ℕ) (page : PageAt) (w middle after : Walk) → HeadStands file w.at page → Stepped l span file page w middle
    → Walked l span file middle after → Walked l span file w after
step_walked l span file page w middle after stands s walked = record {
  more = s.vs ++ walked.more;
  pages = next page s.vs walked.more stands (page_only l.kind l.optional page file w.dictionary s.vs s.read) s.nulls
      (subst (λ (x : Walk). DataPages l file x.dictionary x.at after.at walked.more) s.is walked.pages) refl;
  grown = walked.grown ∙ ap (λ (x : Walk). x.values ++ walked.more) s.is ∙ append_assoc w.values s.vs walked.more;
  within = walked.within;
}

walked : (l : Leaf) (rows : ℕ) (span : Span) (file : List ℕ) (most : ℕ) (w after : Walk) → AreThere w.dictionary → span.begins < w.at → w.at ≤ span.ends
    → with_pages l rows span file most w ≡ Ok after → Walked l span file w after
unfolding with_pages
walked l rows span file zero w after known further within e = nothing_walked l span file w after within (ok_inside w after e)
walked l rows span file (suc most) w after known further within e = by (nat_lt w.at span.ends) (λ x. walked l rows span file most x after) e
  where
    by : (b : Bool) → ((x : Walk) → AreThere x.dictionary → span.begins < x.at → x.at ≤ span.ends → with_pages l rows span file most x ≡ Ok after → Walked l span file x after)
        → (if b then (with_page l rows span file w >>= with_pages l rows span file most) else Ok w) ≡ Ok after → Walked l span file w after
    by false others h = nothing_walked l span file w after within (ok_inside w after h)
    by true others h =
        let p = bind_ok (with_page l rows span file w) (with_pages l rows span file most) after h in
        let s = page_stepped l rows span file w p.0 known further p.1 in
        let stands = head_only file w.at s.0 s.1 in
        let there : AreThere p.0.dictionary = subst (λ (x : Walk). AreThere x.dictionary) (sym s.2.is) known in
        let at : p.0.at ≡ page_end s.0 = ap (λ (x : Walk). x.at) s.2.is in
        step_walked l span file s.0 w p.0 after stands s.2
        (others p.0 there (omega (arith, at, past stands)) (omega (arith, at, s.2.within)) p.2)

-- ---- chunks that were read stand there

record Complete (l : Leaf) (rows : ℕ) (file : List ℕ) (span : Span) (values : List Datum) : Type 0 where
  pub pages : ChunkPages l file span.begins span.ends values
  pub count : length values ≡ rows

ended : (l : Leaf) (rows : ℕ) (span : Span) (w : Walk) (values : List Datum) → finished l rows span w ≡ Ok values → (span.ends ≤ w.at) × (length w.values ≡ rows) × (w.values ≡ values)
ended l rows span w values e =
    let p = if_ok (not (nat_lt w.at span.ends) && (length w.values == rows)) (Ok w.values) (faults.Shape l.name) values e in
    let q = and_parts (not (nat_lt w.at span.ends)) (length w.values == rows) p.0 in
    (ltb-false w.at span.ends (not_is_true (nat_lt w.at span.ends) q.0), eqb-true (length w.values) rows q.1, ok_inside w.values values p.1)

-- the walk from a place behind the dictionary page, or from the chunk's first byte
filled : (l : Leaf) (rows : ℕ) (span : Span) (file : List ℕ) (w after : Walk) (values : List Datum) → w.values ≡ [] → Walked l span file w after → finished l rows span after ≡ Ok values
    → (DataPages l file w.dictionary w.at span.ends values) × (length values ≡ rows)
filled l rows span file w after values empty walked e =
    let p = ended l rows span after values e in
    let at : after.at ≡ span.ends = omega (arith, p.0, walked.within) in
    let same : walked.more ≡ values = sym (walked.grown ∙ ap (λ vs. vs ++ walked.more) empty) ∙ p.2 in (
      subst (λ vs. DataPages l file w.dictionary w.at span.ends vs) same (subst (λ at. DataPages l file w.dictionary w.at at walked.more) at walked.pages),
      ap length (sym p.2) ∙ p.1,
    )

record Opened (l : Leaf) (span : Span) (file : List ℕ) (page : PageAt) (w after : Walk) : Type 0 where
  ds : List Datum
  read : dictionary_values l.kind page file ≡ Ok ds
  within : page_end page ≤ span.ends
  is : after ≡ record { at = page_end page; values = w.values; dictionary = Some ds }

opened : (l : Leaf) (span : Span) (file : List ℕ) (page : PageAt) (w after : Walk) → with_dictionary l span file page w ≡ Ok after → Opened l span file page w after
unfolding with_dictionary
opened l span file page w after h =
    let read = dictionary_values l.kind page file >>= λ ds. Ok (record { at = page_end page; values = w.values; dictionary = Some ds }) in
    let q = bind_ok (dictionary_checked page.head.dictionary_page) (λ _. if not (w.at == span.begins) then Err (faults.PageKind (pos 2))
    else (if nat_lt span.ends (page_end page) then Err (faults.Page page.body) else read)) after h in
    let r = unless_ok (not (w.at == span.begins)) (if nat_lt span.ends (page_end page) then Err (faults.Page page.body) else read) (faults.PageKind (pos 2)) after q.2 in
    let s = unless_ok (nat_lt span.ends (page_end page)) read (faults.Page page.body) after r.1 in
    let v = bind_ok (dictionary_values l.kind page file) (λ ds. Ok (record { at = page_end page; values = w.values; dictionary = Some ds })) after s.1 in
    record {
      ds = v.0;
      read = v.1;
      within = ltb-false span.ends (page_end page) s.0;
      is = sym (ok_inside (record { at = page_end page; values = w.values; dictionary = Some v.0 }) after v.2);
    }

chunk_walked : (l : Leaf) (rows : ℕ) (span : Span) (file : List ℕ) (most : ℕ) (after : Walk) (values : List Datum) → most ≡ span.ends - span.begins → span.begins ≤ span.ends
    → with_pages l rows span file most (walk_from span.begins) ≡ Ok after → finished l rows span after ≡ Ok values → Complete l rows file span values
unfolding with_pages with_page
chunk_walked l rows span file zero after values m within e f =
    let p = filled l rows span file (walk_from span.begins) after values refl (nothing_walked l span file (walk_from span.begins) after within (ok_inside (walk_from span.begins) after e)) f in
    record { pages = plain p.0; count = p.1 }
chunk_walked l rows span file (suc most) after values m within e f = by (nat_lt span.begins span.ends) e
  where
    first : (page : PageAt) (middle : Walk) → HeadStands file span.begins page → (b : Bool)
        → (if b then with_dictionary l span file page (walk_from span.begins) else with_data l rows span file page (walk_from span.begins)) ≡ Ok middle
        → with_pages l rows span file most middle ≡ Ok after → Complete l rows file span values
    first page middle stands true h rest =
        let o = opened l span file page (walk_from span.begins) middle h in
        let dictionary = dictionary_page_only l.kind page file o.ds o.read in
        let further : Walk = record { at = page_end page; values = []; dictionary = Some o.ds } in
        let w = walked l rows span file most further after (plain_there l.kind dictionary.bytes o.ds dictionary.body) (omega (arith, past stands)) o.within
        (ap (with_pages l rows span file most) (sym o.is) ∙ rest) in
        let p = filled l rows span file further after values refl w f in
        record { pages = indexed page o.ds stands dictionary p.0; count = p.1 }
    first page middle stands false h rest =
        let s = data_stepped l rows span file page (walk_from span.begins) middle tt h in
        let further : Walk = behind page (walk_from span.begins) s.vs in
        let w = walked l rows span file most further after tt (omega (arith, past stands)) s.within (ap (with_pages l rows span file most) (sym s.is) ∙ rest) in
        let all = step_walked l span file page (walk_from span.begins) middle after stands s (subst (λ (x : Walk). Walked l span file x after) (sym s.is) w) in
        let p = filled l rows span file (walk_from span.begins) after values refl all f in
        record { pages = plain p.0; count = p.1 }

    by : (b : Bool) → (if b then (with_page l rows span file (walk_from span.begins) >>= with_pages l rows span file most) else Ok (walk_from span.begins)) ≡ Ok after → Complete l rows file span values
    by false h =
        let p = filled l rows span file (walk_from span.begins) after values refl (nothing_walked l span file (walk_from span.begins) after within (ok_inside (walk_from span.begins) after h)) f in
        record { pages = plain p.0; count = p.1 }
    by true h =
        let p = bind_ok (with_page l rows span file (walk_from span.begins)) (with_pages l rows span file most) after h in
        let s = bind_ok (page_head_at file span.begins) (λ page. if int_eq page.head.page_type (pos 2) then with_dictionary l span file page (walk_from span.begins) else with_data l rows span file page (walk_from span.begins)) p.0 p.1 in
        first s.0 p.0 (head_only file span.begins s.0 s.1) (int_eq s.0.head.page_type (pos 2)) s.2 p.2

pub chunk_found : (l : Leaf) (rows : ℕ) (span : Span) (file : List ℕ) (values : List Datum) → span.begins ≤ span.ends → chunk_values l rows span file ≡ Ok values
    → ChunkPages l file span.begins span.ends values × (length values ≡ rows)
unfolding chunk_values
chunk_found l rows span file values within e =
    let p = bind_ok (with_pages l rows span file (span.ends - span.begins) (walk_from span.begins)) (finished l rows span) values e in
    let c = chunk_walked l rows span file (span.ends - span.begins) p.0 values refl within p.1 p.2 in
    (c.pages, c.count)

-- ---- pages that stand there are read

pages_order : {l : Leaf} {file : List ℕ} {d : Option (List Datum)} {at end : ℕ} {values : List Datum} → DataPages l file d at end values → at ≤ end
pages_order (done e none) = omega (arith, e)
pages_order (next page vs more stands holds nulls others e) = let o = pages_order others in omega (arith, o, past stands)

checked_by : (l : Leaf) (page : PageAt) (file : List ℕ) (d : Option (List Datum)) (vs : List Datum) (o n : Bool) → l.optional ≡ o → l.nullable ≡ n → NullsMayStand l vs
    → page_values l.kind l.optional page file d ≡ Ok vs
    → ◌≡◌ {A = Result (Unit {0}) FileFault} (if o && not n then (page_has_null o page file >>= λ has. if has then Err (faults.Shape l.name) else Ok tt) else Ok tt) (Ok tt)
checked_by l page file d vs false n eo en may e = refl
checked_by l page file d vs true true eo en may e = refl
checked_by l page file d vs true false eo en may e =
    bind_at (page_has_null true page file) (λ has. if has then Err (faults.Shape l.name) else Ok tt) false
    (nulls_only l.kind page file d vs (subst (λ o. page_values l.kind o page file d ≡ Ok vs) eo e) (may eo en))

checked : (l : Leaf) (page : PageAt) (file : List ℕ) (d : Option (List Datum)) (vs : List Datum) → NullsMayStand l vs → page_values l.kind l.optional page file d ≡ Ok vs
    → nulls_checked l page file ≡ Ok tt
unfolding nulls_checked
checked l page file d vs may e = checked_by l page file d vs l.optional l.nullable refl refl may e

data_read : (l : Leaf) (rows : ℕ) (span : Span) (file : List ℕ) (page : PageAt) (w : Walk) (vs : List Datum) → HeadStands file w.at page
    → DataPage l.kind l.optional page file w.dictionary vs → NullsMayStand l vs → length w.values + length vs ≤ rows → page_end page ≤ span.ends
    → with_page l rows span file w ≡ Ok (behind page w vs)
unfolding with_page with_data
data_read l rows span file page w vs stands holds may few within =
    let read = page_found l.kind l.optional page file w.dictionary vs holds in
    let is_data : int_eq page.head.page_type (pos 2) ≡ false = ap (λ z. int_eq z (pos 2)) holds.is_data in
    bind_at (page_head_at file w.at) (λ p. if int_eq p.head.page_type (pos 2) then with_dictionary l span file p w else with_data l rows span file p w) page (head_found file w.at page stands)
    ∙ unless_at (int_eq page.head.page_type (pos 2)) (with_dictionary l span file page w) (with_data l rows span file page w) is_data
    ∙ bind_at (count_in l.optional page) (λ count. if nat_lt rows (length w.values + count) then Err (faults.Shape l.name) else with_values l span file page w) (length vs)
    (page_count l.kind l.optional page file w.dictionary vs read)
    ∙ unless_at (nat_lt rows (length w.values + length vs)) (Err (faults.Shape l.name)) (with_values l span file page w) (le-ltb rows (length w.values + length vs) few)
    ∙ unless_at (nat_lt span.ends (page_end page)) (Err (faults.Page page.body))
    (nulls_checked l page file >>= λ _. page_values l.kind l.optional page file w.dictionary >>= λ vs. Ok (behind page w vs)) (le-ltb span.ends (page_end page) within)
    ∙ bind_at (nulls_checked l page file) (λ _. page_values l.kind l.optional page file w.dictionary >>= λ vs. Ok (behind page w vs)) tt (checked l page file w.dictionary vs may read)
    ∙ bind_at (page_values l.kind l.optional page file w.dictionary) (λ vs. Ok (behind page w vs)) vs read

read_more : (l : Leaf) (rows : ℕ) (span : Span) (file : List ℕ) (most : ℕ) (w : Walk) → w.at < span.ends
    → with_pages l rows span file (suc most) w ≡ (with_page l rows span file w >>= with_pages l rows span file most)
unfolding with_pages
read_more l rows span file most w within =
    if_at (nat_lt w.at span.ends) (with_page l rows span file w >>= with_pages l rows span file most) (Ok w) (lt-ltb w.at span.ends within)

pages_read : {l : Leaf} {file : List ℕ} {d : Option (List Datum)} {at end : ℕ} {values : List Datum} → DataPages l file d at end values
    → (rows : ℕ) (span : Span) (most : ℕ) (before : List Datum) → end ≡ span.ends → length before + length values ≤ rows → end - at ≤ most
    → with_pages l rows span file most (record { at = at; values = before; dictionary = d }) ≡ Ok (record { at = end; values = before ++ values; dictionary = d })
pages_read {l} {file} {d} {at} {end} {values} (done e none) rows span most before is few enough =
    pages_end l rows span file most (record { at = at; values = before; dictionary = d }) (omega (arith, e, is))
    ∙ ap (λ n. Ok (record { at = n; values = before; dictionary = d })) e
    ∙ ap (λ vs. Ok (record { at = end; values = vs; dictionary = d })) (sym (ap (λ vs. before ++ vs) none ∙ append-nil before))
pages_read {l} {file} {d} {at} {end} {values} (next page vs more stands holds may others e) rows span most before is few enough =
    by most enough (λ n. pages_read others rows span n (before ++ vs) is (omega (arith, length-append before vs, few, sum)))
  where
    order : page_end page ≤ end
    order = pages_order others

    sum : length values ≡ length vs + length more
    sum = ap length e ∙ length-append vs more

    start : Walk
    start = record { at = at; values = before; dictionary = d }

    by : (most : ℕ) → end - at ≤ most
        → ((n : ℕ) → end - page_end page ≤ n → with_pages l rows span file n (behind page start vs) ≡ Ok (record { at = end; values = (before ++ vs) ++ more; dictionary = d }))
        → with_pages l rows span file most start ≡ Ok (record { at = end; values = before ++ values; dictionary = d })
    by zero enough further = absurd (omega (arith, order, past stands))
    by (suc most) enough further =
        read_more l rows span file most start (omega (arith, order, past stands, is))
        ∙ bind_at (with_page l rows span file start) (with_pages l rows span file most) (behind page start vs)
        (data_read l rows span file page start vs stands holds may (omega (arith, few, sum)) (omega (arith, order, is)))
        ∙ further most (omega (arith, enough, past stands))
        ∙ ap (λ x. Ok (record { at = end; values = x; dictionary = d })) (append_assoc before vs more ∙ ap (λ x. before ++ x) (sym e))

finished_at : (l : Leaf) (rows : ℕ) (span : Span) (d : Option (List Datum)) (values : List Datum) → length values ≡ rows
    → finished l rows span (record { at = span.ends; values = values; dictionary = d }) ≡ Ok values
finished_at l rows span d values e =
    if_at (not (nat_lt span.ends span.ends) && (length values == rows)) (Ok values) (Err (faults.Shape l.name))
    (and_from (not (nat_lt span.ends span.ends)) (length values == rows) (true_not (nat_lt span.ends span.ends) (le-ltb span.ends span.ends (omega arith))) (eq-eqb (length values) rows e))

dictionary_opens : (h : Option DictionaryPageHead) (head : DictionaryPageHead) → h ≡ Some head → (head.encoding ≡ pos 0) ⊎ (head.encoding ≡ pos 2) → dictionary_checked h ≡ Ok tt
dictionary_opens h head e (inl z) =
    ap dictionary_checked e ∙ if_at (int_eq head.encoding (pos 0) || int_eq head.encoding (pos 2)) (Ok tt) (Err (faults.Encoding head.encoding)) (or_left (int_eq head.encoding (pos 0)) (int_eq head.encoding (pos 2)) (number_same head.encoding (pos 0) z))
dictionary_opens h head e (inr z) =
    ap dictionary_checked e ∙ if_at (int_eq head.encoding (pos 0) || int_eq head.encoding (pos 2)) (Ok tt) (Err (faults.Encoding head.encoding)) (or_right (int_eq head.encoding (pos 0)) (int_eq head.encoding (pos 2)) (number_same head.encoding (pos 2) z))

dictionary_read : (l : Leaf) (rows : ℕ) (span : Span) (file : List ℕ) (page : PageAt) (ds : List Datum) → HeadStands file span.begins page → DictionaryPage l.kind page file ds
    → page_end page ≤ span.ends → with_page l rows span file (walk_from span.begins) ≡ Ok (record { at = page_end page; values = []; dictionary = Some ds })
unfolding with_page with_dictionary
dictionary_read l rows span file page ds stands holds within =
    let start = walk_from span.begins in
    let is_dictionary : int_eq page.head.page_type (pos 2) ≡ true = number_same page.head.page_type (pos 2) holds.is_dictionary in
    bind_at (page_head_at file span.begins) (λ p. if int_eq p.head.page_type (pos 2) then with_dictionary l span file p start else with_data l rows span file p start) page (head_found file span.begins page stands)
    ∙ if_at (int_eq page.head.page_type (pos 2)) (with_dictionary l span file page start) (with_data l rows span file page start) is_dictionary
    ∙ bind_at (dictionary_checked page.head.dictionary_page) (λ _. if not (span.begins == span.begins) then Err (faults.PageKind (pos 2))
    else (if nat_lt span.ends (page_end page) then Err (faults.Page page.body) else (dictionary_values l.kind page file >>= λ ds. Ok (record { at = page_end page; values = []; dictionary = Some ds })))) tt
    (dictionary_opens page.head.dictionary_page holds.head holds.has_head holds.encoded)
    ∙ unless_at (not (span.begins == span.begins)) (Err (faults.PageKind (pos 2)))
    (if nat_lt span.ends (page_end page) then Err (faults.Page page.body) else (dictionary_values l.kind page file >>= λ ds. Ok (record { at = page_end page; values = []; dictionary = Some ds })))
    (false_not (span.begins == span.begins) (eq-eqb span.begins span.begins refl))
    ∙ unless_at (nat_lt span.ends (page_end page)) (Err (faults.Page page.body)) (dictionary_values l.kind page file >>= λ ds. Ok (record { at = page_end page; values = []; dictionary = Some ds }))
    (le-ltb span.ends (page_end page) within)
    ∙ bind_at (dictionary_values l.kind page file) (λ ds. Ok (record { at = page_end page; values = []; dictionary = Some ds })) ds (dictionary_page_found l.kind page file ds holds)

-- a chunk that stands there is read
pub chunk_only : (l : Leaf) (rows : ℕ) (span : Span) (file : List ℕ) (values : List Datum) → ChunkPages l file span.begins span.ends values → length values ≡ rows
    → chunk_values l rows span file ≡ Ok values
unfolding chunk_values
chunk_only l rows span file values (plain pages) e =
    bind_at (with_pages l rows span file (span.ends - span.begins) (walk_from span.begins)) (finished l rows span) (record { at = span.ends; values = values; dictionary = None })
    (pages_read pages rows span (span.ends - span.begins) [] refl (omega (arith, e)) (omega arith))
    ∙ finished_at l rows span None values e
chunk_only l rows span file values (indexed page ds stands holds pages) e =
    bind_at (with_pages l rows span file (span.ends - span.begins) (walk_from span.begins)) (finished l rows span) (record { at = span.ends; values = values; dictionary = Some ds })
    (by (span.ends - span.begins) (omega arith))
    ∙ finished_at l rows span (Some ds) values e
  where
    order : page_end page ≤ span.ends
    order = pages_order pages

    by : (most : ℕ) → span.ends - span.begins ≤ most → with_pages l rows span file most (walk_from span.begins) ≡ Ok (record { at = span.ends; values = values; dictionary = Some ds })
    by zero enough = absurd (omega (arith, order, past stands))
    by (suc most) enough =
        read_more l rows span file most (walk_from span.begins) (omega (arith, order, past stands))
        ∙ bind_at (with_page l rows span file (walk_from span.begins)) (with_pages l rows span file most) (record { at = page_end page; values = []; dictionary = Some ds })
        (dictionary_read l rows span file page ds stands holds order)
        ∙ pages_read pages rows span most [] refl (omega (arith, e)) (omega (arith, enough, past stands))
