-- Footers and the heads of pages are read where they stand, and only there.
use Rattle.std.proofs.Common.{◌≡◌, ℕ, ◌<◌, ◌++◌, List, length, length-append, Ok, ℤ, ap, ◌∙◌, arith}
use Rattle.thrift_compact.specs.declared.wire.Wire.{Wire}
use Rattle.thrift_compact.specs.Spelled.{SpellsNext, short, long}
use Rattle.parquet_meta.specs.declared.head.PageAt.{PageAt}
use Rattle.parquet_meta.specs.declared.meta.FileMeta.{FileMeta}
use Rattle.parquet_meta.specs.Footer.{footer_of}
use Rattle.parquet_meta.specs.Heads.{page_head_at}
use Rattle.parquet_meta.specs.Grammar.{IsFile, SpellsStruct, stop, next}
use Rattle.parquet_meta.proofs.ExactFile.{footers_found, footers_taken}
use Rattle.parquet_meta.proofs.ExactHeads.{heads_found, heads_taken}
use Rattle.parquet_plain.specs.Grammar.{HeadStands}

pub footer_found : (file : List ℕ) (meta : FileMeta) → IsFile file meta → footer_of file ≡ Ok meta
footer_found file meta h = footers_taken file meta h

pub footer_only : (file : List ℕ) (meta : FileMeta) → footer_of file ≡ Ok meta → IsFile file meta
footer_only file meta e = footers_found file meta e

pub head_found : (file : List ℕ) (at : ℕ) (page : PageAt) → HeadStands file at page → page_head_at file at ≡ Ok page
head_found file at page h = heads_taken file at page h.text h.spelled h.stands

pub head_only : (file : List ℕ) (at : ℕ) (page : PageAt) → page_head_at file at ≡ Ok page → HeadStands file at page
head_only file at page e =
    let h = heads_found file at page e in
    record { text = h.0; spelled = h.1; stands = h.2 }

next_some : {last id : ℤ} {wire : Wire} {text : List ℕ} → SpellsNext last id wire text → 0 < length text
next_some (short byte e f g) = omega arith
next_some (long byte number e f) = omega arith

struct_some : {D : Type 0} {field : ℤ → Wire → List ℕ → D → D → Type 0} {last : ℤ} {known whole : D} {text : List ℕ} → SpellsStruct field last known text whole → 0 < length text
struct_some (stop e) = omega (arith, ap length e)
struct_some (next id wire after head inner others h f more e) = omega (arith, ap length e ∙ length-append head (inner ++ others), next_some h.0)

-- a page's body begins behind the first byte of its head
pub past : {file : List ℕ} {at : ℕ} {page : PageAt} → HeadStands file at page → at < page.body
past h = omega (arith, h.stands.ends, struct_some h.spelled.spelled)
