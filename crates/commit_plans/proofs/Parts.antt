-- The parts of a statement are whole files, and their paths differ.
use Rattle.std.proofs.Common.{◌≡◌, ◌<◌, ℕ, suc, Bool, true, false, List, [], ◌∷◌, Option, Some, None, IfSome, refl, sym, ◌∙◌, subst, arith}
use Rattle.std.specs.Str.{bytes_eq}
use Rattle.std.proofs.lemmas.Slice.Eq.{bytes_eq-Decides}
use Rattle.edge_api.specs.declared.call.Tag.{Tag}
use Rattle.log_actions.specs.declared.action.AddFile.{AddFile}
use Rattle.log_actions.specs.declared.action.Action.TheVariants as actions
use Rattle.json_lines.specs.Kinds.{TextEntry}
use Rattle.log_actions.specs.Whole.{IsAmount, IsMap, IsPath, IsWhole}
use Rattle.table_rules.specs.Names.{data_text}
use Rattle.table_rules.specs.Told.{IsTag}
use Rattle.table_rules.proofs.Names.{data_differ}
use Rattle.table_rules.proofs.Paths.{data_is_path}
use Rattle.commit_plans.specs.Laws.{NoneHas, IsPart, AreParts, PartsAreWhole}

part_is_whole : (tag : Tag) (start part : ℕ) (f : AddFile) → IsAmount start → IsPart tag start part f → IsWhole (actions.Add f)
part_is_whole tag start part f amount is =
    let path : IsPath f.path f.name = subst (λ p. IsPath p f.name) (sym is.path) (subst (λ n. IsPath (data_text tag start part) n) (sym is.name) (data_is_path tag start part is.number)) in
    let time : IsAmount f.modification_time = subst IsAmount (sym is.time) amount in
    (path, is.values, is.size, time, untagged f.tags is.tags)
  where
    untagged : (tags : Option (List TextEntry)) → tags ≡ None → IfSome tags IsMap
    untagged None e = tt
    untagged (Some t) e = absurd cc

-- of two parts with different numbers
part_differs : (tag : Tag) (start part piece : ℕ) (f g : AddFile) → IsTag tag → part < piece → IsPart tag start part f → IsPart tag start piece g → bytes_eq f.path g.path ≡ false
part_differs tag start part piece f g right later is other = by (bytes_eq f.path g.path) refl
  where
    by : (b : Bool) → bytes_eq f.path g.path ≡ b → b ≡ false
    by true e =
        let one : f.path ≡ g.path = (bytes_eq-Decides f.path g.path).0 e in
        let names : data_text tag start part ≡ data_text tag start piece = sym is.path ∙ one ∙ other.path in
        let same : part ≡ piece = (data_differ tag tag start start part piece right right is.number other.number names).2 in
        absurd (omega (arith, same, later))
    by false e = refl

none_has : (tag : Tag) (start part piece : ℕ) (f : AddFile) (fs : List AddFile) → IsTag tag → part < piece → IsPart tag start part f → AreParts tag start piece fs → NoneHas f.path fs
none_has tag start part piece f [] right later is all = tt
none_has tag start part piece f (g ∷ gs) right later is all = (part_differs tag start part piece f g right later is all.0, none_has tag start part (suc piece) f gs right (omega (arith, later)) is all.1)

pub parts_are_whole : PartsAreWhole
parts_are_whole tag start part [] right amount all = (tt, tt)
parts_are_whole tag start part (f ∷ fs) right amount all =
    let rest = parts_are_whole tag start (suc part) fs right amount all.1 in
    ((part_is_whole tag start part f amount all.0, rest.0), (none_has tag start part (suc part) f fs right (omega arith) all.0 all.1, rest.1))
