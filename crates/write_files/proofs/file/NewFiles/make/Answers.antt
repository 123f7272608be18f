use Rattle.std.proofs.Common.{◌≡◌, ◌+◌, arith, ◌∙◌, ◌∷◌, [], refl, sym, subst, ap, length, length-append}
use Rattle.std.specs.List.{All}
use Rattle.std.proofs.lemmas.List.Elements.{All-push, All-rest}
use Rattle.write_files.specs.Files.{CanBeWritten, IsReadable, file_of, add_of, files_from, adds_from}
use Rattle.write_files.proofs.Files.{part_step}
use Rattle.write_files.proofs.file.NewFiles.make.Goals as goal

pub loop-rows-preserved : goal.loop-rows-preserved
loop-rows-preserved c =
    let s = c.args.schema.now in
    let o = c.args.origin in
    let l = c.loop-rows in
    let steps = c.in-Some.ensures.steps in
    let at : c.in_ok-part.part ≡ c.args.first + length l.adds.items = omega (arith, c.in_ok-part.ensures.value, c.len.ensures) in
    let counted = ap length c.in_ok-push.ensures.items ∙ length-append l.adds.items (c.in_ok-file.field-0.add ∷ []) in
    record {
      files =
          part_step (files_from s o.tag o.start) (file_of s o.tag o.start) (λ n p ps. refl) l.files.items c.push_back.new.self.items c.in_ok-file.field-0.file
          c.args.first (length l.adds.items) (length c.push.new.self.items) c.in_ok-part.part c.in-Some.rows l.rows-iterator.rest.items c.next.new.self.rest.items
          steps.0 at counted c.in_ok-file.ensures.file c.in_ok-push_back.ensures.items
          ∙ l.invariant.files;
      adds =
          part_step (adds_from s o.tag o.start o.change) (add_of s o.tag o.start o.change) (λ n p ps. refl) l.adds.items c.push.new.self.items c.in_ok-file.field-0.add
          c.args.first (length l.adds.items) (length c.push.new.self.items) c.in_ok-part.part c.in-Some.rows l.rows-iterator.rest.items c.next.new.self.rest.items
          steps.0 at counted c.in_ok-file.ensures.add c.in_ok-push.ensures.items
          ∙ l.invariant.adds;
      readable = subst (All IsReadable) (sym c.in_ok-push.ensures.items) (All-push IsReadable l.adds.items c.in_ok-file.field-0.add l.invariant.readable c.in_ok-file.ensures.readable);
      few = omega (arith, c.in_ok-part.ensures.small, c.in_ok-part.ensures.value, c.len.ensures, counted);
      fits = All-rest (CanBeWritten s) c.in-Some.rows c.next.new.self.rest.items l.rows-iterator.rest.items steps.0 l.invariant.fits;
    }
