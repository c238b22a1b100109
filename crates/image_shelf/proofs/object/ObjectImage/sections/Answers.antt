use Rattle.std.proofs.Common.{List, ℕ, sym, subst}
use Rattle.elf.specs.Classes.{elf64}
use Rattle.elf.specs.Sections.{Inside}
use Rattle.elf.specs.declared.places.Places.{Places}
use Rattle.elf.proofs.Insides.{layout_inside}
use Rattle.image_shelf.proofs.object.ObjectImage.sections.Goals as goal

pub invariant_of-result : goal.invariant_of-result
invariant_of-result c =
    let table = c.args.self.layout.sections in
    let inside = (layout_inside elf64 c.args.self.image.now c.args.self.layout c.args.self.laid).sections in
    record {
      inside = subst (λ (p : Places). Inside p c.elf64.result.bytes.now table) (sym c.elf64.ensures.places)
          (subst (λ (xs : List ℕ). Inside elf64 xs table) (sym c.elf64.ensures.bytes) inside);
    }
