use Rattle.std.proofs.Common.{◌≡◌, ◌+◌, Some, None, subst}
use Rattle.byte_parts.specs.Spans.{row_of}
use Rattle.elf.specs.Classes.{elf64}
use Rattle.elf.proofs.Listings.{entry_read, entry_there, unlisted}
use Rattle.image_shelf.proofs.entry.Entry.in_table.Goals as goal

pub returns-then-at-table : goal.returns-then-at-table
returns-then-at-table c = record { value = unlisted elf64 c.args.image.now c.args.table c.args.at c.if-at-table.true }

pub returns-in_err-bytes : goal.returns-in_err-bytes
returns-in_err-bytes c =
    let none = subst (λ p. None ≡ row_of c.args.image.now c.args.table.place p.symbol_size (c.args.at + 1)) c.elf64_places-places.ensures.value c.in_err-bytes.ensures.value in
    absurd (entry_there elf64 c.args.image.now c.args.table c.requires c.args.at c.if-at-table.false none)

pub returns : goal.returns
returns c =
    let there = subst (λ p. Some c.in_ok-bytes.bytes.now ≡ row_of c.args.image.now c.args.table.place p.symbol_size (c.args.at + 1)) c.elf64_places-places.ensures.value c.in_ok-bytes.ensures.value in
    let strings = c.part_or_empty.ensures.value in
    record { value = entry_read elf64 c.args.image.now c.args.table c.requires c.args.at c.in_ok-bytes.bytes.now c.part_or_empty.result.now c.if-at-table.false there strings }
