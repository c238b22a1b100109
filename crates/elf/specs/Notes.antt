-- Notes and the build id, by the ELF specification's note sections and the GNU linker's NT_GNU_BUILD_ID. Assumes nothing.
use Rattle.std.specs.Prelude.{ℕ, zero, suc, ◌+◌, ◌*◌, ◌/◌, Bool, cond, ◌&&◌, List, [], ◌∷◌, length, Some, None, Option, Ok, Err, Result, ◌==◌, nat_le, nat_lt}
use Rattle.std.specs.Option.{option_map}
use Rattle.byte_parts.specs.Fields.{little_endian}
use Rattle.byte_parts.specs.Spans.{stands, stretch}
use Rattle.byte_parts.specs.declared.span.Span.{Span}
use Rattle.elf.specs.Kinds.{same_kind}
use Rattle.elf.specs.Sections.{occupied, span_bytes}
use Rattle.elf.specs.declared.notes.Note.{Note}
use Rattle.elf.specs.declared.notes.Note.TheVariants.{BuildId, Another}
use Rattle.elf.specs.declared.notes.MalformedNote.{MalformedNote}
use Rattle.elf.specs.declared.kind.SectionKind.TheVariants.{Notes}
use Rattle.elf.specs.declared.section.SectionHeader.{SectionHeader}

-- the next multiple of 4
abbrev pub padding : ℕ → ℕ
padding n = (n + 3) / 4 * 4

-- of a note with these three numbers at its start: its type is 3, NT_GNU_BUILD_ID, and its name, at the place, is GNU with a zero byte
abbrev pub is_build_id : List ℕ → ℕ → ℕ → ℕ → Bool
is_build_id bs name_place name_size kind = kind == 3 && (nat_le 4 name_size && stands bs name_place (71 ∷ 78 ∷ 85 ∷ 0 ∷ []))

-- a note whose name has this length: its description follows the padded name
abbrev pub note_of : List ℕ → ℕ → ℕ → ℕ → ℕ → Result Note MalformedNote
note_of bs at name_size desc_size kind =
    cond (nat_le (at + 12 + padding name_size + desc_size) (length bs))
    (Ok (cond (is_build_id bs (at + 12) name_size kind)
    (BuildId (record { place = at + 12 + padding name_size; len = desc_size }))
    (Another (at + 12 + padding name_size + padding desc_size))))
    (Err (record {}))

abbrev pub note_with : List ℕ → ℕ → Option (List ℕ) → Result Note MalformedNote
note_with bs at None = Err (record {})
note_with bs at (Some numbers) = note_of bs at (little_endian 4 numbers 0) (little_endian 4 numbers 4) (little_endian 4 numbers 8)

-- the note at a place: name size, description size and type, four bytes each, the name, the description, each padded to 4
abbrev pub note_at : List ℕ → ℕ → Result Note MalformedNote
note_at bs at = note_with bs at (stretch bs at 12)

-- what the notes from a place on say, of at most so many: the first build id, or a malformed note before it, or neither
abbrev pub notes_from : ℕ → List ℕ → ℕ → Result (Option Span) MalformedNote
notes_from zero bs at = Ok None
notes_from (suc few) bs at = cond (nat_lt at (length bs)) (elim (note_at bs at) [ Err e ↦ Err e | Ok note ↦ elim note [ BuildId s ↦ Ok (Some s) | Another next ↦ notes_from few bs next ] ]) (Ok None)

-- what all notes of a section's bytes say: each takes at least 12 bytes
abbrev pub notes_in : List ℕ → Result (Option Span) MalformedNote
notes_in bs = notes_from (length bs) bs 0

-- the same with the place counted in the image
abbrev pub placed : ℕ → Result (Option Span) MalformedNote → Result (Option Span) MalformedNote
placed place (Err e) = Err e
placed place (Ok o) = Ok (option_map (λ s. record { place = place + s.place; len = s.len }) o)

-- a section with notes that is not inside the image is malformed
abbrev pub notes_at : List ℕ → Option Span → Result (Option Span) MalformedNote
notes_at xs None = Err (record {})
notes_at xs (Some e) = placed e.place (notes_in (span_bytes xs e))

-- what is said first
abbrev pub or_else : Result (Option Span) MalformedNote → Result (Option Span) MalformedNote → Result (Option Span) MalformedNote
or_else (Err e) later = Err e
or_else (Ok None) later = later
or_else (Ok (Some s)) later = Ok (Some s)

-- what the note sections say, in order
abbrev pub notes_of : List ℕ → List SectionHeader → Result (Option Span) MalformedNote
notes_of xs [] = Ok None
notes_of xs (s ∷ ss) = cond (same_kind s.kind Notes) (or_else (notes_at xs (occupied xs s)) (notes_of xs ss)) (notes_of xs ss)

abbrev pub build_id : Result (Option Span) MalformedNote → Option Span
build_id (Err e) = None
build_id (Ok o) = o
