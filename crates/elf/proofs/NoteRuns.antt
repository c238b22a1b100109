-- Notes one after another: what one says, where the next starts, and what a run of them says. Assumes nothing.
use Rattle.std.proofs.Common.{◌≡◌, ℕ, zero, suc, ◌+◌, ◌<◌, ◌≤◌, ltb, leb, List, length, Some, None, Option, Ok, Err, Result, sym, refl, ap, ◌∙◌, subst, arith}
use Rattle.std.proofs.lemmas.Bool.{cond_both, cond-true, cond-false, leb-true, le-ltb, lt-ltb}
use Rattle.byte_parts.specs.Spans.{stretch}
use Rattle.elf.specs.Notes.{is_build_id, note_at, note_of, note_with, notes_from, notes_in, padding}
use Rattle.elf.specs.declared.notes.Note.{Note}
use Rattle.elf.specs.declared.notes.Note.TheVariants.{BuildId, Another}
use Rattle.elf.specs.declared.notes.MalformedNote.{MalformedNote}
use Rattle.byte_parts.specs.declared.span.Span.{Span}

module _ (bs : List ℕ) (at n d k : ℕ) where
  -- the three cases of a note
  note_cases : (P : Result Note MalformedNote → Type 0) → (at + 12 + padding n + d ≤ length bs → P (Ok (BuildId (record { place = at + 12 + padding n; len = d })))) → P (Ok (Another (at + 12 + padding n + padding d))) → P (Err (record {})) → P (note_of bs at n d k)
  note_cases P id other broken =
      cond_both (leb (at + 12 + padding n + d) (length bs)) _ (Err (record {})) P
      (λ fits. cond_both (is_build_id bs (at + 12) n k) _ _ (λ note. P (Ok note)) (λ _. id (leb-true _ _ fits)) (λ _. other))
      (λ _. broken)

-- the next note starts at least 12 bytes on, and a build id lies inside
abbrev Moves : List ℕ → ℕ → Result Note MalformedNote → Type 0
Moves bs at (Err e) = Unit {0}
Moves bs at (Ok (BuildId s)) = s.place + s.len ≤ length bs
Moves bs at (Ok (Another next)) = at + 12 ≤ next

moves_with : (bs : List ℕ) (at : ℕ) (o : Option (List ℕ)) → Moves bs at (note_with bs at o)
moves_with bs at None = tt
moves_with bs at (Some numbers) = note_cases bs at _ _ _ (Moves bs at) (λ fits. fits) (omega arith) tt

moves : (bs : List ℕ) (at : ℕ) → Moves bs at (note_at bs at)
moves bs at = moves_with bs at (stretch bs at 12)

pub note_moves : (bs : List ℕ) (at next : ℕ) → Ok (Another next) ≡ note_at bs at → at + 12 ≤ next
note_moves bs at next e = subst (Moves bs at) (sym e) (moves bs at)

-- a run of notes by its first one
pub notes_step : (bs : List ℕ) (at few : ℕ) → at < length bs → (n : Result Note MalformedNote) → n ≡ note_at bs at → notes_from (suc few) bs at ≡ elim n [ Err e ↦ Err e | Ok note ↦ elim note [ BuildId s ↦ Ok (Some s) | Another next ↦ notes_from few bs next ] ]
notes_step bs at few l n e =
    cond-true (ltb at (length bs)) _ (Ok None) (lt-ltb at (length bs) l)
    ∙ ap (λ m. elim m [ Err e ↦ Err e | Ok note ↦ elim note [ BuildId s ↦ Ok (Some s) | Another next ↦ notes_from few bs next ] ]) (sym e)

-- past the end there is none
pub notes_end : (bs : List ℕ) (at few : ℕ) → length bs ≤ at → notes_from few bs at ≡ Ok None
notes_end bs at zero l = refl
notes_end bs at (suc few) l = cond-false (ltb at (length bs)) _ (Ok None) (le-ltb at (length bs) l)

-- how far a run has come: what is left to be read decides what all of it says
abbrev pub Left : List ℕ → ℕ → Type 0
Left bs at = (few : ℕ) × (notes_from (length bs) bs 0 ≡ notes_from few bs at) × (length bs ≤ at + few)

pub left_step : (bs : List ℕ) (at : ℕ) → Left bs at → at < length bs → (n : Result Note MalformedNote) → n ≡ note_at bs at → (few : ℕ) × (notes_from (length bs) bs 0 ≡ elim n [ Err e ↦ Err e | Ok note ↦ elim note [ BuildId s ↦ Ok (Some s) | Another next ↦ notes_from few bs next ] ]) × (length bs ≤ at + suc few)
left_step bs at (zero, e, enough) l n h = absurd (omega arith)
left_step bs at (suc few, e, enough) l n h = (few, e ∙ notes_step bs at few l n h, enough)

-- a build id that a run of notes has lies inside
abbrev pub Within : ℕ → Result (Option Span) MalformedNote → Type 0
Within n (Err e) = Unit {0}
Within n (Ok None) = Unit {0}
Within n (Ok (Some s)) = s.place + s.len ≤ n

within_from : (few : ℕ) (bs : List ℕ) (at : ℕ) → Within (length bs) (notes_from few bs at)
within_from zero bs at = tt
within_from (suc few) bs at =
    cond_both (ltb at (length bs)) _ (Ok None) (Within (length bs)) (λ _. one (note_at bs at) (moves bs at) (within_from few bs)) (λ _. tt)
  where
    one : (n : Result Note MalformedNote) → Moves bs at n → ((next : ℕ) → Within (length bs) (notes_from few bs next)) → Within (length bs) (elim n [ Err e ↦ Err e | Ok note ↦ elim note [ BuildId s ↦ Ok (Some s) | Another next ↦ notes_from few bs next ] ])
    one (Err e) m more = tt
    one (Ok (BuildId s)) m more = m
    one (Ok (Another next)) m more = more next

pub notes_within : (bs : List ℕ) → Within (length bs) (notes_in bs)
notes_within bs = within_from (length bs) bs 0
