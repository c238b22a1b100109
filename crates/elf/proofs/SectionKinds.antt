-- Whether two kinds of sections are one. Assumes nothing.
use Rattle.std.proofs.Common.{◌≡◌, true, false, Bool, refl, ap, sym, ◌∙◌}
use Rattle.std.proofs.lemmas.Bool.{eqb-true, eq-eqb}
use Rattle.elf.specs.Kinds.{same_kind}
use Rattle.elf.specs.declared.kind.SectionKind.{SectionKind}
use Rattle.elf.specs.declared.kind.SectionKind.TheVariants.{PlainSymbols, Notes, NoBits, DynamicSymbols, Other}

-- kinds that are said to be the same are
pub kind-true : (a b : SectionKind) → same_kind a b ≡ true → a ≡ b
kind-true PlainSymbols PlainSymbols e = refl
kind-true PlainSymbols Notes e = cc
kind-true PlainSymbols NoBits e = cc
kind-true PlainSymbols DynamicSymbols e = cc
kind-true PlainSymbols (Other n) e = cc
kind-true Notes PlainSymbols e = cc
kind-true Notes Notes e = refl
kind-true Notes NoBits e = cc
kind-true Notes DynamicSymbols e = cc
kind-true Notes (Other n) e = cc
kind-true NoBits PlainSymbols e = cc
kind-true NoBits Notes e = cc
kind-true NoBits NoBits e = refl
kind-true NoBits DynamicSymbols e = cc
kind-true NoBits (Other n) e = cc
kind-true DynamicSymbols PlainSymbols e = cc
kind-true DynamicSymbols Notes e = cc
kind-true DynamicSymbols NoBits e = cc
kind-true DynamicSymbols DynamicSymbols e = refl
kind-true DynamicSymbols (Other n) e = cc
kind-true (Other m) PlainSymbols e = cc
kind-true (Other m) Notes e = cc
kind-true (Other m) NoBits e = cc
kind-true (Other m) DynamicSymbols e = cc
kind-true (Other m) (Other n) e = ap Other (eqb-true m n e)

-- one kind is the same as itself
self_kind : (a : SectionKind) → same_kind a a ≡ true
self_kind PlainSymbols = refl
self_kind Notes = refl
self_kind NoBits = refl
self_kind DynamicSymbols = refl
self_kind (Other n) = eq-eqb n n refl

-- so kinds that are told apart differ
pub kind-false : (a b : SectionKind) → same_kind a b ≡ false → a ≡ b → ⊥
kind-false a b h e = let q : ◌≡◌ {A = Bool} true false = sym (self_kind a) ∙ ap (same_kind a) e ∙ h in cc

-- and those that differ are told apart
pub kind-ne : (a b : SectionKind) → (a ≡ b → ⊥) → same_kind a b ≡ false
kind-ne a b other = told (same_kind a b) refl
  where
    told : (t : Bool) → same_kind a b ≡ t → t ≡ false
    told true h = absurd (other (kind-true a b h))
    told false h = refl
