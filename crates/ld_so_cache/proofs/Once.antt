-- A cache has one fault at most, and a search of it one answer. Assumes nothing.
use Rattle.std.proofs.Common.{◌≡◌, ℕ, List, sym, refl, ap, ◌∙◌, subst, inl, inr, ⊎_elim, arith}
use Rattle.std.proofs.lemmas.Bool.{cases_order}
use Rattle.byte_parts.proofs.Strings.{string_once}
use Rattle.ld_so_cache.specs.declared.fault.CacheFault.{CacheFault}
use Rattle.ld_so_cache.specs.declared.fault.CacheFault.TheVariants.{Truncated, InvalidHeader, InvalidString}
use Rattle.ld_so_cache.specs.Cache.{Header, Room, Whole, Good, Finds, FindsNone}
use Rattle.ld_so_cache.specs.Faults.{NoCount, Reaches, Refuses}

-- bytes that end in the header have none
no_header : {bytes : List ℕ} → NoCount bytes → Header bytes → ⊥
no_header (inl short) h = let c = h.counted in omega arith
no_header (inr cut) h = let c = h.counted in omega (arith, cut.1)

module _ {bytes : List ℕ} where
  no_room : {n : ℕ} → (Room bytes n → ⊥) → Whole bytes n → ⊥
  no_room none w = none w.2.room

  -- of the entries that are not whole one is the first
  first_bad : {m n : ℕ} → Reaches bytes m → (Whole bytes m → ⊥) → Reaches bytes n → (Whole bytes n → ⊥) → m ≡ n
  first_bad {m} {n} h bad k worse =
      ⊎_elim (λ e. e)
      (⊎_elim (λ less. absurd (bad (k.before m h.some less))) (λ more. absurd (worse (h.before n k.some more))))
      (cases_order m n)

  -- a cache with an entry that is not whole cannot be read
  at_entry : {n : ℕ} → Reaches bytes n → (Whole bytes n → ⊥) → Good bytes → ⊥
  at_entry {n} h bad good = bad (good.entries n h.some h.within)

  no_magic : {n : ℕ} → Refuses bytes InvalidHeader → Refuses bytes (Truncated n) → ⊥
  no_magic h (inl k) = ⊎_elim (λ short. omega (arith, h.0)) (λ cut. h.1 cut.0) k.1
  no_magic h (inr k) = h.1 k.0.header.starts

  other_fault : {m n : ℕ} → Refuses bytes (Truncated m) → Refuses bytes (InvalidString n) → ⊥
  other_fault (inl h) k = no_header h.1 k.0.header
  other_fault (inr h) k =
      let same = first_bad h.0 (no_room h.1) k.0 k.2 in
      h.1 (subst (Room bytes) (sym same) k.1)

-- a cache that is refused cannot be read
pub refused_good : (bytes : List ℕ) (f : CacheFault) → Refuses bytes f → Good bytes → ⊥
refused_good bytes (Truncated n) (inl h) good = no_header h.1 good.header
refused_good bytes (Truncated n) (inr h) good = at_entry h.0 (no_room h.1) good
refused_good bytes InvalidHeader h good = h.1 good.header.starts
refused_good bytes (InvalidString n) h good = at_entry h.0 h.2 good

-- it is refused for one fault
pub one_fault : (bytes : List ℕ) (f g : CacheFault) → Refuses bytes f → Refuses bytes g → f ≡ g
one_fault bytes (Truncated m) (Truncated n) (inl h) (inl k) = ap Truncated (h.0 ∙ sym k.0)
one_fault bytes (Truncated m) (Truncated n) (inl h) (inr k) = absurd (no_header h.1 k.0.header)
one_fault bytes (Truncated m) (Truncated n) (inr h) (inl k) = absurd (no_header k.1 h.0.header)
one_fault bytes (Truncated m) (Truncated n) (inr h) (inr k) =
    ap Truncated (first_bad h.0 (no_room h.1) k.0 (no_room k.1))
one_fault bytes (Truncated m) InvalidHeader h k = absurd (no_magic k h)
one_fault bytes (Truncated m) (InvalidString n) h k = absurd (other_fault h k)
one_fault bytes InvalidHeader (Truncated n) h k = absurd (no_magic h k)
one_fault bytes InvalidHeader InvalidHeader h k = refl
one_fault bytes InvalidHeader (InvalidString n) h k = absurd (h.1 k.0.header.starts)
one_fault bytes (InvalidString m) (Truncated n) h k = absurd (other_fault k h)
one_fault bytes (InvalidString m) InvalidHeader h k = absurd (k.1 h.0.header.starts)
one_fault bytes (InvalidString m) (InvalidString n) h k = ap InvalidString (first_bad h.0 h.2 k.0 k.2)

-- a search finds one entry
pub one_entry : {bytes : List ℕ} {total : ℕ} {target : List ℕ} {m n : ℕ} {v w : List ℕ} → Finds bytes total target m v → Finds bytes total target n w → m ≡ n
one_entry {m} {n} h k =
    ⊎_elim (λ e. e)
    (⊎_elim (λ less. absurd (k.first m h.key _ h.some less h.entry h.names)) (λ more. absurd (h.first n k.key _ k.some more k.entry k.names)))
    (cases_order m n)

-- and one value
pub one_value : {bytes : List ℕ} {total : ℕ} {target : List ℕ} {m n : ℕ} {v w : List ℕ} → Finds bytes total target m v → Finds bytes total target n w → v ≡ w
one_value {bytes} {total} {target} {v = v} h k =
    string_once (subst (λ i. Finds bytes total target i v) (one_entry h k) h).entry.value_here k.entry.value_here

-- or finds that there is none
pub found_none : {bytes : List ℕ} {total : ℕ} {target : List ℕ} {n : ℕ} {v : List ℕ} → Finds bytes total target n v → FindsNone bytes total target → ⊥
found_none {n} {v} h none = none n h.key v h.some h.within h.entry h.names
