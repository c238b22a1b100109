-- What the fields and the strings of an entry say of it. Assumes nothing.
use Rattle.std.proofs.Common.{◌≡◌, ℕ, ◌+◌, ◌<◌, ◌≤◌, ◌⊎◌, List, sym, subst, inl, inr, ⊎_elim, arith}
use Rattle.std.proofs.lemmas.Bool.{cases_lt}
use Rattle.std.proofs.lemmas.Grind.{not_there}
use Rattle.byte_parts.specs.Fields.{StringAt}
use Rattle.ld_so_cache.specs.Cache.{count, Entry, Whole, Good, FieldsRead, Room}
use Rattle.ld_so_cache.specs.Faults.{Reaches, EntryFault, Refuses}
use Rattle.ld_so_cache.specs.declared.fault.CacheFault.{CacheFault}
use Rattle.ld_so_cache.specs.declared.fault.CacheFault.TheVariants.{Truncated, InvalidHeader, InvalidString}
use Rattle.byte_parts.proofs.Strings.{string_once}

module _ {bytes : List ℕ} {n flag key_from value_from : ℕ} (f : FieldsRead bytes n flag key_from value_from) where
  pub entry_of : {key value : List ℕ} → StringAt bytes key_from key → StringAt bytes value_from value → Entry bytes n key value
  entry_of {key = key} {value = value} k v =
      record {
        room = f.room;
        key_here = subst (λ p. StringAt bytes p key) f.key_from_is k;
        value_here = subst (λ p. StringAt bytes p value) f.value_from_is v;
      }

  key_there : {key value : List ℕ} → Entry bytes n key value → StringAt bytes key_from key
  key_there {key = key} e = subst (λ p. StringAt bytes p key) (sym f.key_from_is) e.key_here

  -- without a key there is no entry
  pub no_key_string : ((s : List ℕ) → StringAt bytes key_from s → ⊥) → {key value : List ℕ} → Entry bytes n key value → ⊥
  no_key_string none {key = key} e = none key (key_there e)

  -- nor without a value
  pub no_value_string : ((s : List ℕ) → StringAt bytes value_from s → ⊥) → {key value : List ℕ} → Entry bytes n key value → ⊥
  no_value_string none {value = value} e = none value (subst (λ p. StringAt bytes p value) (sym f.value_from_is) e.value_here)

  -- the key that was read is the one that the entry has
  pub key_is : {s key value : List ℕ} → StringAt bytes key_from s → Entry bytes n key value → key ≡ s
  key_is k e = string_once (key_there e) k

-- a cache that can be read has no entry that is not whole
pub no_bad : {bytes : List ℕ} {n total : ℕ} → ∥ Good bytes ∥₁ → total ≡ count bytes → 0 < n → n ≤ total → (Whole bytes n → ⊥) → ⊥
no_bad good counted some fits bad = not_there good (λ g. bad (g.entries _ some (omega arith)))

-- what holds of each number from 1 on below i, and of i
pub numbers_more : (P : ℕ → Type 0) (i : ℕ) → ((m : ℕ) → 0 < m → m < i → P m) → P i → (m : ℕ) → 0 < m → m < i + 1 → P m
numbers_more P i all this m some l =
    ⊎_elim
    (λ less. all m some less)
    (λ past. let same : i ≡ m = omega arith in subst P same this)
    (cases_lt m i)

-- what holds of each number below the last one reached, and of that one, where it is not past the total, holds of all
pub numbers_done : (P : ℕ → Type 0) (i total : ℕ) → ((m : ℕ) → 0 < m → m < i → P m) → (total < i) ⊎ (P i × (total ≤ i)) → (m : ℕ) → 0 < m → m ≤ total → P m
numbers_done P i total all (inl past) m some l = all m some (omega arith)
numbers_done P i total all (inr last) m some l = numbers_more P i all last.0 m some (omega arith)

-- a fault of the entry that is reached is one of the cache
pub refuses_at : (bytes : List ℕ) (n : ℕ) → Reaches bytes n → (fault : CacheFault) → EntryFault bytes n fault → Refuses bytes fault
refuses_at bytes n r (Truncated entry) h =
    inr (subst (Reaches bytes) (sym h.0) r, λ room. h.1 (subst (Room bytes) h.0 room))
refuses_at bytes n r InvalidHeader h = absurd h
refuses_at bytes n r (InvalidString entry) h =
    (subst (Reaches bytes) (sym h.0) r, subst (Room bytes) (sym h.0) h.1, λ w. h.2 (subst (Whole bytes) h.0 w))
