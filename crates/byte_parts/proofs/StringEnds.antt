-- Where zero-terminated strings can be read, by the last zero byte. Assumes nothing.
use Rattle.std.proofs.Common.{◌≡◌, ℕ, zero, suc, ◌+◌, ◌-◌, ◌<◌, ◌≤◌, cond, eqb, ltb, List, [], ◌∷◌, length, get_or, take, drop, refl, ap, ◌∙◌, ⊎_elim, arith}
use Rattle.std.proofs.lemmas.List.{length-drop, get_or-drop}
use Rattle.std.proofs.lemmas.Bool.{cases_eq, cond_both, cond-false, cond-true, eq-eqb, le-ltb, lt-ltb, ne_eqb}
use Rattle.byte_parts.specs.Places.{Lacks, First, Last}
use Rattle.byte_parts.specs.Fields.{StringAt, StringsEnd, strings_end}
use Rattle.byte_parts.proofs.Strings.{string_here, string_fits, string_stop}

lacks_more : (x : ℕ) (xs : List ℕ) (n : ℕ) → (x ≡ 0 → ⊥) → Lacks 0 xs n → Lacks 0 (x ∷ xs) (suc n)
lacks_more x xs n other f zero l e = other e
lacks_more x xs n other f (suc k) l e = f k (omega arith) e

first_here : (x : ℕ) (xs : List ℕ) → x ≡ 0 → First 0 (x ∷ xs) 0
first_here x xs e = record { within = omega arith; here = e; before = λ j h _. omega arith }

first_later : (x : ℕ) (xs : List ℕ) (n : ℕ) → (x ≡ 0 → ⊥) → First 0 xs n → First 0 (x ∷ xs) (suc n)
first_later x xs n other f =
    record { within = omega (arith, f.within); here = f.here; before = lacks_more x xs n other f.before }

-- where there is a zero byte, there is a first one
pub first_there : (xs : List ℕ) (k : ℕ) → k < length xs → get_or xs k 0 ≡ 0 → (n : ℕ) × First 0 xs n
first_there [] k l e = absurd (omega arith)
first_there (x ∷ xs) zero l e = (0, first_here x xs e)
first_there (x ∷ xs) (suc k) l e =
    let later = first_there xs k (omega arith) e in
    ⊎_elim
    (λ here. (0, first_here x xs here))
    (λ other. (suc later.0, first_later x xs later.0 other later.1))
    (cases_eq x 0)

-- strings can be read up to the last zero byte
pub ends_after_last : (xs : List ℕ) (i : ℕ) → Last 0 xs i → StringsEnd xs (i + 1)
ends_after_last xs i last =
    record {
      before = λ place l.
          let there : place + (i - place) ≡ i = omega arith in
          let left = length-drop place xs in
          let first = first_there (drop place xs) (i - place) (omega (arith, last.within)) (get_or-drop place xs (i - place) 0 ∙ ap (λ j. get_or xs j 0) there ∙ last.here) in
          (take first.0 (drop place xs), string_here xs place first.0 first.1);
      past = λ place s l h. last.after (place + length s) (omega arith) (string_fits h) (string_stop h);
    }

-- and nowhere where there is none
pub ends_at_start : (xs : List ℕ) → Lacks 0 xs (length xs) → StringsEnd xs 0
ends_at_start xs none =
    record {
      before = λ place l. absurd (omega arith);
      past = λ place s l h. none (place + length s) (string_fits h) (string_stop h);
    }

-- the same as a number
pub strings_end_none : (xs : List ℕ) → Lacks 0 xs (length xs) → strings_end xs ≡ 0
strings_end_none [] none = refl
strings_end_none (x ∷ xs) none =
    let rest = strings_end_none xs (λ k l e. none (suc k) (omega arith) e) in
    cond-false (ltb 0 (strings_end xs)) _ _ (le-ltb 0 (strings_end xs) (omega arith))
    ∙ cond-false (eqb x 0) 1 0 (ne_eqb x 0 (none 0 (omega arith)))

last_before : (x : ℕ) (xs : List ℕ) (i : ℕ) → Last 0 (x ∷ xs) (suc i) → Last 0 xs i
last_before x xs i last =
    record { within = omega (arith, last.within); here = last.here; after = λ k l h e. last.after (suc k) (omega arith) (omega arith) e }

pub strings_end_last : (xs : List ℕ) (i : ℕ) → Last 0 xs i → strings_end xs ≡ i + 1
strings_end_last [] i last = absurd (omega (arith, last.within))
strings_end_last (x ∷ xs) zero last =
    let rest = strings_end_none xs (λ k l e. last.after (suc k) (omega arith) (omega arith) e) in
    cond-false (ltb 0 (strings_end xs)) _ _ (le-ltb 0 (strings_end xs) (omega arith))
    ∙ cond-true (eqb x 0) 1 0 (eq-eqb x 0 last.here)
strings_end_last (x ∷ xs) (suc i) last =
    let rest = strings_end_last xs i (last_before x xs i last) in
    let here = cond-true (ltb 0 (strings_end xs)) (1 + strings_end xs) (cond (eqb x 0) 1 0) (lt-ltb 0 (strings_end xs) (omega arith)) in
    omega arith

-- each zero byte stands before it, so no string can be read from there on
pub zero_before_end : (xs : List ℕ) (k : ℕ) → k < length xs → get_or xs k 0 ≡ 0 → k < strings_end xs
zero_before_end [] k l e = absurd (omega arith)
zero_before_end (x ∷ xs) zero l e =
    cond_both (ltb 0 (strings_end xs)) _ _ (λ n. 0 < n) (λ _. omega arith)
    (λ _. let here : cond {A = ℕ} (eqb x 0) 1 0 ≡ 1 = cond-true {A = ℕ} (eqb x 0) 1 0 (eq-eqb x 0 e) in omega arith)
zero_before_end (x ∷ xs) (suc k) l e =
    let more = zero_before_end xs k (omega arith) e in
    let here = cond-true (ltb 0 (strings_end xs)) (1 + strings_end xs) (cond (eqb x 0) 1 0) (lt-ltb 0 (strings_end xs) (omega arith)) in
    omega arith

pub no_string_past : (xs : List ℕ) (place : ℕ) → strings_end xs ≤ place → (s : List ℕ) → StringAt xs place s → ⊥
no_string_past xs place past s h =
    let stop = string_stop h in
    let before = zero_before_end xs (place + length s) (string_fits h) stop in
    omega arith
