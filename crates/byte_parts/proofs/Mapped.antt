-- What stands where in a list that is made from another, element by element. Assumes nothing.
use Rattle.std.proofs.Common.{◌≡◌, ℕ, zero, suc, ◌+◌, Bool, true, false, not, cond, ltb, List, [], ◌∷◌, map, length, Some, None, sym, refl, ap, ◌∙◌}
use Rattle.std.specs.Option.{option_map}
use Rattle.std.specs.List.{find, position, position_or_len, prefix_len, slice_get}
use Rattle.std.proofs.lemmas.List.{length-map}

-- what stands at a place
pub nth_map : {X Y : Type 0} (f : X → Y) (xs : List X) (i : ℕ) → slice_get (map f xs) i ≡ option_map f (slice_get xs i)
nth_map f [] i = refl
nth_map f (x ∷ xs) zero = refl
nth_map f (x ∷ xs) (suc i) = nth_map f xs i

-- the first element that passes a test
pub find_map : {X Y : Type 0} (test : Y → Bool) (f : X → Y) (xs : List X) → option_map f (find (λ x. test (f x)) xs) ≡ find test (map f xs)
find_map test f [] = refl
find_map test f (x ∷ xs) =
    elim (test (f x)) as (λ b. option_map f (cond b (Some x) (find (λ y. test (f y)) xs)) ≡ cond b (Some (f x)) (find test (map f xs))) [ true ↦ refl | false ↦ find_map test f xs ]

-- and its place
prefix_len_map : {X Y : Type 0} (test : Y → Bool) (f : X → Y) (xs : List X) → prefix_len (λ x. test (f x)) xs ≡ prefix_len test (map f xs)
prefix_len_map test f [] = refl
prefix_len_map test f (x ∷ xs) = ap (λ n. cond (test (f x)) (1 + n) 0) (prefix_len_map test f xs)

pub position_map : {X Y : Type 0} (test : Y → Bool) (f : X → Y) (xs : List X) → position (λ x. test (f x)) xs ≡ position test (map f xs)
position_map test f xs =
    let same = prefix_len_map (λ y. not (test y)) f xs in
    let long = length-map xs f in
    ap (λ n. cond (ltb n (length xs)) (Some n) None) same
    ∙ ap (λ n. cond (ltb (position_or_len test (map f xs)) n) (Some (position_or_len test (map f xs))) None) (sym long)
