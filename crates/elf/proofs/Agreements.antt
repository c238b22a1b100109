-- What two images with a stretch in common have in common there. Assumes nothing.
use Rattle.std.proofs.Common.{◌≡◌, ℕ, zero, suc, ◌+◌, ◌-◌, ◌*◌, ◌<◌, ◌≤◌, Bool, true, false, cond, leb, List, ◌∷◌, map, length, get_or, take, drop, Some, None, Option, sym, refl, ap, ◌∙◌, arith}
use Rattle.std.specs.List.{range_with_len}
use Rattle.std.proofs.lemmas.List.{drop-drop, drop-take, get_or-drop, get_or-take, take-take}
use Rattle.byte_parts.specs.Fields.{little_endian, little_endian_from}
use Rattle.byte_parts.specs.Spans.{stretch}
use Rattle.shelf.specs.Questions.{ask}
use Rattle.elf.specs.Frames.{SamePart}

-- a number by the bytes that it stands in
number_in : (n place : ℕ) (xs : List ℕ) (k i : ℕ) → i + k ≤ n → little_endian_from k xs place i ≡ little_endian_from k (take n (drop place xs)) 0 i
number_in n place xs zero i l = refl
number_in n place xs (suc k) i l =
    let there : get_or (take n (drop place xs)) (0 + i) 0 ≡ get_or xs (place + (0 + i)) 0 = get_or-take n (drop place xs) (0 + i) 0 (omega arith) ∙ get_or-drop place xs (0 + i) 0 in
    let at : 0 + i ≡ i = omega arith in
    ap (λ b. b + 256 * little_endian_from k xs place (1 + i)) (sym (there ∙ ap (λ j. get_or xs (place + j) 0) at))
    ∙ ap (λ m. get_or (take n (drop place xs)) (0 + i) 0 + 256 * m) (number_in n place xs k (1 + i) (omega arith))

module _ (xs ys : List ℕ) where
  pub same_number : (n place : ℕ) → SamePart xs ys place n → little_endian n ys place ≡ little_endian n xs place
  same_number n place same =
      number_in n place ys n 0 (omega arith)
      ∙ ap (λ bs. little_endian n bs 0) same
      ∙ sym (number_in n place xs n 0 (omega arith))

  -- a stretch inside the stretch
  pub same_within : (place len at m : ℕ) → at + m ≤ len → SamePart xs ys place len → SamePart xs ys (place + at) m
  same_within place len at m l same = sym (inner ys) ∙ ap (λ bs. take m (drop at bs)) same ∙ inner xs
    where
      room : len ≡ at + (len - at)
      room = omega arith

      inner : (zs : List ℕ) → take m (drop at (take len (drop place zs))) ≡ take m (drop (place + at) zs)
      inner zs =
          ap (λ n. take m (drop at (take n (drop place zs)))) room
          ∙ ap (take m) (drop-take at (len - at) (drop place zs))
          ∙ take-take m (len - at) (drop at (drop place zs)) (omega arith)
          ∙ ap (take m) (drop-drop at place zs)

  pub same_front : (place len m : ℕ) → m ≤ len → SamePart xs ys place len → SamePart xs ys place m
  same_front place len m l same =
      sym (take-take m len (drop place ys) l) ∙ ap (take m) same ∙ take-take m len (drop place xs) l

  pub same_stretch : (place len : ℕ) → length ys ≡ length xs → SamePart xs ys place len → stretch ys place len ≡ stretch xs place len
  same_stretch place len long same =
      ap (λ n. cond (leb (place + len) n) (Some (take len (drop place ys))) None) long
      ∙ ap (λ bs. cond (leb (place + len) (length xs)) (Some bs) None) same

-- lists that are made from the same numbers by what agrees there
pub same_counted : {X : Type 0} (f g : ℕ → X) (a n : ℕ) → ((k : ℕ) → a ≤ k → k < a + n → f k ≡ g k) → map f (range_with_len a n) ≡ map g (range_with_len a n)
same_counted f g a zero each = refl
same_counted f g a (suc n) each =
    ap (λ x. x ∷ map f (range_with_len (a + 1) n)) (each a (omega arith) (omega arith))
    ∙ ap (λ l. g a ∷ l) (same_counted f g (a + 1) n (λ k low high. each k (omega arith) (omega arith)))

-- asking on, of the same answer, by what agrees on it
pub same_ask : {X Y : Type 0} (o q : Option X) (f g : X → Option Y) → o ≡ q → ((x : X) → q ≡ Some x → f x ≡ g x) → ask o f ≡ ask q g
same_ask o None f g e each = ap (λ r. ask r f) e
same_ask o (Some x) f g e each = ap (λ r. ask r f) e ∙ each x refl

pub same_cond : {X : Type 0} (b : Bool) (x y z : X) → (b ≡ true → x ≡ y) → cond b x z ≡ cond b y z
same_cond true x y z each = each refl
same_cond false x y z each = refl
