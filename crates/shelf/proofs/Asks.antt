-- What an answer that is there says of the questions behind it. Assumes nothing.
use Rattle.std.proofs.Common.{◌≡◌, ℕ, Bool, true, cond, Some, None, Option, refl, ◌∙◌, ⊎_elim, arith}
use Rattle.std.specs.Option.{option_map}
use Rattle.std.proofs.lemmas.Bool.{cases_Bool, cond-true, cond-false}
use Rattle.shelf.specs.Questions.{ask}

-- an answer that asks on had something to ask
pub ask_some : {X Y : Type 0} (o : Option X) (f : X → Option Y) (y : Y) → Some y ≡ ask o f → (x : X) × (o ≡ Some x) × (Some y ≡ f x)
ask_some None f y e = let z : ◌≡◌ {A = ℕ} 0 1 = cc in absurd (omega arith)
ask_some (Some x) f y e = (x, refl, e)

-- an answer under a test passed it
pub cond_some : {Y : Type 0} (b : Bool) (o : Option Y) (y : Y) → Some y ≡ cond b o None → (b ≡ true) × (Some y ≡ o)
cond_some b o y e =
    ⊎_elim
    (λ t. (t, e ∙ cond-true b o None t))
    (λ f.
    let u = cond-false b o None f in
    let z : ◌≡◌ {A = ℕ} 0 1 = cc in
    absurd (omega arith))
    (cases_Bool b)

pub mapped_some : {X Y : Type 0} (f : X → Y) (o : Option X) (y : Y) → Some y ≡ option_map f o → (x : X) × (o ≡ Some x) × (y ≡ f x)
mapped_some f None y e = let z : ◌≡◌ {A = ℕ} 0 1 = cc in absurd (omega arith)
mapped_some f (Some x) y e = (x, refl, cc)

-- two answers that are there are the same
pub some_same : {X : Type 0} (x y : X) → Some x ≡ Some y → x ≡ y
some_same x y e = cc

-- asking a part of an answer
pub ask_mapped : {X Y Z : Type 0} (m : Option X) (f : X → Y) (g : Y → Option Z) → ask (option_map f m) g ≡ ask m (λ x. g (f x))
ask_mapped None f g = refl
ask_mapped (Some x) f g = refl

pub mapped_mapped : {X Y Z : Type 0} (m : Option X) (f : X → Y) (g : Y → Z) → option_map g (option_map f m) ≡ option_map (λ x. g (f x)) m
mapped_mapped None f g = refl
mapped_mapped (Some x) f g = refl
