-- A refusal as its reader sees it: its number and the values that it carries. Assumes nothing.
use Rattle.std.specs.Prelude.{ℕ, List}

pub record Refusal : Type 0 where
  pub number : ℕ
  pub values : List ℕ

abbrev pub refuse : ℕ → List ℕ → Refusal
refuse n vs = record { number = n; values = vs }
