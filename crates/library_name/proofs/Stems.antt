-- A name has one stem, and what follows it decides which names it stands for. Assumes nothing.
use Rattle.std.proofs.Common.{◌≡◌, ℕ, eqb, Bool, ◌⊎◌, List, [], ◌++◌, length, drop, false, Some, None, ◌≢◌, Decides, Option, sym, ap, ◌∙◌, subst, inl, inr, ⊎_elim, append_assoc, Bor, MatchOption}
use Rattle.std.specs.List.{starts_with}
use Rattle.std.specs.Option.{unwrap_or}
use Rattle.std.proofs.lemmas.Slice.Eq.{starts_is}
use Rattle.std.proofs.lemmas.List.{append_cancel_left, append_cancel_right}
use Rattle.std.proofs.lemmas.Bool.{false≢true}
use Rattle.std.proofs.lemmas.Bool.Decides.{Decides-like, Decides-eqb}
use Rattle.library_name.specs.Names.{dot_so, dash, Starts, Stem, AfterStem, NamesFile, NamesKey}

pub one_stem : {name s t : List ℕ} → Stem name s → Stem name t → s ≡ t
one_stem {s = s} {t = t} (inl a) (inl b) = append_cancel_right s t dot_so (sym a ∙ b)
one_stem {s = s} (inl a) (inr b) = absurd (b.1 s a)
one_stem {t = t} (inr a) (inl b) = absurd (a.1 t b)
one_stem (inr a) (inr b) = a.0 ∙ sym b.0

-- the rest of a name is what follows any stem of the target in it
pub after_stem_of : (target name stem : List ℕ) → Stem target stem → (r : Option (Bor (List ℕ))) → MatchOption r ((rest : List ℕ) → name ≡ stem ++ rest → ⊥) (λ x. name ≡ stem ++ x.now) → MatchOption r ((rest : List ℕ) → AfterStem target name rest → ⊥) (λ x. AfterStem target name x.now)
after_stem_of target name stem s (Some x) e = record { stem = stem; stemmed = s; shape = e }
after_stem_of target name stem s None none = λ rest h. none rest (h.shape ∙ ap (λ l. l ++ rest) (one_stem h.stemmed s))

-- what `starts_with` answers
pub starts_decides : (s p : List ℕ) (r : Bool) → r ≡ starts_with eqb s p → Decides r (Starts p s)
starts_decides s p r m =
    let both = starts_is Decides-eqb s p r m in
    (λ t. (drop (length p) s, both.0 t), λ h. both.1 h.0 h.1)

module _ {target name rest : List ℕ} (h : AfterStem target name rest) where
  rest_is : (stem more : List ℕ) → Stem target stem → name ≡ stem ++ more → more ≡ rest
  rest_is stem more s e =
      append_cancel_left h.stem more rest (ap (λ l. l ++ more) (one_stem h.stemmed s) ∙ sym e ∙ h.shape)

  pub file_by_rest : (r : Bool) → Decides r ((rest ≡ []) ⊎ (Starts dot_so rest ⊎ Starts dash rest)) → Decides r (NamesFile target name)
  file_by_rest r d =
      Decides-like r
      (λ e. record { stem = h.stem; rest = rest; stemmed = h.stemmed; shape = h.shape; ends = e })
      (λ n. subst (λ l. (l ≡ []) ⊎ (Starts dot_so l ⊎ Starts dash l)) (rest_is n.stem n.rest n.stemmed n.shape) n.ends)
      d

  pub key_by_rest : (r : Bool) → (name ≡ target → ⊥) → Decides r (Starts dot_so rest) → Decides r (NamesKey target name)
  key_by_rest r other d =
      Decides-like r
      (λ e. inr (h.stem, h.stemmed, (e.0, h.shape ∙ ap (λ l. h.stem ++ l) e.1 ∙ sym (append_assoc h.stem dot_so e.0))))
      (λ n. ⊎_elim (λ e. absurd (other e)) (λ k. (k.2.0, sym (rest_is k.0 (dot_so ++ k.2.0) k.1 (k.2.1 ∙ append_assoc k.0 dot_so k.2.0)))) n)
      d

module _ {target name : List ℕ} (none : (rest : List ℕ) → AfterStem target name rest → ⊥) where
  pub no_file : NamesFile target name → ⊥
  no_file n = none n.rest (record { stem = n.stem; stemmed = n.stemmed; shape = n.shape })

  pub no_key : (name ≡ target → ⊥) → NamesKey target name → ⊥
  no_key other n =
      ⊎_elim other
      (λ k. none (dot_so ++ k.2.0) (record { stem = k.0; stemmed = k.1; shape = k.2.1 ∙ append_assoc k.0 dot_so k.2.0 }))
      n

-- the front of a name, or else the name, is its stem
pub stem_of_front : (name : List ℕ) (r : Option (Bor (List ℕ))) (whole : Bor (List ℕ)) → whole.now ≡ name → MatchOption r ((front : List ℕ) → name ≢ front ++ dot_so) (λ x. name ≡ x.now ++ dot_so) → Stem name (unwrap_or r whole).now
stem_of_front name (Some x) whole e h = inl h
stem_of_front name None whole e h = inr (e, h)

-- what is decided by the rest, where there is one, is decided by the name
pub decided_by_rest : {target name : List ℕ} {P : Type 0} (r : Option (Bor (List ℕ))) (b : Bool) {Q : Bor (List ℕ) → Type 0} → MatchOption r ((rest : List ℕ) → AfterStem target name rest → ⊥) (λ x. AfterStem target name x.now) → MatchOption r (b ≡ false) Q → ((x : Bor (List ℕ)) → AfterStem target name x.now → Q x → Decides b P) → (((rest : List ℕ) → AfterStem target name rest → ⊥) → P → ⊥) → Decides b P
decided_by_rest (Some x) b h q some none = some x h q
decided_by_rest None b h q some none = (λ e. absurd (false≢true (sym q ∙ e)), λ p. absurd (none h p))
