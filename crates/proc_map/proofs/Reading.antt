-- A line's words, and that a line says one thing at most. Assumes nothing.
use Rattle.std.proofs.Common.{◌≡◌, ℕ, ◌≤◌, List, [], ◌∷◌, ◌++◌, length, Some, None, Option, sym, refl, ap, ◌∙◌, subst, arith}
use Rattle.std.proofs.lemmas.List.{append_assoc, length-append}
use Rattle.byte_parts.specs.Numbers.{Writes}
use Rattle.byte_parts.specs.Words.{FirstWord}
use Rattle.byte_parts.proofs.FirstWords.{one_word}
use Rattle.byte_parts.proofs.Numerals.{writes_once}
use Rattle.proc_map.specs.Line.{Mapping, Words, no_more, one_more, Range, Ends, Reads, ReadsOnce}
use Rattle.proc_map.proofs.Paths.{gap_is, path_is, not_all_blank}
use Rattle.proc_map.proofs.Ranges.{same_range}

-- past a text's first word, the other words are those of what follows it
pub next_words : {text v left w : List ℕ} {ws : List (List ℕ)} {rest : List ℕ} → FirstWord text v left → Words text (w ∷ ws) rest → (w ≡ v) × Words left ws rest
next_words {ws} {rest} f (one_more g more) =
    let e = one_word g f in
    (e.0, subst (λ l. Words l ws rest) e.1 more)

-- a text with no word has none of them
pub no_words : {text w : List ℕ} {ws : List (List ℕ)} {rest : List ℕ} → ((v left : List ℕ) → FirstWord text v left → ⊥) → Words text (w ∷ ws) rest → ⊥
no_words none (one_more g more) = none _ _ g

-- as many words are the same words, with the same rest
pub same_words : {text : List ℕ} {ws vs : List (List ℕ)} {rest left : List ℕ} → length ws ≡ length vs → Words text ws rest → Words text vs left → (ws ≡ vs) × (rest ≡ left)
same_words e no_more no_more = (refl, refl)
same_words e no_more (one_more g more) = absurd (omega arith)
same_words e (one_more g more) no_more = absurd (omega arith)
same_words e (one_more g more) (one_more f others) =
    let n = next_words f (one_more g more) in
    let m = same_words (omega arith) n.1 others in
    let first = n.0 in
    let second = m.0 in
    (cc, m.1)

-- what follows the words is the end of the line
pub rest_ends : {text : List ℕ} {ws : List (List ℕ)} {rest : List ℕ} → Words text ws rest → (front : List ℕ) × (text ≡ front ++ rest)
rest_ends no_more = ([], refl)
rest_ends (one_more {w} {left} {rest} f more) =
    let behind = rest_ends more in (
      f.pad ++ (w ++ behind.0),
      f.shape
          ∙ ap (λ l. f.pad ++ (w ++ l)) behind.1
          ∙ ap (λ l. f.pad ++ l) (sym (append_assoc w behind.0 rest))
          ∙ sym (append_assoc f.pad (w ++ behind.0) rest),
    )

pub rest_fits : {text : List ℕ} {ws : List (List ℕ)} {rest : List ℕ} → Words text ws rest → length rest ≤ length text
rest_fits {rest} h =
    let e = rest_ends h in
    let long = ap length e.1 ∙ length-append e.0 rest in
    omega arith

same_ends : (line rest : List ℕ) (p q : Option (List ℕ)) (i j : ℕ) → Ends line rest p i → Ends line rest q j → (p ≡ q) × (i ≡ j)
same_ends line rest None None i j h k = (refl, h.1 ∙ sym k.1)
same_ends line rest None (Some q) i j h k = absurd (not_all_blank k.1 h.0)
same_ends line rest (Some p) None i j h k = absurd (not_all_blank h.1 k.0)
same_ends line rest (Some p) (Some q) i j h k =
    let paths : p ≡ q = path_is h.1 ∙ sym (path_is k.1) in
    let gaps : h.0 ≡ k.0 = gap_is h.1 ∙ sym (gap_is k.1) in
    let first = h.2 in
    let second = k.2 in
    (ap Some paths, omega arith)

-- what a line says, by any five words that it starts with
pub record Parts (line : List ℕ) (m : Mapping) (address perms offset dev inode rest : List ℕ) : Type 0 where
  pub same_perms : m.perms ≡ perms
  pub same_dev : m.dev ≡ dev
  pub addresses : Range address m.address m.address_end
  pub in_file : Writes 16 offset m.offset
  pub numbered : Writes 10 inode m.inode
  pub ends : Ends line rest m.path m.path_place

pub parts : {line : List ℕ} {m : Mapping} {address perms offset dev inode rest : List ℕ} → Words line (address ∷ perms ∷ offset ∷ dev ∷ inode ∷ []) rest → Reads line m → Parts line m address perms offset dev inode rest
parts {line} {m} {address} {perms} {offset} {dev} {inode} w h =
    let five = (same_words refl h.words w).0 in
    let left = (same_words refl h.words w).1 in
    let first : h.address_word ≡ address = cc in
    let third : h.offset_word ≡ offset = cc in
    let fifth : h.inode_word ≡ inode = cc in
    record {
      same_perms = cc;
      same_dev = cc;
      addresses = subst (λ x. Range x m.address m.address_end) first h.addresses;
      in_file = subst (λ x. Writes 16 x m.offset) third h.in_file;
      numbered = subst (λ x. Writes 10 x m.inode) fifth h.numbered;
      ends = subst (λ x. Ends line x m.path m.path_place) left h.ends;
    }

pub reads_once : ReadsOnce
reads_once line m n h k =
    let p = parts k.words h in
    let range = same_range p.addresses k.addresses in
    let path = same_ends line k.rest _ _ _ _ p.ends k.ends in
    λ i. record {
      address = range.0 i;
      address_end = range.1 i;
      perms = p.same_perms i;
      offset = writes_once p.in_file k.in_file i;
      dev = p.same_dev i;
      inode = writes_once p.numbered k.numbered i;
      path = path.0 i;
      path_place = path.1 i;
    }
