-- The worked examples hold. Assumes nothing.
use Rattle.std.proofs.Common.{◌≡◌, ℕ, zero, suc, ◌-◌, Bool, true, not, ◌&&◌, eqb, List, [], ◌∷◌, ◌++◌, length, get_or, drop, Some, codes, refl, ap, ◌∙◌, subst, inl, inr, arith, lit<, lit≤}
use Rattle.std.proofs.lemmas.List.Prefix.{end_rest}
use Rattle.std.proofs.lemmas.Bool.{and_parts, eqb-false, not-true}
use Rattle.byte_parts.specs.Cut.{cut}
use Rattle.byte_parts.specs.Places.{Free, First}
use Rattle.byte_parts.proofs.FirstWords.{word_there}
use Rattle.byte_parts.proofs.Numerals.{writes_no_minus}
use Rattle.library_name.specs.Names.{dot_so, Stem, NamesFile}
use Rattle.ld_so_cache.specs.Cache.{Entry, Whole, Good}
use Rattle.proc_map.specs.Line.{Mapping, Words, no_more, one_more, Reads, Unreadable}
use Rattle.proc_map.specs.Maps.{map_lines}
use Rattle.proc_map.specs.Search.{path_at, LooksUp}
use Rattle.proc_map.proofs.Paths.{path_there}
use Rattle.proc_map.proofs.Ranges.{range_stops}
use Rattle.proc_map.proofs.Reading.{parts}
use Rattle.unix_path.specs.Paths.{FileName}
use Rattle.worked.specs.Examples.{otp_line, otp_path, dashed_line, otp_cache, WorkedExamples}

-- a test that the checker computes: the byte stands nowhere
without : ℕ → List ℕ → Bool
without b [] = true
without b (c ∷ cs) = not (eqb c b) && without b cs

without_free : (b : ℕ) (xs : List ℕ) → without b xs ≡ true → Free b xs
unfolding without
without_free b [] t k l e = omega arith
without_free b (c ∷ cs) t zero l e = eqb-false c b (not-true _ (and_parts (not (eqb c b)) (without b cs) t).0) e
without_free b (c ∷ cs) t (suc k) l e = without_free b cs (and_parts (not (eqb c b)) (without b cs) t).1 k (omega arith) e

-- what the line says
abbrev otp_mapping : Mapping
otp_mapping =
    record {
      address = 0x7f10;
      address_end = 0x7f20;
      perms = codes "r-xp";
      offset = 0;
      dev = codes "08:02";
      inode = 7;
      path = Some otp_path;
      path_place = 25;
    }

otp_words : Words otp_line (codes "7f10-7f20" ∷ codes "r-xp" ∷ codes "0" ∷ codes "08:02" ∷ codes "7" ∷ []) (codes " /lib/libotp.so.4")
otp_words =
    one_more (word_there otp_line (lit< tt))
    (one_more (word_there (codes " r-xp 0 08:02 7 /lib/libotp.so.4") (lit< tt))
    (one_more (word_there (codes " 0 08:02 7 /lib/libotp.so.4") (lit< tt))
    (one_more (word_there (codes " 08:02 7 /lib/libotp.so.4") (lit< tt)) (one_more (word_there (codes " 7 /lib/libotp.so.4") (lit< tt)) no_more))))

otp_reads : Reads otp_line otp_mapping
otp_reads =
    record {
      address_word = codes "7f10-7f20";
      offset_word = codes "0";
      inode_word = codes "7";
      rest = codes " /lib/libotp.so.4";
      words = otp_words;
      addresses = record {
        left = codes "7f10";
        right = codes "7f20";
        shape = refl;
        starts = record { digits = (lit< tt, (lit< tt, (lit< tt, (lit< tt, (lit< tt, tt))))); number = refl; fits = lit< tt };
        stops = record { digits = (lit< tt, (lit< tt, (lit< tt, (lit< tt, (lit< tt, tt))))); number = refl; fits = lit< tt };
      };
      in_file = record { digits = (lit< tt, (lit< tt, tt)); number = refl; fits = lit< tt };
      numbered = record { digits = (lit< tt, (lit< tt, tt)); number = refl; fits = lit< tt };
      ends = (1, path_there (codes " /lib/libotp.so.4") (lit< tt), refl);
    }

otp_file : FileName otp_path (codes "libotp.so.4")
unfolding cut
otp_file =
    record {
      before = codes "lib" ∷ [];
      last = refl;
      not_here = λ e. let n = ap length e in omega arith;
      not_above = λ e. let n = ap length e in omega arith;
    }

names : (target : List ℕ) → NamesFile target (codes "libotp.so.4") → LooksUp target (map_lines otp_line) (path_at 25 otp_path)
unfolding cut
names target h =
    inr (otp_mapping, otp_reads, inl (otp_path, record { has = refl; file = codes "libotp.so.4"; last = otp_file; names = h }, refl))

stem_only : (name : List ℕ) → (get_or (drop (length name - 3) name) 0 0 ≡ 46 → ⊥) → Stem name name
stem_only name other = inr (refl, λ front e. other (ap (λ l. get_or l 0 0) (end_rest name dot_so front e)))

otp_entry : Entry otp_cache 1 (codes "libotp.so.4") otp_path
unfolding without
otp_entry =
    record {
      room = lit≤ tt;
      key_here = record { rest = otp_path ++ (0 ∷ []); shape = refl; free = without_free 0 (codes "libotp.so.4") refl };
      value_here = record { rest = []; shape = refl; free = without_free 0 otp_path refl };
    }

otp_good : Good otp_cache
otp_good =
    record {
      header = record { starts = refl; counted = lit≤ tt };
      entries = λ n some within.
          let one : 1 ≡ n = omega arith in
          subst (Whole otp_cache) one (codes "libotp.so.4", otp_path, otp_entry);
    }

dashed : Unreadable dashed_line
dashed m h =
    let words : Words dashed_line (codes "1-2-3" ∷ codes "r-xp" ∷ codes "0" ∷ codes "08:02" ∷ codes "7" ∷ []) [] =
    one_more (word_there dashed_line (lit< tt))
    (one_more (word_there (codes " r-xp 0 08:02 7") (lit< tt))
    (one_more (word_there (codes " 0 08:02 7") (lit< tt))
    (one_more (word_there (codes " 08:02 7") (lit< tt)) (one_more (word_there (codes " 7") (lit< tt)) no_more))))
    in
    let first : First 45 (codes "1-2-3") 1 = record { within = lit< tt; here = refl; before = λ k l e. let z : 0 ≡ k = omega arith in let f : ◌≡◌ {A = ℕ} 49 45 = ap (λ i. get_or (codes "1-2-3") i 0) z ∙ e in omega arith } in
    writes_no_minus 16 (codes "2-3") m.address_end (lit≤ tt) (range_stops (parts words h).addresses 1 first) 1 (lit< tt) refl

pub worked_examples_lem : WorkedExamples
unfolding cut
worked_examples_lem =
    record {
      in_section = refl;
      below_section = refl;
      past_all = refl;
      last_of_all = refl;
      by_stem = (names (codes "libotp.so") (record { stem = codes "libotp"; rest = codes ".so.4"; stemmed = inl refl; shape = refl; ends = inr (inl (codes ".4", refl)) }), refl);
      itself_mapped = names (codes "libotp.so.4") (record { stem = codes "libotp.so.4"; rest = []; stemmed = stem_only (codes "libotp.so.4") (λ e. omega arith); shape = refl; ends = inl refl });
      itself_cached = inr (otp_good, inl (1, otp_path, record { some = lit< tt; within = lit≤ tt; key = codes "libotp.so.4"; entry = otp_entry; names = inl refl; first = λ m k v a b e n. omega arith }, refl));
      two_dashes = inl (dashed, refl);
    }
