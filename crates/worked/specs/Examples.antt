-- Worked examples, over the definitions that the contracts cite. Assumes nothing.
use Rattle.std.specs.Prelude.{◌≡◌, ℕ, ◌-◌, ◌^◌, List, [], ◌∷◌, ◌++◌, length, replicate, Some, Ok, Err, codes}
use Rattle.byte_parts.specs.Refusals.{refuse}
use Rattle.location.specs.Translation.{translated}
use Rattle.proc_map.specs.Maps.{map_lines}
use Rattle.proc_map.specs.Search.{path_at, refused, LooksUp}
use Rattle.attach_target.specs.Targets.{in_cache, CacheSays}

-- one line of maps
abbrev pub otp_line : List ℕ
otp_line = codes "7f10-7f20 r-xp 0 08:02 7 /lib/libotp.so.4"

abbrev pub otp_path : List ℕ
otp_path = codes "/lib/libotp.so.4"

-- a line whose address has two dashes
abbrev pub dashed_line : List ℕ
dashed_line = codes "1-2-3 r-xp 0 08:02 7"

-- a cache of one entry: its key stands at 72, its value at 84
abbrev pub otp_cache : List ℕ
otp_cache =
    codes "glibc-ld.so.cache1.1" ++ ((1 ∷ 0 ∷ 0 ∷ 0 ∷ []) ++ (replicate 24 0 ++ ((0 ∷ 0 ∷ 0 ∷ 0 ∷ 72 ∷ 0 ∷ 0 ∷ 0 ∷ 84 ∷ 0 ∷ 0 ∷ 0 ∷ []) ++ (replicate 12 0 ++ (codes "libotp.so.4" ++ (0 ∷ (otp_path ++ (0 ∷ []))))))))

pub record WorkedExamples : Type 0 where
  -- an address in a section, and one below it
  pub in_section : translated 0x401136 0x401000 0x1000 ≡ Ok 0x1136
  pub below_section : translated 0x400fff 0x401000 0x1000 ≡ Err (refuse 1 (0x400fff ∷ 0x401000 ∷ 0x1000 ∷ []))
  -- the largest offset, and one more
  pub past_all : translated (2 ^ 64 - 1) 0 1 ≡ Err (refuse 2 ((2 ^ 64 - 1) ∷ 0 ∷ 1 ∷ []))
  pub last_of_all : translated (2 ^ 64 - 1) 0 0 ≡ Ok (2 ^ 64 - 1)
  -- a library without its version, and with it
  pub by_stem : LooksUp (codes "libotp.so") (map_lines otp_line) (path_at 25 otp_path) × (length otp_path ≡ 16)
  pub itself_mapped : LooksUp (codes "libotp.so.4") (map_lines otp_line) (path_at 25 otp_path)
  pub itself_cached : CacheSays (codes "libotp.so.4") (Some otp_cache) (in_cache 84 otp_path)
  -- a line that is refused
  pub two_dashes : LooksUp (codes "libotp.so") (map_lines dashed_line) (refused (refuse 3 (0 ∷ 20 ∷ [])))
