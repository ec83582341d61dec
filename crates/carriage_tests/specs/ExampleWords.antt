-- Between crates: the program's answer stands on none of these definitions.
-- Words for the worked examples.
use Rattle.std.specs.Prelude.{ℕ, List, [], ◌∷◌, ◌++◌, replicate}
use Rattle.std.specs.List.{concat, flat_map}
use Rattle.anc_words.specs.Writing.{word_bytes}

-- the packet of a frame without captions at 29.97 frames a second: the null pairs of both fields, and eighteen triplets that
-- don't count
abbrev pub frame_without_captions : List ℕ
frame_without_captions = flat_map word_bytes (
    0x000 ∷ 0x3FF ∷ 0x3FF ∷ 0x161 ∷ 0x101 ∷ 0x149
    ∷ 0x296 ∷ 0x269 ∷ 0x149 ∷ 0x14F ∷ 0x143 ∷ 0x200 ∷ 0x200
    ∷ 0x272 ∷ 0x1F4 ∷ 0x2FC ∷ 0x180 ∷ 0x180 ∷ 0x1FD ∷ 0x180 ∷ 0x180
    ∷ (concat (replicate 18 (0x2FA ∷ 0x200 ∷ 0x200 ∷ [])) ++ 0x274 ∷ 0x200 ∷ 0x200 ∷ 0x1BF ∷ 0x1AB ∷ [])
    )
