-- Believed in part: the program's answer stands on some of these definitions.
-- What `conceal` puts of frames of which some are missing: how many are missing before each, and the screens that a concealing receiver
-- shows (CTA-608-E; CTA-708-E; 47 CFR 79.101; the numbers by SMPTE ST 334-2, cdp_hdr_sequence_cntr).
use Rattle.std.specs.Prelude.{ℕ, ◌==◌, if◌then◌else◌, List, [], ◌∷◌, ◌++◌, codes, decimal}
use Rattle.cc_base.specs.Texts.{text}
use Rattle.cc_conceal.specs.Concealed.{concealed_grids, concealed_windows, missing_before, number_of_last}
use Rattle.cdp_packets.specs.Packets.{Frame}
use Rattle.grid_print.specs.GridTexts.{changes_text}
use Rattle.grid_print.specs.Screens.{Screens}
use Rattle.words_commands.specs.Screens.{counted}

-- the screens that a concealing receiver shows after frames
abbrev pub concealed_screens : List Frame → Screens
concealed_screens frames = record { grids = concealed_grids frames; windows = concealed_windows frames }

-- the line of frames that are missing before one: `lost N before F`; none where none is missing
abbrev pub lost_line : ℕ → ℕ → List ℕ
lost_line missing frame =
    if missing == 0 then [] else text (codes "lost " ∷ decimal missing ∷ codes " before " ∷ decimal frame ∷ codes "\n" ∷ [])

-- of a frame after others the line of those missing before it, and the changed screens, both with its number
abbrev pub next_concealed : List Frame → Frame → List ℕ
next_concealed before frame =
    let frames = before ++ frame ∷ [] in
    lost_line (missing_before frames) (number_of_last frames) ++ changes_text (number_of_last frames) (concealed_screens before) (concealed_screens frames)

-- `conceal` puts the changes of each frame, and then the number of frames that came
abbrev pub conceal_output : List Frame → List ℕ
conceal_output frames = counted next_concealed frames
