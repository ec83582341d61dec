-- Believed in part: the program's answer stands on some of these definitions.
-- What `decode` and `show` put of the frames of a words file: the screens of line 21 and the windows of the services of DTVCC that a
-- receiver shows which was reset before the first of them (CTA-608-E; CTA-708-E; 47 CFR 79.101).
use Rattle.std.specs.Prelude.{ℕ, suc, nat_lt, if◌then◌else◌, List, [], ◌∷◌, ◌++◌, length, take, codes, decimal}
use Rattle.cdp_packets.specs.Packets.{Frame}
use Rattle.grid_print.specs.GridTexts.{all_text, changes_text}
use Rattle.grid_print.specs.Screens.{received_screens}
use Rattle.cc_base.specs.Texts.{text}

-- of frames that follow others, the text that stands for each after those before it
abbrev pub texts_behind : (List Frame → Frame → List ℕ) → List Frame → List Frame → List ℕ
texts_behind text_of before [] = []
texts_behind text_of before (frame ∷ frames) = text_of before frame ++ texts_behind text_of (before ++ frame ∷ []) frames

-- the changed screens of a frame against the previous frame's; before the first frame of all, every screen is empty and no window is
-- shown
abbrev pub next_changes : List Frame → Frame → List ℕ
next_changes before frame = changes_text (length before) (received_screens before) (received_screens (before ++ frame ∷ []))

-- the text that stands for each frame, and then the line of the number of frames: `frames N`
abbrev pub counted : (List Frame → Frame → List ℕ) → List Frame → List ℕ
counted text_of frames = texts_behind text_of [] frames ++ text (codes "frames " ∷ decimal (length frames) ∷ codes "\n" ∷ [])

-- `decode` puts the changed screens of each frame, and then the number of frames
abbrev pub decode_output : List Frame → List ℕ
decode_output frames = counted next_changes frames

-- `show` puts all screens of the frame of this number, once it is whole
abbrev pub show_output : ℕ → List Frame → List ℕ
show_output frame frames =
    if nat_lt frame (length frames) then all_text frame (received_screens (take (suc frame) frames)) else []
