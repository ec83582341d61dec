-- Believed: the program's answer stands on these definitions.
-- What a concealing receiver makes of frames of which some are missing, or in which bytes of line 21 have bad parity (this
-- project's own choice): it is reset where the counters of distribution packets jump (SMPTE ST 334-2, cdp_hdr_sequence_cntr), and shows
-- a solid block for a byte of a text that it can't read (CTA-608-E).
use Rattle.std.specs.Prelude.{ℕ, ◌+◌, ◌-◌, ◌%◌, ◌==◌, nat_lt, nat_le, ◌&&◌, Bool, if◌then◌else◌, List, [], ◌∷◌, map, reverse, Option}
use Rattle.line21_codes.specs.declared.channels.Chan.{Chan}
use Rattle.line21_codes.specs.declared.channels.FieldNumber.{FieldNumber}
use Rattle.line21_codes.specs.declared.pairs.Pair.{Pair}
use Rattle.line21_codes.specs.Channels.{data_channel_of, field_of_channel}
use Rattle.line21_codes.specs.NullPairs.{null_pair}
use Rattle.line21_codes.specs.Parity.{is_odd, low_bits}
use Rattle.line21_screen.specs.Fields.{FieldState, channel}
use Rattle.line21_screen.specs.Grid.{Grid}
use Rattle.line21_screen.specs.Meaning.{after}
use Rattle.cdp_packets.specs.Packets.{Frame}
use Rattle.words_files.specs.Received.{received_pairs}
use Rattle.dtvcc_windows.specs.Showing.{ShownWindow}
use Rattle.cc_receiver.specs.ReceivedServices.{received_windows}

-- a frame goes on from the one before it: its counter is that one's plus 1, modulo 65,536
abbrev pub goes_on : Frame → Frame → Bool
goes_on former frame = frame.counter == (former.counter + 1) % 65536

-- of frames that stand newest first, the longest front in which each goes on from the one after it
abbrev pub heard_back : List Frame → List Frame
heard_back [] = []
heard_back (frame ∷ []) = frame ∷ []
heard_back (frame ∷ (former ∷ earlier)) = frame ∷ (if goes_on former frame then heard_back (former ∷ earlier) else [])

-- the frames since the last jump, in order: of these alone something is heard, as at a jump all was reset
abbrev pub heard_of : List Frame → List Frame
heard_of frames = reverse (heard_back (reverse frames))

-- a byte is no text's first one: without its parity it is from 01 to 1F
abbrev pub begins_no_text : ℕ → Bool
begins_no_text byte = nat_le 0x01 (low_bits byte) && nat_lt (low_bits byte) 0x20

-- what stands for a pair of which bytes have bad parity: the null pair, where the first byte has it, and where that is good and begins no
-- text; else the pair of text of the first byte and 7F, a solid block
abbrev pub concealed : Pair → Pair
concealed pair =
    if is_odd pair.a
    then (if is_odd pair.b then pair else if begins_no_text pair.a then null_pair else record { a = pair.a; b = 0x7F })
    else null_pair

-- a field after frames: it was reset before those that are heard, and took what stands for their pairs (CTA-608-E; 47 CFR 79.101)
abbrev pub concealed_field : FieldNumber → List Frame → FieldState
concealed_field in_field frames = after in_field (reverse (map concealed (received_pairs in_field (heard_of frames))))

-- the concealed grids: the displayed cells of each channel of line 21
abbrev pub concealed_grids : List Frame → Chan → Grid
concealed_grids frames chan = (channel (data_channel_of chan) (concealed_field (field_of_channel chan) frames)).displayed

-- and what is seen of the windows of each service: they were reset before the frames that are heard, get a tick of each of these, and are
-- reset where the numbers of their channel packets have a gap; the first of these makes none (CTA-708-E, sections 5 to 8)
abbrev pub concealed_windows : List Frame → ℕ → ℕ → Option ShownWindow
concealed_windows frames service id = received_windows (heard_of frames) service id

-- how many frames one follows the former: the difference of their counters modulo 65,536, with 65,536 in place of 0
abbrev pub distance : ℕ → ℕ → ℕ
distance former counter = let d = (counter + 65536 - former) % 65536 in if d == 0 then 65536 else d

-- the number of the last frame: the counter of the first one, and as many more as the counters tell
abbrev pub frame_number_behind : ℕ → Frame → List Frame → ℕ
frame_number_behind number former [] = number
frame_number_behind number former (frame ∷ frames) = frame_number_behind (number + distance former.counter frame.counter) frame frames

abbrev pub number_of_last : List Frame → ℕ
number_of_last [] = 0
number_of_last (frame ∷ frames) = frame_number_behind frame.counter frame frames

-- how many frames are missing right before the last one
abbrev pub missing_before : List Frame → ℕ
missing_before [] = 0
missing_before (frame ∷ []) = 0
missing_before (former ∷ (frame ∷ [])) = distance former.counter frame.counter - 1
missing_before (former ∷ (frame ∷ (next ∷ frames))) = missing_before (frame ∷ next ∷ frames)
