-- One more frame: its packet and its bytes follow the earlier frames', and its change is counted.
use Rattle.std.proofs.Common.{◌≡◌, ◌∙◌, ℕ, zero, suc, ◌+◌, if◌then◌else◌, List, [], ◌∷◌, ◌++◌, ap, sym, arith, append_assoc, append-nil}
use Rattle.cc_base.specs.declared.rate.Rate.{Rate}
use Rattle.cdp_packets.specs.Packets.{Frame}
use Rattle.cue_list_commands.specs.Carrying.{channel_packet_of, column_bytes, column_packets, frame_bytes, frame_packet}
use Rattle.cue_list_commands.specs.Columns.{Columns}
use Rattle.grid_print.specs.GridTexts.{screens_differ}
use Rattle.grid_print.specs.Screens.{received_screens}
use Rattle.load_commands.specs.LoadOutput.{change_count}

-- the packet of a frame
abbrev pub packet_at : Rate → Columns → ℕ → Frame
packet_at rate columns frame = frame_packet rate frame (columns frame) (channel_packet_of columns frame)

abbrev pub bytes_at : Rate → Columns → ℕ → List ℕ
bytes_at rate columns frame = frame_bytes rate frame (columns frame) (channel_packet_of columns frame)

packets_from : (rate : Rate) (columns : Columns) (frame n last : ℕ) → frame + n ≡ last
    → column_packets rate columns frame (suc n) ≡ column_packets rate columns frame n ++ packet_at rate columns last ∷ []
packets_from rate columns frame zero last is =
    let same : frame ≡ last = omega arith in
    ap (λ f. packet_at rate columns f ∷ []) same
packets_from rate columns frame (suc n) last is =
    ap (λ (rest : List Frame). packet_at rate columns frame ∷ rest) (packets_from rate columns (suc frame) n last (omega arith))

pub packets_more : (rate : Rate) (columns : Columns) (n : ℕ)
    → column_packets rate columns 0 (suc n) ≡ column_packets rate columns 0 n ++ packet_at rate columns n ∷ []
packets_more rate columns n = packets_from rate columns 0 n n (omega arith)

bytes_from : (rate : Rate) (columns : Columns) (frame n last : ℕ) → frame + n ≡ last
    → column_bytes rate columns frame (suc n) ≡ column_bytes rate columns frame n ++ bytes_at rate columns last
bytes_from rate columns frame zero last is =
    let same : frame ≡ last = omega arith in
    append-nil (bytes_at rate columns frame) ∙ ap (bytes_at rate columns) same
bytes_from rate columns frame (suc n) last is =
    ap (λ (rest : List ℕ). bytes_at rate columns frame ++ rest) (bytes_from rate columns (suc frame) n last (omega arith))
    ∙ sym (append_assoc (bytes_at rate columns frame) (column_bytes rate columns (suc frame) n) (bytes_at rate columns last))

pub bytes_more : (rate : Rate) (columns : Columns) (n : ℕ)
    → column_bytes rate columns 0 (suc n) ≡ column_bytes rate columns 0 n ++ bytes_at rate columns n
bytes_more rate columns n = bytes_from rate columns 0 n n (omega arith)

-- 1 where the screens differ after one more frame
abbrev change_of : List Frame → Frame → ℕ
change_of before next = if screens_differ (received_screens before) (received_screens (before ++ next ∷ [])) then 1 else 0

changes_from : (before frames : List Frame) (next : Frame)
    → change_count before (frames ++ next ∷ []) ≡ change_count before frames + change_of (before ++ frames) next
changes_from before [] next =
    let same : change_of before next ≡ change_of (before ++ []) next = ap (λ b. change_of b next) (sym (append-nil before)) in
    omega (arith, same)
changes_from before (frame ∷ frames) next =
    let rest = changes_from (before ++ frame ∷ []) frames next in
    let same : change_of ((before ++ frame ∷ []) ++ frames) next ≡ change_of (before ++ frame ∷ frames) next =
    ap (λ b. change_of b next) (append_assoc before (frame ∷ []) frames) in
    omega (arith, rest, same)

pub changes_more : (frames : List Frame) (next : Frame)
    → change_count [] (frames ++ next ∷ [])
    ≡ change_count [] frames + (if screens_differ (received_screens frames) (received_screens (frames ++ next ∷ [])) then 1 else 0)
changes_more frames next = changes_from [] frames next
