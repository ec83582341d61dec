-- How many bytes are built of a list's frames.
use Rattle.std.proofs.Common.{◌≡◌, ℕ, zero, suc, ◌+◌, ◌*◌, ◌≤◌, length, arith, length-append}
use Rattle.cc_base.specs.Rate.{triplets_in_frame}
use Rattle.cc_base.specs.declared.rate.Rate.{Rate}
use Rattle.cue_list_commands.specs.Carried.{AreRoomy}
use Rattle.cue_list_commands.specs.Carrying.{channel_packet_of, column_bytes, frame_bytes}
use Rattle.cue_list_commands.specs.FrameTriplets.{frame_triplets}
use Rattle.cue_list_commands.proofs.CarryingLemmas.{frame_number, triplets_many}
use Rattle.cue_list_commands.specs.Columns.{Columns}
use Rattle.words_files.proofs.CarriedWordsLemmas.{length-carried_triplets}

-- the packets of this many frames
pub columns_size : (rate : Rate) (columns : Columns) (frame n : ℕ) → AreRoomy rate columns → length (column_bytes rate columns frame n) ≤ 190 * n
columns_size rate columns frame zero roomy = omega arith
columns_size rate columns frame (suc n) roomy =
    let packet = channel_packet_of columns frame in
    let triplets = frame_triplets rate (columns frame) packet in
    let number : length triplets ≡ triplets_in_frame rate = frame_number rate (columns frame) packet (roomy frame) in
    let many = (triplets_many rate).1 in
    let here : length (frame_bytes rate frame (columns frame) packet) ≡ 6 * length triplets + 40 = length-carried_triplets rate frame triplets in
    let rest = columns_size rate columns (suc frame) n roomy in
    let all = length-append (frame_bytes rate frame (columns frame) packet) (column_bytes rate columns (suc frame) n) in
    omega (arith, number, many, here, rest, all)
