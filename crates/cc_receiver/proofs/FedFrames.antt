-- The frames of bytes that are fed piece by piece.
use Rattle.std.proofs.Common.{◌≡◌, ◌≢◌, ◌∙◌, ◌≤◌, ◌<◌, ◌+◌, ◌++◌, ap, append-nil, arith, length, length-append, refl, subst, ℕ, List, [], ◌∷◌}
use Rattle.std.proofs.Math.Path.{fun_ext}
use Rattle.cc_receiver.specs.Feeds.{Counts}
use Rattle.cc_receiver.specs.Receivers.{HasReceived, displayed_grid, frame_count}
use Rattle.cc_receiver.specs.declared.receiver.Ended.{Ended}
use Rattle.cc_receiver.specs.declared.receiver.Ended.TheVariants as ended
use Rattle.cc_receiver.specs.declared.receiver.Receiver.{Receiver}
use Rattle.cc_receiver.proofs.ReceivedLemmas.{shown_received}
use Rattle.cc_receiver.proofs.TakenLemmas.{frames_count}
use Rattle.cdp_packets.specs.Packets.{Frame}
use Rattle.services_files.specs.Frames.CarryFrames.{none}
use Rattle.services_files.specs.FramesOf.{AreFramesOf}
use Rattle.services_files.specs.Offences.{IsFileUnder, IsUnoffending}
use Rattle.services_files.specs.Received.{received_grids}
use Rattle.services_files.specs.CaptionChannel.{caption_channel}
use Rattle.services_files.proofs.ChannelFiles.{got_frames}
use Rattle.services_files.proofs.WholeFileLemmas.{taken-carry}
use Rattle.services_files.proofs.FramesOfLemmas.{file_frames, frames_grow}

-- a list of one item, and one of none
one_item : {A : Type 0} (items : List A) → length items ≡ 1 → (item : A) × (items ≡ item ∷ [])
one_item [] is = absurd (omega arith)
one_item (item ∷ []) is = (item, refl)
one_item (item ∷ other ∷ items) is = absurd (omega arith)

pub no_item : {A : Type 0} (items : List A) → length items ≡ 0 → items ≡ []
no_item [] is = refl
no_item (item ∷ items) is = absurd (omega arith)

-- a frame more came
pub record IsNextFrame (frames : List Frame) (bytes : List ℕ) : Type 0 where
  pub frame : Frame
  pub frames_are : AreFramesOf caption_channel (frames ++ frame ∷ []) bytes

-- where a receiver counted a frame more, the bytes brought one more
pub frame_more : (before more : List ℕ) (old new : Receiver) (frames : List Frame) → AreFramesOf caption_channel frames before → HasReceived before old
    → HasReceived (before ++ more) new → frame_count new ≡ frame_count old + 1 → IsNextFrame frames (before ++ more)
frame_more before more old new frames are was now counted =
    let all = got_frames (before ++ more) now.bytes_are in
    let (rest, is) = frames_grow caption_channel frames all.frames before more are all.are in
    let one : frame_count old ≡ length frames = frames_count frames before old was are in
    let two : frame_count new ≡ length all.frames = frames_count all.frames (before ++ more) new now all.are in
    let sum : length all.frames ≡ length frames + length rest = ap length is ∙ length-append frames rest in
    let (frame, only) = one_item rest (omega arith) in
    let spelled : all.frames ≡ frames ++ frame ∷ [] = is ∙ ap (λ r. frames ++ r) only in
    record {
      frame = frame;
      frames_are = subst (λ l. AreFramesOf caption_channel l (before ++ more)) spelled all.are;
    }

-- where it counted none more, they brought none
pub frames_still : (before more : List ℕ) (old new : Receiver) (frames : List Frame) → AreFramesOf caption_channel frames before → HasReceived before old
    → HasReceived (before ++ more) new → frame_count new ≡ frame_count old → AreFramesOf caption_channel frames (before ++ more)
frames_still before more old new frames are was now counted =
    let all = got_frames (before ++ more) now.bytes_are in
    let (rest, is) = frames_grow caption_channel frames all.frames before more are all.are in
    let one : frame_count old ≡ length frames = frames_count frames before old was are in
    let two : frame_count new ≡ length all.frames = frames_count all.frames (before ++ more) new now all.are in
    let sum : length all.frames ≡ length frames + length rest = ap length is ∙ length-append frames rest in
    let only : rest ≡ [] = no_item rest (omega arith) in
    let spelled : all.frames ≡ frames = is ∙ ap (λ r. frames ++ r) only ∙ append-nil frames in
    subst (λ l. AreFramesOf caption_channel l (before ++ more)) spelled all.are

-- no byte is a file of no frame
pub nothing_is_file : IsFileUnder caption_channel [] []
nothing_is_file = record {
  file = record { packets = []; file = record { words = []; spelled = tt; are_packets = refl }; carried = none };
  accepted = taken-carry [] tt;
}

-- no word of no bytes offends
pub nothing_offends : IsUnoffending caption_channel []
nothing_offends = record {
  words = [];
  half = [];
  spelled = refl;
  whole = refl;
  single = omega arith;
  begins = record { more = []; frames = []; is_file = nothing_is_file };
}

-- a receiver that was fed nothing counted nothing
pub counted_nothing : (receiver : Receiver) → HasReceived [] receiver → frame_count receiver ≡ 0
counted_nothing receiver received = frames_count [] [] receiver received (file_frames caption_channel [] [] nothing_is_file)

-- a receiver shows what the pairs of the frames leave
pub frames_shown : (bytes : List ℕ) (frames : List Frame) (receiver : Receiver) → HasReceived bytes receiver → AreFramesOf caption_channel frames bytes
    → displayed_grid receiver ≡ received_grids frames
frames_shown bytes frames receiver had are = fun_ext (λ chan. shown_received frames bytes receiver chan had are)

-- at most one frame is counted
pub counts_one : (before now : ℕ) (answer : Ended) → Counts before now answer → now ≤ before + 1
counts_one before now ended.Caption counts = omega arith
counts_one before now ended.No counts = omega arith
counts_one before now ended.Foreign counts = omega arith

-- and none where no packet of captions ended
pub counts_none : (before now : ℕ) (answer : Ended) → answer ≢ ended.Caption → Counts before now answer → now ≡ before
counts_none before now ended.Caption other counts = absurd (other refl)
counts_none before now ended.No other counts = counts
counts_none before now ended.Foreign other counts = counts

-- of some bytes some are read
pub moves_by : (used size : ℕ) (answer : Ended) → (answer ≡ ended.No → used ≡ size) → (answer ≢ ended.No → 0 < used) → 0 < size → 0 < used
moves_by used size ended.Caption all some any = some (λ is. cc)
moves_by used size ended.No all some any = let is = all refl in omega arith
moves_by used size ended.Foreign all some any = some (λ is. cc)
