-- More bytes that bring no frame leave all that is shown.
use Rattle.std.proofs.Common.{◌≡◌, ℕ, ◌++◌, List, [], length, ap, subst, sym, ◌∙◌, append-nil, arith, length-append}
use Rattle.std.proofs.lemmas.List.{nil_from_length}
use Rattle.cdp_packets.specs.Packets.{Frame}
use Rattle.dtvcc_services.specs.Numbers.{IsService}
use Rattle.line21_codes.specs.declared.channels.Chan.{Chan}
use Rattle.services_files.specs.CaptionChannel.{caption_channel}
use Rattle.services_files.proofs.ChannelFiles.{got_frames}
use Rattle.services_files.specs.FramesOf.{AreFramesOf}
use Rattle.services_files.proofs.FramesOfLemmas.{frames_grow}
use Rattle.cc_receiver.specs.declared.receiver.Receiver.{Receiver}
use Rattle.cc_receiver.specs.Receivers.{HasReceived, displayed_grid, frame_count}
use Rattle.cc_receiver.specs.SeenServices.{seen_windows}
use Rattle.cc_receiver.proofs.ReceivedLemmas.{shown_received}
use Rattle.cc_receiver.proofs.SeenLemmas.{windows_received}
use Rattle.cc_receiver.proofs.TakenLemmas.{frames_count}

-- the frames of bytes, which are the frames of more bytes too
record SameFrames (before after : List ℕ) : Type 0 where
  frames : List Frame
  first : AreFramesOf caption_channel frames before
  next : AreFramesOf caption_channel frames after

-- more bytes that bring no frame leave the frames
frames_stay : (before more : List ℕ) (old new : Receiver) → HasReceived before old → HasReceived (before ++ more) new
    → frame_count new ≡ frame_count old → SameFrames before (before ++ more)
frames_stay before more old new had has same =
    let first = got_frames before had.bytes_are in
    let next = got_frames (before ++ more) has.bytes_are in
    let (behind, spelled) = frames_grow caption_channel first.frames next.frames before more first.are next.are in
    let was = frames_count first.frames before old had first.are in
    let is = frames_count next.frames (before ++ more) new has next.are in
    let long = ap length spelled ∙ length-append first.frames behind in
    let none : behind ≡ [] = nil_from_length behind (omega (arith, same, was, is, long)) in
    let one : next.frames ≡ first.frames = spelled ∙ ap (λ fs. first.frames ++ fs) none ∙ append-nil first.frames in
    record {
      frames = first.frames;
      first = first.are;
      next = subst (λ fs. AreFramesOf caption_channel fs (before ++ more)) one next.are;
    }

-- so they leave the screens
pub screens_stay : (before more : List ℕ) (old new : Receiver) (chan : Chan) → HasReceived before old → HasReceived (before ++ more) new
    → frame_count new ≡ frame_count old → displayed_grid new chan ≡ displayed_grid old chan
screens_stay before more old new chan had has same =
    let both = frames_stay before more old new had has same in
    shown_received both.frames (before ++ more) new chan has both.next ∙ sym (shown_received both.frames before old chan had both.first)

-- and the windows of each service
pub windows_stay : (before more : List ℕ) (old new : Receiver) (service id : ℕ) → HasReceived before old → HasReceived (before ++ more) new
    → frame_count new ≡ frame_count old → IsService service → seen_windows new service id ≡ seen_windows old service id
windows_stay before more old new service id had has same numbered =
    let both = frames_stay before more old new had has same in
    windows_received both.frames (before ++ more) new service id has both.next numbered
    ∙ sym (windows_received both.frames before old service id had both.first numbered)
