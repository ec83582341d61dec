-- The words of a frame without captions.
use Rattle.std.proofs.Common.{◌≡◌, ℕ, List, [], ap, ◌∙◌}
use Rattle.cc_base.specs.declared.rate.Rate.{Rate}
use Rattle.cc_data.specs.declared.triplet.Triplet.{Triplet}
use Rattle.words_files.specs.CarriedWords.{carried_words, triplets_packet}
use Rattle.frame_carrier.specs.Carrying.{channel_packet, frame_bytes}
use Rattle.frame_carrier.specs.FrameTriplets.{frame_triplets}
use Rattle.frame_carrier.specs.End.{silent_frame}
use Rattle.frame_carrier.specs.FrameBytes.{FrameBytes}

pub frame_is : (rate : Rate) (number at : ℕ) (frame : FrameBytes) (triplets shown : List Triplet) (out : List ℕ) → at ≡ number → frame ≡ silent_frame rate at
    → triplets ≡ frame_triplets rate frame (channel_packet 0 frame.blocks.items) → shown ≡ triplets → out ≡ carried_words (triplets_packet rate number shown)
    → out ≡ frame_bytes rate number (silent_frame rate number) []
frame_is rate number at frame triplets shown out at_is is triplets_are shown_are out_is =
    let silent : frame ≡ silent_frame rate number = is ∙ ap (silent_frame rate) at_is in
    let all : shown ≡ frame_triplets rate (silent_frame rate number) [] =
    shown_are ∙ (triplets_are ∙ ap (λ (f : FrameBytes). frame_triplets rate f (channel_packet 0 f.blocks.items)) silent) in
    out_is ∙ ap (λ ts. carried_words (triplets_packet rate number ts)) all
