-- What the readers make of bytes, in the words of files that carry a caption channel: what they catch, refuse and leave open.
use Rattle.std.proofs.Common.{◌≡◌, ℕ, ◌<◌, ◌≤◌, ◌⊎◌, inl, inr, List, [], ◌∷◌, ◌++◌, length, map, reverse, Some, None}
use Rattle.std.specs.List.{All}
use Rattle.cc_base.specs.declared.refusal.Refusal.{Refusal}
use Rattle.cc_base.specs.Syntax.{open_behind}
use Rattle.words_files.specs.Ending.{bytes_to_end}
use Rattle.words_files.specs.Reading.{anc_syntax, nothing_open}
use Rattle.cdp_packets.specs.PacketParts.{packet_parts}
use Rattle.cdp_packets.specs.Packets.{Frame}
use Rattle.words_files.specs.Catching.{caught_in, refusal_of}
use Rattle.words_files.specs.FramesOf.{AreFramesOf}
use Rattle.words_files.specs.Offences.{FirstOffendingWord, IsCutShort, IsFileUnder, IsUnoffending}
use Rattle.words_files.specs.Verdicts.{layers_of}
use Rattle.words_files.proofs.AlikeLemmas.{cut_short-alike, file-alike, frames_of-alike, offence-alike, unoffending-alike}
use Rattle.words_files.proofs.CaughtLemmas.{caught_file, file_caught}
use Rattle.words_files.proofs.EndingLemmas.{each_ends, open_is_cut_short, truncated}
use Rattle.words_files.proofs.GotLemmas.{got, file_or_none, frames_are_caught}
use Rattle.words_files.proofs.LastPacketLemmas.{EndsBringing, at_most_one, ends_bringing, no_end}
use Rattle.words_files.proofs.OffenceLemmas.{offence_is_one, offence_refused, refused_offends, unoffending_is_unrefused, unrefused_is_unoffending}
use Rattle.services_files.specs.CaptionChannel.{caption_channel}
use Rattle.services_files.specs.Services.{services_say}
use Rattle.services_files.proofs.FillingLemmas.{takes_filling}
use Rattle.services_files.proofs.ReasonLemmas.{channel_said, said_channel}

-- files and frames, from the one to the other
pub file_said : (frames : List Frame) (bytes : List ℕ) → IsFileUnder caption_channel frames bytes → IsFileUnder (layers_of services_say) frames bytes
file_said = file-alike caption_channel (layers_of services_say) said_channel

pub said_file : (frames : List Frame) (bytes : List ℕ) → IsFileUnder (layers_of services_say) frames bytes → IsFileUnder caption_channel frames bytes
said_file = file-alike (layers_of services_say) caption_channel channel_said

pub frames_said : (frames : List Frame) (bytes : List ℕ) → AreFramesOf caption_channel frames bytes → AreFramesOf (layers_of services_say) frames bytes
frames_said = frames_of-alike caption_channel (layers_of services_say) said_channel

pub said_frames : (frames : List Frame) (bytes : List ℕ) → AreFramesOf (layers_of services_say) frames bytes → AreFramesOf caption_channel frames bytes
said_frames = frames_of-alike (layers_of services_say) caption_channel channel_said

-- a file is caught to its end, and bytes that aren't refused and leave nothing open are one
pub channel_caught : (frames : List Frame) (bytes : List ℕ) → IsFileUnder caption_channel frames bytes
    → (caught_in services_say bytes ≡ record { open_caption = None; frames = reverse (map packet_parts frames); refused = None })
    × (refusal_of services_say bytes ≡ None)
channel_caught frames bytes is = file_caught services_say frames bytes (file_said frames bytes is)

pub caught_channel : (bytes : List ℕ) → All (λ byte. byte < 256) bytes → refusal_of services_say bytes ≡ None
    → open_behind anc_syntax bytes ≡ nothing_open → (frames : List Frame) × IsFileUnder caption_channel frames bytes
caught_channel bytes are none closed =
    let (frames, is) = caught_file services_say bytes are none closed in
    (frames, said_file frames bytes is)

pub channel_or_none : (bytes : List ℕ) → All (λ byte. byte < 256) bytes
    → ((frames : List Frame) × IsFileUnder caption_channel frames bytes) ⊎ ((frames : List Frame) → IsFileUnder caption_channel frames bytes → ⊥)
channel_or_none bytes are = elim (file_or_none services_say bytes are) [
  | inl (frames, is) ↦ inl (frames, said_file frames bytes is)
  | inr none ↦ inr (λ frames is. none frames (file_said frames bytes is))
]

-- the frames of bytes, and that they are what is caught
pub record GotFrames (bytes : List ℕ) : Type 0 where
  pub frames : List Frame
  pub are : AreFramesOf caption_channel frames bytes
  pub caught : (caught_in services_say bytes).frames ≡ reverse (map packet_parts frames)

pub got_frames : (bytes : List ℕ) → All (λ byte. byte < 256) bytes → GotFrames bytes
got_frames bytes are =
    let gotten = got services_say bytes are in
    record { frames = gotten.frames; are = said_frames gotten.frames bytes gotten.are; caught = gotten.caught }

pub frames_caught : (frames : List Frame) (bytes : List ℕ) → All (λ byte. byte < 256) bytes → AreFramesOf caption_channel frames bytes
    → (caught_in services_say bytes).frames ≡ reverse (map packet_parts frames)
frames_caught frames bytes all are = frames_are_caught services_say frames bytes all (frames_said frames bytes are)

-- more bytes, no more than come before the end of a packet, bring no frame where they end none, and else at most one
pub no_channel_end : (frames : List Frame) (before more : List ℕ) → length more ≤ bytes_to_end (open_behind anc_syntax before)
    → ((others : List Frame) → IsFileUnder caption_channel others (before ++ more) → ⊥) → AreFramesOf caption_channel frames before
    → AreFramesOf caption_channel frames (before ++ more)
no_channel_end frames before more few no_file are =
    said_frames frames (before ++ more)
    (no_end services_say frames before more few (λ others is. no_file others (said_file others (before ++ more) is)) (frames_said frames before are))

pub ends_channel_bringing : (frames more_frames : List Frame) (before more : List ℕ) → 0 < length more → length more ≤ bytes_to_end (open_behind anc_syntax before)
    → AreFramesOf caption_channel frames before → IsFileUnder caption_channel more_frames (before ++ more) → EndsBringing frames more_frames (before ++ more)
ends_channel_bringing frames more_frames before more any few are is =
    ends_bringing services_say frames more_frames before more any few (frames_said frames before are) (file_said more_frames (before ++ more) is)

pub record BringAtMostOne (frames : List Frame) (bytes : List ℕ) : Type 0 where
  pub more : List Frame
  pub are : AreFramesOf caption_channel more bytes
  pub brings : (more ≡ frames) ⊎ ((frame : Frame) × (more ≡ frames ++ frame ∷ []))

pub bring_at_most_one : (frames : List Frame) (before more : List ℕ) → 0 < length more → length more ≤ bytes_to_end (open_behind anc_syntax before)
    → All (λ byte. byte < 256) (before ++ more) → AreFramesOf caption_channel frames before → BringAtMostOne frames (before ++ more)
bring_at_most_one frames before more any few bytes are =
    let one = at_most_one services_say frames before more any few bytes (frames_said frames before are) in
    record { more = one.more; are = said_frames one.more (before ++ more) one.are; brings = one.brings }

-- bytes are refused at their first offending word, and aren't where none offends
pub refused_offence : (bytes : List ℕ) (refusal : Refusal) → All (λ byte. byte < 256) bytes → refusal_of services_say bytes ≡ Some refusal
    → FirstOffendingWord caption_channel bytes refusal
refused_offence bytes refusal are some =
    offence-alike (layers_of services_say) caption_channel channel_said bytes refusal (refused_offends services_say takes_filling bytes refusal are some)

pub offence_is_refused : (bytes : List ℕ) (refusal : Refusal) → FirstOffendingWord caption_channel bytes refusal → refusal_of services_say bytes ≡ Some refusal
offence_is_refused bytes refusal has =
    offence_refused services_say takes_filling bytes refusal (offence-alike caption_channel (layers_of services_say) said_channel bytes refusal has)

pub unrefused_unoffending : (bytes : List ℕ) → All (λ byte. byte < 256) bytes → refusal_of services_say bytes ≡ None → IsUnoffending caption_channel bytes
unrefused_unoffending bytes are none =
    unoffending-alike (layers_of services_say) caption_channel channel_said bytes (unrefused_is_unoffending services_say takes_filling bytes are none)

pub unoffending_unrefused : (bytes : List ℕ) → IsUnoffending caption_channel bytes → refusal_of services_say bytes ≡ None
unoffending_unrefused bytes is =
    unoffending_is_unrefused services_say bytes (unoffending-alike caption_channel (layers_of services_say) said_channel bytes is)

pub open_cut_short : (bytes : List ℕ) → All (λ byte. byte < 256) bytes → refusal_of services_say bytes ≡ None
    → (open_behind anc_syntax bytes ≡ nothing_open → ⊥) → IsCutShort caption_channel bytes (truncated bytes)
open_cut_short bytes are none opens =
    cut_short-alike (layers_of services_say) caption_channel channel_said bytes (truncated bytes) (open_is_cut_short services_say takes_filling bytes are none opens)

pub offence_is_once : (bytes : List ℕ) (refusal other : Refusal) → FirstOffendingWord caption_channel bytes refusal
    → FirstOffendingWord caption_channel bytes other → refusal ≡ other
offence_is_once bytes refusal other one two =
    offence_is_one services_say bytes refusal other (offence-alike caption_channel (layers_of services_say) said_channel bytes refusal one)
    (offence-alike caption_channel (layers_of services_say) said_channel bytes other two)

-- bytes are a file, cut short, or have an offending word
pub each_channel : (bytes : List ℕ) → All (λ byte. byte < 256) bytes
    → ((frames : List Frame) × IsFileUnder caption_channel frames bytes)
    ⊎ (((refusal : Refusal) × IsCutShort caption_channel bytes refusal) ⊎ ((refusal : Refusal) × FirstOffendingWord caption_channel bytes refusal))
each_channel bytes are = elim (each_ends services_say takes_filling bytes are) [
  | inl (frames, is) ↦ inl (frames, said_file frames bytes is)
  | inr (inl (refusal, cut)) ↦ inr (inl (refusal, cut_short-alike (layers_of services_say) caption_channel channel_said bytes refusal cut))
  | inr (inr (refusal, offence)) ↦ inr (inr (refusal, offence-alike (layers_of services_say) caption_channel channel_said bytes refusal offence))
]
