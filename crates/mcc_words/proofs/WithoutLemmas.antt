-- A frame without captions: what its packet carries, and its words.
use Rattle.std.proofs.Common.{◌≡◌, ℕ, zero, suc, ◌+◌, ◌%◌, Bool, true, false, List, [], ◌∷◌, length, Some, None, refl, ap, sym, ◌∙◌, subst, append-nil, arith}
use Rattle.std.specs.Prelude.{if◌then◌else◌, All, IfSome, option_to_list}
use Rattle.std.specs.List.{list_all}
use Rattle.std.proofs.lemmas.List.Elements.{All-cons, All-nil}
use Rattle.cc_base.specs.declared.rate.Rate.{Rate}
use Rattle.cc_receiver.specs.Idle.{is_idle}
use Rattle.cdp_packets.specs.PacketTriplets.{packet_triplets}
use Rattle.cdp_packets.specs.Packets.{Frame}
use Rattle.channel_packets.specs.ChannelPackets.{channel_triplets}
use Rattle.frame_carrier.specs.Carried.{AreByteBlocks, AreBytePairs, AreRoomy, IsBytePair, IsCarriedInRoom}
use Rattle.frame_carrier.specs.Carrying.{frame_bytes, frame_packet}
use Rattle.frame_carrier.proofs.CarriedLemmas.{columns_file, frames_carried}
use Rattle.frame_carrier.proofs.CarryingLemmas.{quiet_bytes, quiet_roomy}
use Rattle.frame_carrier.specs.Columns.{Columns}
use Rattle.frame_carrier.specs.End.{silent_frame}
use Rattle.line21_codes.specs.NullPairs.{is_null, null_pair}
use Rattle.line21_codes.specs.declared.channels.Chan.TheVariants.{Cc1, Cc3}
use Rattle.line21_codes.specs.declared.channels.FieldNumber.TheVariants.{One, Two}
use Rattle.line21_slots.specs.Cadences.{cadence_of, has_slot_in}
use Rattle.mcc_words.specs.Missing.{words_without}
use Rattle.words_files.specs.Frames.{IsFileOf, none}
use Rattle.words_files.specs.Received.{field_pairs}
use Rattle.words_files.proofs.FrameLemmas.{joined}
use Rattle.anc_words.proofs.WordsFileLemmas.{IsWordsFile-nil}
use Rattle.mcc_words.specs.Standing.{IsWithoutCaptions}

null_bytes : (slot : Bool) → IfSome (if slot then Some null_pair else None) IsBytePair
null_bytes true = record { a = omega arith; b = omega arith }
null_bytes false = tt

null_ones : (slot : Bool) → list_all is_null (option_to_list (if slot then Some null_pair else None)) ≡ true
null_ones true = refl
null_ones false = refl

-- frames that all are silent as this one
module _ (rate : Rate) (number : ℕ) where
  still : Columns
  still frame = silent_frame rate number

  byte_pairs : AreBytePairs still
  unfolding still
  byte_pairs One frame = null_bytes (has_slot_in (cadence_of rate Cc1) number)
  byte_pairs Two frame = null_bytes (has_slot_in (cadence_of rate Cc3) number)

  byte_blocks : AreByteBlocks still
  unfolding still
  byte_blocks = quiet_bytes still (λ frame. refl)

  roomy : AreRoomy rate still
  unfolding still
  roomy = quiet_roomy rate still (λ frame. refl)

  -- what its packet carries
  pub carried : IsCarriedInRoom rate (silent_frame rate number) [] (frame_packet rate number (silent_frame rate number) [])
  unfolding still
  carried = (frames_carried rate still 0 byte_pairs byte_blocks roomy).room number

  -- its words are a words file of it alone
  pub file : IsFileOf (frame_packet rate number (silent_frame rate number) [] ∷ []) (frame_bytes rate number (silent_frame rate number) [])
  unfolding still
  file =
      subst (IsFileOf (frame_packet rate number (silent_frame rate number) [] ∷ [])) (append-nil (frame_bytes rate number (silent_frame rate number) []))
      (columns_file rate still byte_pairs byte_blocks roomy number 1)

  -- its pairs are null, and it has no triplets of channel packets
  pub idle : is_idle (frame_packet rate number (silent_frame rate number) []) ≡ true
  idle =
      let frame = frame_packet rate number (silent_frame rate number) [] in
      let first : list_all is_null (field_pairs One (packet_triplets frame)) ≡ true = ap (list_all is_null) (carried.pairs One) ∙ null_ones (has_slot_in (cadence_of rate Cc1) number) in
      let second : list_all is_null (field_pairs Two (packet_triplets frame)) ≡ true = ap (list_all is_null) (carried.pairs Two) ∙ null_ones (has_slot_in (cadence_of rate Cc3) number) in
      rw (first, second) refl

pub without_idle : (frame : Frame) → IsWithoutCaptions frame → is_idle frame ≡ true
without_idle frame is = subst (λ (f : Frame). is_idle f ≡ true) (sym is.is) (idle is.rate is.number)

pub without_channel : (frame : Frame) → IsWithoutCaptions frame → channel_triplets (packet_triplets frame) ≡ []
without_channel frame is = subst (λ (f : Frame). channel_triplets (packet_triplets f) ≡ []) (sym is.is) (carried is.rate is.number).service

-- words of frames without captions
pub record HasWithout (many : ℕ) (bytes : List ℕ) : Type 0 where
  pub frames : List Frame
  pub file : IsFileOf frames bytes
  pub number : length frames ≡ many
  pub are : All IsWithoutCaptions frames

pub no_frames : IsFileOf [] []
no_frames = record { packets = []; file = IsWordsFile-nil; carried = none }

pub has_without : (rate : Rate) (number many : ℕ) → HasWithout many (words_without rate number many)
has_without rate number zero = record { frames = []; file = no_frames; number = refl; are = All-nil IsWithoutCaptions }
has_without rate number (suc many) =
    let next = (number + 1) % 65536 in
    let more = has_without rate next many in
    let frame = frame_packet rate number (silent_frame rate number) [] in
    record {
      frames = frame ∷ more.frames;
      file = joined (frame ∷ []) more.frames (frame_bytes rate number (silent_frame rate number) []) (words_without rate next many) (file rate number) more.file;
      number = ap suc more.number;
      are = All-cons IsWithoutCaptions frame more.frames (record { rate = rate; number = number; is = refl }) more.are;
    }
