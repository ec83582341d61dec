-- A concealing receiver that is fed the words of frames that came refuses nothing, and shows again what was authored.
use Rattle.std.proofs.Common.{◌≡◌, ◌∙◌, ◌++◌, ◌∷◌, ◌+◌, ap, append_assoc, arith, length, length-append, Option, Some, None, refl, subst, suc, sym, zero, ℕ, List, []}
use Rattle.std.proofs.lemmas.List.{length-map, map-append}
use Rattle.std.specs.List.{flat_map, range_with_len}
use Rattle.cc_base.specs.declared.rate.Rate.{Rate}
use Rattle.cc_base.specs.declared.refusal.Refusal.{Refusal}
use Rattle.cdp_packets.specs.Packets.{Frame}
use Rattle.cc_receiver.proofs.ReceivedLemmas.{kept_is}
use Rattle.cc_receiver.proofs.RefusedLemmas.{refusal-stays}
use Rattle.cc_receiver.proofs.TakenLemmas.{frames_count}
use Rattle.cc_receiver.specs.Receivers.{HasReceived, receiver_refusal}
use Rattle.cc_receiver.specs.Services.{services_say}
use Rattle.cc_receiver.specs.declared.receiver.Receiver.{Receiver}
use Rattle.cue_lists.specs.Listing.{IsFormed, Listing}
use Rattle.cue_lists.specs.Rules.{IsRuled}
use Rattle.cue_list_commands.specs.Carrying.{channel_packet_of, column_bytes, frame_bytes}
use Rattle.cue_list_commands.specs.Columns.{Columns}
use Rattle.cue_list_commands.specs.Planned.{IsListPlaced, Placement, columns_of}
use Rattle.services_files.proofs.ChannelFiles.{channel_caught}
use Rattle.services_files.proofs.OffenceLemmas.{some_or_none}
use Rattle.services_files.specs.CaptionChannel.{caption_channel}
use Rattle.services_files.specs.Catching.{refusal_of}
use Rattle.words_files.proofs.FramesOfLemmas.{file_frames, frames_grow}
use Rattle.words_files.specs.FramesOf.{AreFramesOf}
use Rattle.words_files.specs.Offences.{IsFileUnder}
use Rattle.lost.proofs.ConcealerLemmas.{concealer_shows}
use Rattle.lost.proofs.DeliveredLemmas.{front_delivered}
use Rattle.lost.proofs.WordsLemmas.{came_words}
use Rattle.lost.specs.Concealer.{Concealer}
use Rattle.lost.specs.Concealers.{Conceals, HasConcealed, concealed_frames, receiver_of}
use Rattle.lost.specs.Delivered.{AreDelivered, delivered_bytes, delivered_packets, packet_of}
use Rattle.words_laws.proofs.SeenLemmas.{front_is}
use Rattle.words_laws.specs.SeenAgain.{AllFramesAreBuilt, BuiltWordsAreSeenAgain, DeliveredIsUnrefused}

-- the words of frames in a row
row_words : (rate : Rate) (columns : Columns) (since count : ℕ)
    → flat_map (λ frame. frame_bytes rate frame (columns frame) (channel_packet_of columns frame)) (range_with_len since count) ≡ column_bytes rate columns since count
row_words rate columns since zero = refl
row_words rate columns since (suc count) =
    let next : since + 1 ≡ suc since = omega arith in
    ap (λ (bytes : List ℕ). frame_bytes rate since (columns since) (channel_packet_of columns since) ++ bytes)
    (ap (λ (n : ℕ). flat_map (λ frame. frame_bytes rate frame (columns frame) (channel_packet_of columns frame)) (range_with_len n count)) next
    ∙ row_words rate columns (suc since) count)

pub all_built : AllFramesAreBuilt
all_built list placed = row_words list.rate (columns_of list placed) 0 list.frames

-- a receiver that was fed a front of a words file keeps no refusal
front_unrefused : (frames : List Frame) (words rest : List ℕ) (receiver : Receiver) → IsFileUnder caption_channel frames (words ++ rest) → HasReceived words receiver
    → receiver_refusal receiver ≡ None
front_unrefused frames words rest receiver file had =
    let cases : (refusal : Option Refusal) → refusal_of services_say words ≡ refusal → receiver_refusal receiver ≡ None = elim [
      | None ↦ λ none. kept_is words receiver had ∙ none
      | Some refused ↦ λ some.
          absurd (some_or_none (refusal_of services_say (words ++ rest)) refused (refusal-stays words rest refused some) (channel_caught frames (words ++ rest) file).1)
    ] in cases _ refl

module _ (list : Listing) (placed : Placement) (formed : IsFormed list) (ruled : IsRuled list) (is : IsListPlaced list placed) where
  -- the words of frames that came
  file_of : (came words rest : List ℕ) → delivered_bytes list placed came ≡ words ++ rest → IsFileUnder caption_channel (delivered_packets list placed came) (words ++ rest)
  file_of came words rest spelled = subst (IsFileUnder caption_channel (delivered_packets list placed came)) spelled (came_words list placed formed ruled is came)

  -- of a front of them a receiver conceals as many frames as it counts
  front_conceals : (first later words rest : List ℕ) (receiver : Concealer) → delivered_bytes list placed (first ++ later) ≡ words ++ rest → HasConcealed words receiver
      → concealed_frames receiver ≡ length first → Conceals (delivered_packets list placed first) receiver
  front_conceals first later words rest receiver spelled had counted =
      let all : List Frame = delivered_packets list placed (first ++ later) in
      let front : List Frame = delivered_packets list placed first in
      let whole : AreFramesOf caption_channel all (words ++ rest) = file_frames caption_channel all (words ++ rest) (file_of (first ++ later) words rest spelled) in
      let (behind, grown) = frames_grow caption_channel had.frames all words rest had.frames_are whole in
      let count : concealed_frames receiver ≡ length had.frames = frames_count had.frames words (receiver_of receiver) had.received had.frames_are in
      let size : length front ≡ length first = length-map first (packet_of list.rate (columns_of list placed)) in
      let split : all ≡ front ++ delivered_packets list placed later = map-append (packet_of list.rate (columns_of list placed)) first later in
      subst (λ (frames : List Frame). Conceals frames receiver)
      (sym (front_is all had.frames behind (length first) grown (sym counted ∙ count))
      ∙ front_is all front (delivered_packets list placed later) (length first) split (sym size))
      had.conceals

pub delivered_unrefused : DeliveredIsUnrefused
delivered_unrefused bytes list placed came words rest receiver accepted spelled had =
    front_unrefused (delivered_packets list placed came) words rest (receiver_of receiver)
    (file_of list placed accepted.good.spelled.formed accepted.good.ruled accepted.placement came words rest spelled) had.received

pub built_seen_again : BuiltWordsAreSeenAgain
built_seen_again bytes list placed earlier frame later words rest receiver accepted delivered spelled had counted =
    let formed : IsFormed list = accepted.good.spelled.formed in
    let ruled : IsRuled list = accepted.good.ruled in
    let first : List ℕ = earlier ++ frame ∷ [] in
    let split : earlier ++ frame ∷ later ≡ first ++ later = sym (append_assoc earlier (frame ∷ []) later) in
    let long = length-append earlier (frame ∷ []) in
    let seen = concealer_shows list placed formed ruled accepted.placement earlier frame (front_delivered first later (subst AreDelivered split delivered)) receiver
    (front_conceals list placed formed ruled accepted.placement first later words rest receiver (ap (delivered_bytes list placed) (sym split) ∙ spelled) had
    (counted ∙ omega (arith, long))) in
    record { channels = seen.0; services = seen.1 }
