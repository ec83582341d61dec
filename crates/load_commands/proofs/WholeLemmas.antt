-- The frames of a placed list are whole words files, however many of them were sent; and no word of a whole file is refused.
use Rattle.std.proofs.Common.{◌≡◌, ◌∙◌, ℕ, List, None, Some, sym}
use Rattle.cc_base.specs.declared.refusal.Refusal.{Refusal}
use Rattle.cue_lists.specs.Listing.{IsFormed, Listing}
use Rattle.cue_lists.specs.Rules.{IsRuled}
use Rattle.cue_lists.specs.declared.lane.Lane.TheVariants.{Service}
use Rattle.cue_list_commands.proofs.Outputs.{byte_pairs}
use Rattle.cue_list_commands.proofs.CarriedLemmas.{frames_carried}
use Rattle.cue_list_commands.specs.Planned.{IsListPlaced, Placement, columns_of}
use Rattle.cue_list_commands.specs.PlacedServices.{AreServicesPlaced}
use Rattle.cue_list_commands.proofs.ChannelLemmas.{programmes_whole}
use Rattle.cue_list_commands.proofs.RoomLemmas.{blocks_bytes, frames_roomy, has_blocks}
use Rattle.services_files.specs.Services.{services_say}
use Rattle.services_files.specs.CaptionChannel.{caption_channel}
use Rattle.services_files.proofs.ChannelFiles.{offence_is_refused}
use Rattle.words_files.specs.Catching.{refusal_of}
use Rattle.words_files.specs.Offences.{FirstOffendingWord}
use Rattle.load_commands.specs.Receiving.{AreWhole}

pub frames_whole : (list : Listing) (placed : Placement) → IsFormed list → IsRuled list → IsListPlaced list placed → (count : ℕ)
    → AreWhole list.rate (columns_of list placed) count
frames_whole list placed formed ruled placement count =
    let services : AreServicesPlaced list placed = λ service. placement (Service service) in
    let carried = frames_carried list.rate (columns_of list placed) count (byte_pairs list placed formed)
    (blocks_bytes list placed formed ruled services) (frames_roomy list placed formed ruled services) in
    record {
      file = carried.file;
      accepted = programmes_whole list.rate (columns_of list placed) count (has_blocks list placed formed ruled services) carried;
    }

-- a word that offends is refused
pub unrefused : (bytes : List ℕ) (refusal : Refusal) → refusal_of services_say bytes ≡ None → FirstOffendingWord caption_channel bytes refusal → ⊥
unrefused bytes refusal none offends =
    let some = offence_is_refused bytes refusal offends in
    let both : Some refusal ≡ None = sym some ∙ none in
    cc
