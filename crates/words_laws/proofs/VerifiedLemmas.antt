-- What is built of an accepted list, with packets or without, is verified against it.
use Rattle.std.proofs.Common.{◌≤◌, ◌*◌, ◌<◌, ℕ, length, arith}
use Rattle.cue_lists.specs.Listing.{IsFormed, Listing}
use Rattle.cue_lists.specs.declared.lane.Lane.TheVariants.{Service}
use Rattle.cue_list_commands.specs.Carried.{AreRoomy}
use Rattle.cue_list_commands.specs.Carrying.{column_bytes, column_packets}
use Rattle.cue_list_commands.specs.Columns.{Columns}
use Rattle.cue_list_commands.specs.Planned.{columns_of}
use Rattle.line21_codes.specs.declared.channels.Chan.TheVariants.{Cc1, Cc2, Cc3, Cc4}
use Rattle.line21_codes.specs.declared.channels.FieldNumber.TheVariants.{One, Two}
use Rattle.cue_list_commands.specs.Shown.{ShowsList}
use Rattle.cue_list_commands.proofs.RoomLemmas.{frames_roomy}
use Rattle.cue_list_commands.proofs.ToldLemmas.{packets_count}
use Rattle.cue_list_commands.specs.Showing.{ShowsFrames}
use Rattle.cue_list_commands.specs.Sound.{IsSoundFrames}
use Rattle.verify_commands.specs.Verified.{AreVerified}
use Rattle.words_files.specs.Received.{received_at}
use Rattle.cue_list_commands.specs.Output.{PlacedList, list_grids, list_told, list_windows}
use Rattle.cue_list_commands.proofs.Outputs.{sound_words}
use Rattle.xds_commands.proofs.MadeLemmas.{listed_packets}
use Rattle.xds_commands.proofs.SoundLemmas.{roomy_made, sound_made}
use Rattle.xds_commands.specs.XdsWords.{IsSoundXds, xds_framing}
use Rattle.words_laws.specs.Verified.{BuiltWordsAreVerified, XdsWordsAreVerified}
use Rattle.words_laws.proofs.CleanLemmas.{nothing_found}
use Rattle.words_laws.proofs.SizeLemmas.{columns_size}

-- sound frames that show a list
frames_verified : (list : Listing) (columns : Columns) → IsFormed list → AreRoomy list.rate columns → IsSoundFrames list.rate list.frames columns
    → ShowsFrames (list_told list) (list_grids list) (list_windows list) list.frames (column_packets list.rate columns 0 list.frames)
    → AreVerified list (column_bytes list.rate columns 0 list.frames)
frames_verified list columns formed roomy sound shows =
    let most : list.frames ≤ 1000000 = formed.frames in
    let size : length (column_bytes list.rate columns 0 list.frames) ≤ 190 * list.frames = columns_size list.rate columns 0 list.frames roomy in
    let count = packets_count list.rate columns 0 list.frames in
    record {
      frames = column_packets list.rate columns 0 list.frames;
      file = record { file = sound.carried.file; accepted = sound.whole };
      within = omega (arith, most, size);
      enough = omega (arith, count);
      clean = nothing_found list columns formed sound.carried sound.fills shown shows.has_windows;
    }
  where
    shown : (frame : ℕ) → frame < list.frames → ShowsList list (λ in_field. received_at in_field (column_packets list.rate columns 0 list.frames) frame) frame
    shown frame below One = record { first = shows.has_grids frame below Cc1; second = shows.has_grids frame below Cc2 tt }
    shown frame below Two = record { first = shows.has_grids frame below Cc3; second = shows.has_grids frame below Cc4 tt }

pub built_verified : BuiltWordsAreVerified
built_verified bytes list placed accepted =
    let formed : IsFormed list = accepted.good.spelled.formed in
    let made : PlacedList = record { list = list; placed = placed } in
    let sound = sound_words bytes made accepted in
    frames_verified list (columns_of list placed) formed (frames_roomy list placed formed accepted.good.ruled (λ service. accepted.placement (Service service))) sound.frames sound.shows

pub xds_verified : XdsWordsAreVerified
xds_verified text bytes made good accepted =
    let formed : IsFormed made.list = accepted.accepted.good.spelled.formed in
    let packets = listed_packets made.listed good.spelled.in_range in
    let sound : IsSoundXds made = sound_made made.listed bytes made packets accepted in
    frames_verified made.list (xds_framing made).columns formed (roomy_made made.listed bytes made packets accepted) sound.frames sound.shows
