-- What is built of an accepted list at 29.97 is converted without a misfit.
use Rattle.std.proofs.Common.{◌≤◌, ◌*◌, length, arith}
use Rattle.converted_lists.proofs.FitLemmas.{lists_fit}
use Rattle.cue_lists.specs.Listing.{IsFormed}
use Rattle.cue_lists.specs.declared.lane.Lane.TheVariants.{Service}
use Rattle.cue_list_commands.specs.Planned.{columns_of}
use Rattle.cue_list_commands.proofs.RoomLemmas.{frames_roomy}
use Rattle.cue_list_commands.specs.Output.{PlacedList, build_output, built_packets}
use Rattle.cue_list_commands.proofs.Outputs.{sound_words}
use Rattle.words_laws.specs.Converted.{BuiltWordsAreFit}
use Rattle.words_laws.proofs.SeenLemmas.{built_file}
use Rattle.words_laws.proofs.SizeLemmas.{columns_size}

pub built_fit : BuiltWordsAreFit
built_fit bytes list placed accepted short =
    let formed : IsFormed list = accepted.good.spelled.formed in
    let made : PlacedList = record { list = list; placed = placed } in
    let sound = sound_words bytes made accepted in
    let most : list.frames ≤ 1000000 = formed.frames in
    let size : length (build_output list placed) ≤ 190 * list.frames =
    columns_size list.rate (columns_of list placed) 0 list.frames (frames_roomy list placed formed accepted.good.ruled (λ service. accepted.placement (Service service))) in
    record {
      frames = built_packets list placed;
      file = built_file list placed sound;
      within = omega (arith, most, size);
      fit = lists_fit list placed formed accepted.good.ruled (λ service. accepted.placement (Service service)) short sound.frames;
    }
