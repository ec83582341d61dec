-- A receiver that is fed the words of a list with packets shows what was authored.
use Rattle.std.proofs.Common.{◌≡◌, length, subst, sym, List}
use Rattle.cdp_packets.specs.Packets.{Frame}
use Rattle.cue_list_commands.proofs.ToldLemmas.{packets_count}
use Rattle.cue_list_commands.specs.Output.{list_grids, list_told, list_windows}
use Rattle.cue_list_commands.specs.Showing.{ShowsFrames}
use Rattle.cue_list_commands.specs.Framing.{packets_of, words_of}
use Rattle.xds_commands.proofs.MadeLemmas.{listed_packets}
use Rattle.xds_commands.proofs.SoundLemmas.{sound_made}
use Rattle.xds_commands.specs.XdsWords.{xds_framing}
use Rattle.words_laws.proofs.SeenLemmas.{list_seen}
use Rattle.words_laws.specs.Seen.{XdsWordsAreSeen}

pub xds_seen : XdsWordsAreSeen
xds_seen text bytes made words rest receiver frame good accepted output had counted =
    let sound = sound_made made.listed bytes made (listed_packets made.listed good.spelled.in_range) accepted in
    let packets : List Frame = packets_of (xds_framing made) in
    let all : length packets ≡ made.list.frames = packets_count made.list.rate (xds_framing made).columns 0 made.list.frames in
    list_seen made.list packets (words_of (xds_framing made)) words rest receiver frame (record { file = sound.frames.carried.file; accepted = sound.frames.whole })
    (subst (λ n. ShowsFrames (list_told made.list) (list_grids made.list) (list_windows made.list) n packets) (sym all) sound.shows)
    (λ service numbered. sound.frames.fills service numbered) output had counted
