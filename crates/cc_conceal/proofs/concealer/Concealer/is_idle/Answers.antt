use Rattle.std.proofs.Common.{◌∙◌, ◌∷◌, ◌++◌, [], List, ap, map, refl, reverse, sym}
use Rattle.cdp_packets.specs.Packets.{Frame}
use Rattle.line21_codes.specs.Channels.{data_channel_of, field_of_channel}
use Rattle.line21_screen.specs.Fields.{FieldState, channel}
use Rattle.line21_screen.specs.Meaning.{after}
use Rattle.words_files.specs.Received.{received_pairs}
use Rattle.cc_conceal.specs.Concealed.{concealed, heard_of}
use Rattle.cc_conceal.proofs.StillLemmas.{idle_concealed}
use Rattle.cc_conceal.proofs.TakeLemmas.{conceals_these}
use Rattle.cc_conceal.proofs.concealer.Concealer.is_idle.Goals as goal

pub returns : goal.returns
returns c = λ bytes earlier last had are idle chan.
    let f = field_of_channel chan in
    let on = (conceals_these bytes (earlier ++ last ∷ []) c.args.self.now had are).acted.goes_on c.if-self.false earlier last refl in
    ap (λ (l : List Frame). (channel (data_channel_of chan) (after f (reverse (map concealed (received_pairs f l))))).displayed) on
    ∙ ap (λ (s : FieldState). (channel (data_channel_of chan) s).displayed)
    (idle_concealed f (heard_of earlier) last (sym (c.is_idle.ensures.idle bytes earlier last had.received are) ∙ idle))
