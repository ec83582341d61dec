use Rattle.std.proofs.Common.{◌≡◌, ◌∙◌, ◌∷◌, ◌++◌, [], ap, sym, true}
use Rattle.line21_codes.specs.Channels.{field_of_channel, data_channel_of}
use Rattle.line21_screen.specs.Fields.{FieldState, channel}
use Rattle.cc_receiver.specs.Idle.{is_idle}
use Rattle.cc_receiver.proofs.IdleLemmas.{idle_frame}
use Rattle.cc_receiver.proofs.ReceivedLemmas.{last_received, shown_received}
use Rattle.cc_receiver.proofs.receiver.Receiver.is_idle.Goals as goal

pub returns-clause-idle : goal.returns-clause-idle
returns-clause-idle c bytes earlier last had are =
    let last_is = last_received earlier last bytes c.args.self.now had are in
    rw (sym last_is.pairs_one, sym last_is.pairs_two) c.is_idle.ensures

pub returns-clause-still : goal.returns-clause-still
returns-clause-still c bytes earlier last had are null chan =
    let last_is = last_received earlier last bytes c.args.self.now had are in
    let told : is_idle last ≡ true = sym (rw (sym last_is.pairs_one, sym last_is.pairs_two) c.is_idle.ensures) ∙ null in
    shown_received (earlier ++ last ∷ []) bytes c.args.self.now chan had are
    ∙ ap (λ (s : FieldState). (channel (data_channel_of chan) s).displayed) (idle_frame (field_of_channel chan) earlier last told)
