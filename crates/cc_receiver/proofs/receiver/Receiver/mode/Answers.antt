use Rattle.std.proofs.Common.{◌≡◌, ◌∙◌, ap, sym, subst}
use Rattle.line21_codes.specs.Channels.{data_channel_of, numbered_channel}
use Rattle.line21_codes.specs.declared.channels.DataChannel.{DataChannel}
use Rattle.line21_codes.specs.declared.channels.DataChannel.TheVariants.{One, Two}
use Rattle.line21_codes.specs.declared.channels.FieldNumber.{FieldNumber}
use Rattle.line21_screen.specs.Fields.{channel}
use Rattle.line21_screen.specs.Meaning.{after}
use Rattle.line21_screen.specs.Objects.{Leads}
use Rattle.line21_screen.specs.declared.field.Field.{Field}
use Rattle.cc_receiver.specs.Catchers.{captions_field}
use Rattle.cc_receiver.proofs.ReceivedLemmas.{mode_received}
use Rattle.cc_receiver.proofs.receiver.Receiver.mode.Goals as goal

pub returns : goal.returns
returns c = record {
  received = λ bytes frames had are.
      let captions = c.args.self.now.captions in
      let is_field = c.field-2.ensures.field ∙ ap (λ (f : FieldNumber). captions_field f captions) c.field.ensures in
      let second = c.eq-second_channel.ensures in
      let numbered : (d : DataChannel) → c.data_channel.result ≡ d → numbered_channel c.eq-second_channel.result ≡ d = elim [
        | One ↦ λ one. let is = rw one at second in ap numbered_channel is
        | Two ↦ λ two. let is = rw two at second in ap numbered_channel is
      ] in
      let is_channel = numbered (data_channel_of c.args.chan) c.data_channel.ensures in
      mode_received frames bytes c.args.self.now c.args.chan c.mode.result had are (λ in_field before leads.
      c.mode.ensures in_field before (subst (λ (f : Field). Leads in_field before f) (sym is_field) leads)
      ∙ ap (λ (d : DataChannel). (channel d (after in_field before)).mode) is_channel);
}
