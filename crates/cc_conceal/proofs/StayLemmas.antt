-- More bytes that bring no frame leave all that is concealed.
use Rattle.std.proofs.Common.{◌≡◌, ◌∙◌, ◌++◌, ℕ, List, ap, sym}
use Rattle.line21_codes.specs.Channels.{data_channel_of}
use Rattle.line21_codes.specs.declared.channels.Chan.{Chan}
use Rattle.line21_codes.specs.declared.channels.Chan.TheVariants.{Cc1, Cc2, Cc3, Cc4}
use Rattle.line21_screen.specs.Fields.{FieldState, channel}
use Rattle.cdp_packets.specs.Packets.{Frame}
use Rattle.cc_receiver.proofs.FedFrames.{frames_still}
use Rattle.cc_conceal.specs.Concealed.{concealed_grids}
use Rattle.cc_conceal.specs.Concealers.{Conceals, HasConcealed, concealed_frames, displayed_now, receiver_of}
use Rattle.cc_conceal.specs.declared.concealer.Concealer.{Concealer}
use Rattle.cc_conceal.proofs.TakeLemmas.{conceals_these}

-- what is displayed now is the concealed grid of each channel
pub grid_now : (frames : List Frame) (concealer : Concealer) → Conceals frames concealer → (chan : Chan) → displayed_now concealer chan ≡ concealed_grids frames chan
grid_now frames concealer conceals Cc1 = ap (λ (s : FieldState). (channel (data_channel_of Cc1) s).displayed) conceals.acted.behind.first.state
grid_now frames concealer conceals Cc2 = ap (λ (s : FieldState). (channel (data_channel_of Cc2) s).displayed) conceals.acted.behind.first.state
grid_now frames concealer conceals Cc3 = ap (λ (s : FieldState). (channel (data_channel_of Cc3) s).displayed) conceals.acted.behind.second.state
grid_now frames concealer conceals Cc4 = ap (λ (s : FieldState). (channel (data_channel_of Cc4) s).displayed) conceals.acted.behind.second.state

-- the same frames are concealed
pub frames_stay : (before more : List ℕ) (old new : Concealer) → HasConcealed before old → HasConcealed (before ++ more) new
    → concealed_frames new ≡ concealed_frames old → (frames : List Frame) × Conceals frames old × Conceals frames new
frames_stay before more old new had has same = (
  had.frames,
  had.conceals,
  conceals_these (before ++ more) had.frames new has
      (frames_still before more (receiver_of old) (receiver_of new) had.frames had.frames_are had.received has.received same),
)

-- so the screens stay
pub screens_stay : (before more : List ℕ) (old new : Concealer) (chan : Chan) → HasConcealed before old → HasConcealed (before ++ more) new
    → concealed_frames new ≡ concealed_frames old → displayed_now new chan ≡ displayed_now old chan
screens_stay before more old new chan had has same =
    let both = frames_stay before more old new had has same in
    grid_now both.0 new both.2 chan ∙ sym (grid_now both.0 old both.1 chan)
