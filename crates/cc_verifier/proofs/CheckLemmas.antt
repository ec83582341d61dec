-- What the check of a channel knows, whose grid stays.
use Rattle.std.proofs.Common.{◌≡◌, ◌∙◌, ℕ, Bool, true, false, List, refl, subst, sym}
use Rattle.line21_codes.specs.declared.channels.Chan.{Chan}
use Rattle.line21_screen.specs.Differences.{HasOther}
use Rattle.line21_screen.specs.Grid.{Grid}
use Rattle.line21_screen.specs.Objects.{grid_in}
use Rattle.cue_lists.specs.AuthoredGrid.{authored_grid}
use Rattle.cue_types.specs.declared.cue.Cue.{Cue}
use Rattle.cc_verifier.specs.Checks.{Knows, LeavesGrid}
use Rattle.cc_verifier.specs.declared.channel_check.ChannelCheck.{ChannelCheck}

-- the grid is what was seen, as nothing changed in an idle frame, or as it was compared
pub still_seen : (channel : Chan) (cues : List Cue) (frame : ℕ) (former now : Grid) (check : ChannelCheck) (is_idle : Bool)
    → Knows channel cues frame former check → check.agrees ≡ true → LeavesGrid is_idle former now → (is_idle ≡ false → grid_in check.seen ≡ now)
    → grid_in check.seen ≡ now
still_seen channel cues frame former now check true knows agrees leaves compared = knows.showed agrees ∙ sym (leaves refl)
still_seen channel cues frame former now check false knows agrees leaves compared = compared refl

pub still_agrees : (channel : Chan) (cues : List Cue) (frame : ℕ) (former now : Grid) (check : ChannelCheck) (is_idle : Bool)
    → Knows channel cues frame former check → check.agrees ≡ true → LeavesGrid is_idle former now → (is_idle ≡ false → grid_in check.seen ≡ now)
    → HasOther now (authored_grid channel cues frame) → ⊥
still_agrees channel cues frame former now check is_idle knows agrees leaves compared other =
    knows.agreed agrees (subst (λ (g : Grid). HasOther g (authored_grid channel cues frame)) (sym (still_seen channel cues frame former now check is_idle knows agrees leaves compared)) other)

pub still_knows : (channel : Chan) (cues : List Cue) (frame : ℕ) (former now : Grid) (check : ChannelCheck) (is_idle : Bool)
    → Knows channel cues frame former check → check.agrees ≡ true → LeavesGrid is_idle former now → (is_idle ≡ false → grid_in check.seen ≡ now)
    → Knows channel cues frame now check
still_knows channel cues frame former now check is_idle knows agrees leaves compared = record {
  channel_is = knows.channel_is;
  stands = knows.stands;
  showed = λ again. still_seen channel cues frame former now check is_idle knows agrees leaves compared;
  agreed = knows.agreed;
}
