-- The cues on a channel: their kinds, and the former cue of each among them.
use Rattle.std.proofs.Common.{◌≡◌, ◌-◌, ◌<◌, true, false, List, length, reverse, refl, sym, ap, subst, arith}
use Rattle.std.specs.Prelude.{All, IsSome}
use Rattle.std.proofs.lemmas.List.{get_or-reverse, length-reverse}
use Rattle.std.proofs.lemmas.List.Elements.{All-filter, filter_passes}
use Rattle.line21_codes.specs.declared.channels.Chan.{Chan}
use Rattle.line21_codes.specs.declared.channels.Chan.TheVariants as chan
use Rattle.cue_types.specs.Channels.{is_on, cues_on}
use Rattle.cue_types.specs.Cues.{IsCueFormed, IsOfKind}
use Rattle.cue_lists.specs.Rules.Former.{former_cue}
use Rattle.cue_types.specs.Lane.{is_line21, is_pop, is_roll, kind_lane, same_channel}
use Rattle.cue_types.specs.declared.cue.Cue.{Cue}
use Rattle.cue_types.specs.declared.cue.Kind.{Kind}
use Rattle.cue_types.specs.declared.cue.Kind.TheVariants as kind
use Rattle.cue_types.specs.declared.lane.Lane.TheVariants as lane
use Rattle.cue_lists.proofs.LaneCues.{former_on_lane, newest}

-- one channel has one name
pub same_channel_is : (a b : Chan) → same_channel a b ≡ true → b ≡ a
same_channel_is chan.Cc1 chan.Cc1 same = refl
same_channel_is chan.Cc2 chan.Cc2 same = refl
same_channel_is chan.Cc3 chan.Cc3 same = refl
same_channel_is chan.Cc4 chan.Cc4 same = refl
same_channel_is _ _ same = cc

-- a cue on a channel has the channel for its lane
pub lane_of_on : (channel : Chan) (k : Kind) → is_on channel k ≡ true → kind_lane k ≡ lane.Channel channel
lane_of_on channel (kind.Pop own) on = ap lane.Channel (same_channel_is channel own on)
lane_of_on channel (kind.Paint own) on = ap lane.Channel (same_channel_is channel own on)
lane_of_on channel (kind.Roll own rows) on = ap lane.Channel (same_channel_is channel own on)
lane_of_on channel (kind.Win window) on = cc

-- a cue on a channel is one of line 21
pub line21_on : (channel : Chan) (k : Kind) → is_on channel k ≡ true → is_line21 k ≡ true
line21_on channel (kind.Pop own) on = refl
line21_on channel (kind.Paint own) on = refl
line21_on channel (kind.Roll own rows) on = refl
line21_on channel (kind.Win window) on = cc

-- the former cue of a cue on a channel is the newest one on the channel
pub former_on : (channel : Chan) (cue : Cue) (earlier : List Cue) → is_on channel cue.kind ≡ true
    → former_cue cue earlier ≡ newest (cues_on channel earlier)
former_on channel cue earlier on = former_on_lane (lane.Channel channel) cue earlier (lane_of_on channel cue.kind on)

-- the cues on a channel are on it
pub cues_on_are_on : (channel : Chan) (cues : List Cue) → All (λ cue. is_on channel cue.kind ≡ true) (cues_on channel cues)
cues_on_are_on channel cues = filter_passes (λ (cue : Cue). is_on channel cue.kind) cues

-- the cues on a channel are in their ranges
pub cues_on_formed : (channel : Chan) (cues : List Cue) → All IsCueFormed cues → All IsCueFormed (cues_on channel cues)
cues_on_formed channel cues formed = All-filter (λ (cue : Cue). is_on channel cue.kind) IsCueFormed cues formed

-- what holds of each element holds of each in the reverse order
pub All-reverse : {X : Type 0} (P : X → Type 0) (xs : List X) → All P xs → All P (reverse xs)
All-reverse P xs all k d within =
    let inside : k < length xs = rw length-reverse at within in
    subst P (sym (get_or-reverse xs k d inside)) (all (length xs - 1 - k) d (omega arith))

-- a roll-up cue isn't pop-on
pub roll_is_not_pop : (k : Kind) → is_roll k ≡ true → is_pop k ≡ false
roll_is_not_pop (kind.Pop channel) roll = cc
roll_is_not_pop (kind.Paint channel) roll = refl
roll_is_not_pop (kind.Roll channel rows) roll = refl
roll_is_not_pop (kind.Win window) roll = refl

-- a pop-on cue isn't roll-up
pub pop_is_not_roll : (k : Kind) → is_pop k ≡ true → is_roll k ≡ false
pop_is_not_roll (kind.Pop channel) pop = refl
pop_is_not_roll (kind.Paint channel) pop = refl
pop_is_not_roll (kind.Roll channel rows) pop = cc
pop_is_not_roll (kind.Win window) pop = refl

-- a cue that isn't roll-up has a HIDE
pub hides_unless_roll : (cue : Cue) → IsCueFormed cue → is_roll cue.kind ≡ false → IsSome cue.hide
hides_unless_roll cue formed plain = by_kind cue.kind formed.kind plain
  where
    by_kind : (k : Kind) → IsOfKind k cue.hide cue.runs → is_roll k ≡ false → IsSome cue.hide
    by_kind (kind.Pop channel) of_kind other = of_kind.1
    by_kind (kind.Paint channel) of_kind other = of_kind.1
    by_kind (kind.Roll channel rows) of_kind other = cc
    by_kind (kind.Win window) of_kind other = of_kind.1
