-- Believed in part: the program's answer stands on some of these definitions.
-- Lanes: what a cue is sent on, a line 21 channel or a service.
use Rattle.std.specs.Prelude.{ℕ, ◌==◌, Bool, true, false}
use Rattle.line21_codes.specs.declared.channels.Chan.{Chan}
use Rattle.line21_codes.specs.declared.channels.Chan.TheVariants as chan
use Rattle.cue_types.specs.declared.cue.Cue.{Cue}
use Rattle.cue_types.specs.declared.cue.Kind.{Kind}
use Rattle.cue_types.specs.declared.cue.Kind.TheVariants as kind
use Rattle.cue_types.specs.declared.lane.Lane.{Lane}
use Rattle.cue_types.specs.declared.lane.Lane.TheVariants as lane

-- the lane of a kind of cue
abbrev pub kind_lane : Kind → Lane
kind_lane (kind.Pop channel) = lane.Channel channel
kind_lane (kind.Paint channel) = lane.Channel channel
kind_lane (kind.Roll channel rows) = lane.Channel channel
kind_lane (kind.Win window) = lane.Service window.service

-- the number of a channel's name, CC1 to CC4
abbrev pub channel_number : Chan → ℕ
channel_number chan.Cc1 = 1
channel_number chan.Cc2 = 2
channel_number chan.Cc3 = 3
channel_number chan.Cc4 = 4

-- one channel, or two
abbrev pub same_channel : Chan → Chan → Bool
same_channel chan.Cc1 chan.Cc1 = true
same_channel chan.Cc2 chan.Cc2 = true
same_channel chan.Cc3 chan.Cc3 = true
same_channel chan.Cc4 chan.Cc4 = true
same_channel _ _ = false

-- one lane, or two
abbrev pub same_lane : Lane → Lane → Bool
same_lane (lane.Channel a) (lane.Channel b) = same_channel a b
same_lane (lane.Channel a) (lane.Service b) = false
same_lane (lane.Service a) (lane.Channel b) = false
same_lane (lane.Service a) (lane.Service b) = a == b

-- the cue is sent on this lane
abbrev pub on_lane : Lane → Cue → Bool
on_lane lane cue = same_lane lane (kind_lane cue.kind)

-- a line 21 cue, on a channel
abbrev pub is_line21 : Kind → Bool
is_line21 (kind.Pop channel) = true
is_line21 (kind.Paint channel) = true
is_line21 (kind.Roll channel rows) = true
is_line21 (kind.Win window) = false

-- a window cue, of a service
abbrev pub is_win : Kind → Bool
is_win (kind.Pop channel) = false
is_win (kind.Paint channel) = false
is_win (kind.Roll channel rows) = false
is_win (kind.Win window) = true

-- a pop-on cue
abbrev pub is_pop : Kind → Bool
is_pop (kind.Pop channel) = true
is_pop (kind.Paint channel) = false
is_pop (kind.Roll channel rows) = false
is_pop (kind.Win window) = false

-- a paint-on cue
abbrev pub is_paint : Kind → Bool
is_paint (kind.Pop channel) = false
is_paint (kind.Paint channel) = true
is_paint (kind.Roll channel rows) = false
is_paint (kind.Win window) = false

-- a roll-up cue
abbrev pub is_roll : Kind → Bool
is_roll (kind.Pop channel) = false
is_roll (kind.Paint channel) = false
is_roll (kind.Roll channel rows) = true
is_roll (kind.Win window) = false
