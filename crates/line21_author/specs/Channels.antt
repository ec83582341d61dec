-- Believed: the program's answer stands on these definitions.
-- The caption channels of line 21 and their cues (CTA-608-E; 47 CFR 79.101).
use Rattle.line21_codes.specs.declared.channels.FieldNumber.{FieldNumber}
use Rattle.line21_codes.specs.declared.channels.FieldNumber.TheVariants.{One}
use Rattle.line21_codes.specs.Channels.{field_of_channel}
pub use Rattle.cue_lists.specs.Channels.{cues_on, is_on}
pub use Rattle.cue_lists.specs.Lane.{same_channel}
use Rattle.cue_lists.specs.declared.cue.Kind.{Kind}
use Rattle.cue_lists.specs.declared.cue.Kind.TheVariants.{Pop, Paint, Roll, Win}

-- the field that sends a cue's units; a window cue, which has none, counts as one of field 1
abbrev pub field_of_kind : Kind → FieldNumber
field_of_kind (Pop channel) = field_of_channel channel
field_of_kind (Paint channel) = field_of_channel channel
field_of_kind (Roll channel rows) = field_of_channel channel
field_of_kind (Win window) = One
