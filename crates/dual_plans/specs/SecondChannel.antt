-- Between crates: the program's answer stands on none of these definitions.
-- The events of a channel with their codes for data channel 2 of its field.
use Rattle.std.specs.Prelude.{List, map}
use Rattle.line21_codes.specs.declared.channels.FieldNumber.{FieldNumber}
use Rattle.line21_codes.specs.Reading.{code_of}
use Rattle.line21_codes.specs.Writing.{pair_of_code}
use Rattle.line21_author.specs.declared.event.Event.{Event}
use Rattle.dual_fields.specs.Seen.{as_second}

abbrev pub second_event : FieldNumber → Event → Event
second_event in_field event = record { slot = event.slot; pair = pair_of_code in_field (as_second (code_of event.pair)) }

abbrev pub second_events : FieldNumber → List Event → List Event
second_events in_field events = map (second_event in_field) events
