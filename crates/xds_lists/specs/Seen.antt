-- Between crates: the program's answer stands on none of these definitions.
-- A packet of a list, and what is read of a record, as the definitions see them.
use Rattle.std.specs.Prelude.{ℕ, Result, Ok, Err}
use Rattle.cc_base.specs.declared.why.Why.TheVariants as why
use Rattle.cue_form.specs.declared.offence.Offence.{Offence}
use Rattle.cue_form.specs.declared.offence.Offence.TheVariants as offence
use Rattle.xds_lists.specs.declared.listed.XdsListed.{XdsListed}
use Rattle.xds_packets.specs.Sending.{Listed}

abbrev pub listed_seen : XdsListed → Listed
listed_seen listed = record { from = listed.from; packet = listed.packet }

-- a field that offends is out of its form or range
abbrev pub listed_result : Result XdsListed ℕ → Result Listed Offence
listed_result (Ok listed) = Ok (listed_seen listed)
listed_result (Err place) = Err (offence.At place why.Field)
