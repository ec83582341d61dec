-- Believed in part: the program's answer stands on some of these definitions.
-- Which lists of packets are accepted, and why another one is refused.
use Rattle.std.specs.Prelude.{◌<◌, ◌≤◌, ℕ, List, length}
use Rattle.cc_base.specs.Streams.{whole_limit}
use Rattle.cc_base.specs.declared.limit_of.LimitOf.TheVariants as limit
use Rattle.command_base.specs.declared.status.Place.TheVariants.{Field}
use Rattle.command_base.specs.declared.status.Status.{Status}
use Rattle.command_base.specs.declared.status.Status.TheVariants as status
use Rattle.cue_form.specs.Records.{records_of}
use Rattle.xds_lists.specs.FirstFault.{IsFirstPacketFault}
use Rattle.xds_lists.specs.Form.{SpellPackets}
use Rattle.xds_lists.specs.declared.fault.XdsFault.{XdsFault}
use Rattle.xds_lists.specs.declared.fault.XdsFault.TheVariants as fault
use Rattle.xds_packets.specs.Sending.{Listed}

-- the records of the bytes spell these packets
pub record IsGoodPackets (bytes : List ℕ) (listed : List Listed) : Type 0 where
  pub within : length bytes ≤ whole_limit
  pub spelled : SpellPackets (records_of bytes) listed

-- the bytes are refused with this status, and with no other: their records spell no packets, and this is their first fault
abbrev pub IsRefusedPackets : List ℕ → Status → Type 0
IsRefusedPackets bytes (status.Limit limit.Bytes) = whole_limit < length bytes
IsRefusedPackets bytes (status.Malformed (Field rec field) why) = (length bytes ≤ whole_limit) × IsFirstPacketFault (records_of bytes) (fault.Malformed rec field why)
IsRefusedPackets bytes _ = ⊥

-- the status of packets whose form is at fault
abbrev pub packets_status : XdsFault → Status
packets_status (fault.Memory error) = status.Memory
packets_status (fault.Malformed rec field why) = status.Malformed (Field rec field) why
