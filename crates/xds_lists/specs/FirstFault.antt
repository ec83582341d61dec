-- Believed in part: the program's answer stands on some of these definitions.
-- The first fault of records that spell no list of packets: the first record at which no packet's record stands.
use Rattle.std.specs.Prelude.{◌≡◌, ◌≢◌, ⊤, ◌⊎◌, ℕ, ◌+◌, ◌-◌, List, ◌∷◌, ◌++◌, codes, length, min, take}
use Rattle.cc_base.specs.declared.why.Why.TheVariants as why
use Rattle.cue_form.specs.Records.{Record, field}
use Rattle.xds_lists.specs.Form.{IsListed, SpellPackets, packet_record}
use Rattle.xds_lists.specs.declared.fault.XdsFault.{XdsFault}
use Rattle.xds_lists.specs.declared.fault.XdsFault.TheVariants as malformed
use Rattle.xds_packets.specs.Sending.{Listed}

-- some packet's record has the same first fields, this many
pub record BeginsPacket (count : ℕ) (r : Record) : Type 0 where
  pub packet : Listed
  pub listed : IsListed packet
  pub same : take count r ≡ take count (packet_record packet)

-- a record offends at this field, counted from 1: at its kind word; or, of another number of fields than five, one past the last
-- that it has, or that belongs; or else at the first field with which no packet's record goes on
abbrev pub PacketOffends : Record → ℕ → Type 0
PacketOffends r place =
    ((field r 0 ≢ codes "xds") × (place ≡ 1))
    ⊎ (((field r 0 ≡ codes "xds") × (length r ≢ 5) × (place ≡ min (length r) 5 + 1))
    ⊎ ((length r ≡ 5) × BeginsPacket (place - 1) r × (BeginsPacket place r → ⊥)))

-- the records before one spell packets, and it offends at a field
pub record IsFirstPacketFault (records : List Record) (fault : XdsFault) : Type 0 where
  pub before : List Record
  pub offender : Record
  pub after : List Record
  pub place : ℕ
  pub split : records ≡ before ++ offender ∷ after
  pub good : (listed : List Listed) × SpellPackets before listed
  pub offends : PacketOffends offender place
  pub fault_is : fault ≡ malformed.Malformed (length before + 1) place why.Field

-- a fault, unless memory ran out, is the first one
abbrev pub FaultsFirst : List Record → XdsFault → Type 0
FaultsFirst records (malformed.Memory error) = ⊤
FaultsFirst records (malformed.Malformed number place why) =
    IsFirstPacketFault records (malformed.Malformed number place why)
