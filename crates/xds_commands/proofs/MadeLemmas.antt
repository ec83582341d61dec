-- What is made of a cue list with packets.
use Rattle.std.proofs.Common.{◌≡◌, ℕ, List, All, Option, Some, None, Ok, Err, refl, subst, sym}
use Rattle.std.specs.Prelude.{IfSome}
use Rattle.std.proofs.lemmas.List.Elements.{All-weaker}
use Rattle.command_base.specs.WholeInput.{ReadsInput}
use Rattle.command_base.specs.declared.status.Status.{Status}
use Rattle.command_base.specs.declared.status.Status.TheVariants as status
use Rattle.cue_list_commands.specs.Accepted.{IsGoodList, IsRefusedList}
use Rattle.cue_lists.specs.Listing.{Listing}
use Rattle.cue_list_commands.specs.Columns.{Columns}
use Rattle.cue_list_commands.specs.Planned.{IsListPlaced, Placement}
use Rattle.cue_list_commands.specs.Made.{IsProgrammeOf}
use Rattle.cue_list_commands.specs.Programme.{Programme}
use Rattle.xds_frames.proofs.CodesLemmas.{columns_given}
use Rattle.xds_frames.specs.XdsFrames.{HasXdsRoom, xds_columns}
use Rattle.xds_commands.specs.PlacedPackets.{IsPlacedWith, IsXdsRefusal, PlacedPackets}
use Rattle.xds_commands.specs.XdsStatus.{fault_status}
use Rattle.xds_commands.specs.XdsWords.{IsSoundXds, xds_framing}
use Rattle.xds_commands.proofs.SoundLemmas.{sound_made}
use Rattle.xds_frames.specs.PlanAnswer.{IsXdsPlanFault}
use Rattle.xds_frames.specs.declared.fault.XdsPlanFault.{XdsPlanFault}
use Rattle.xds_frames.specs.declared.fault.XdsPlanFault.TheVariants.{Memory, NoRoom, NoXdsRoom}
use Rattle.xds_lists.specs.Form.{IsListed}
use Rattle.xds_packets.specs.PacketCodes.{IsXdsPacket}
use Rattle.xds_packets.specs.Sending.{Listed}

-- the packets of a list can be sent
pub listed_packets : (listed : List Listed) → All IsListed listed → All (λ (l : Listed). IsXdsPacket l.packet) listed
listed_packets listed all = All-weaker IsListed (λ (l : Listed). IsXdsPacket l.packet) (λ one is. is.packet) listed all

-- so what `xds` puts of an accepted list with them is sound
pub sound_xds : (listed : List Listed) → All IsListed listed → (bytes : List ℕ) (made : PlacedPackets) → IsPlacedWith listed bytes made → IsSoundXds made
sound_xds listed all bytes made is =
    sound_made listed bytes made (listed_packets made.listed (subst (λ (l : List Listed). All IsListed l) (sym is.listed_are) all)) is

-- a fact of what was left that follows from another
if_left : (P Q : List ℕ → Type 0) (left : Option (List ℕ)) → ((bytes : List ℕ) → P bytes → Q bytes) → IfSome left P → IfSome left Q
if_left P Q None each fact = tt
if_left P Q (Some all) each fact = each all fact

-- what is refused as a list is refused with any packets
pub list_unread : (listed : List Listed) (old new : Option (List ℕ)) (before now : ℕ) (s : Status)
    → ReadsInput IsGoodList IsRefusedList old new before now (Err s) → ReadsInput IsGoodList (IsXdsRefusal listed) old new before now (Err s)
list_unread listed old new before now (status.NoRoom cue) read = (read.0, if_left (λ bytes. ⊥) (λ bytes. IsXdsRefusal listed bytes (status.NoRoom cue)) old (λ bytes wrong. absurd wrong) read.1)
list_unread listed old new before now (status.NoXdsRoom packet) read =
    (read.0, if_left (λ bytes. ⊥) (λ bytes. IsXdsRefusal listed bytes (status.NoXdsRoom packet)) old (λ bytes wrong. absurd wrong) read.1)
list_unread listed old new before now s read = read

module _ (list : Listing) (listed : List Listed) (old new : Option (List ℕ)) (before now : ℕ) (read : ReadsInput IsGoodList IsRefusedList old new before now (Ok list)) where
  -- a planned list with packets
  pub list_made : {F : Type 0} (left : F → ℕ) (Gives : Columns → ℕ → F → Type 0) (placed : Placement) (programme : Programme F)
      → IsListPlaced list placed → HasXdsRoom list placed listed → programme.rate ≡ list.rate → Gives (xds_columns list placed listed) 0 programme.frames
      → left programme.frames ≡ list.frames
      → ReadsInput (IsProgrammeOf (IsPlacedWith listed) xds_framing left Gives) (IsXdsRefusal listed) old new before now (Ok programme)
  list_made left Gives placed programme is room rate gives count = (
    read.0,
    read.1,
    if_left (λ bytes. IsGoodList bytes list) (λ bytes. IsProgrammeOf (IsPlacedWith listed) xds_framing left Gives bytes programme) old
        (λ bytes good. record {
          made = record { list = list; placed = placed; listed = listed; codes = room.placed };
          accepted = record { accepted = record { good = good; placement = is }; listed_are = refl; room = room; codes_are = refl };
          framing = record {
            rate_is = rate;
            gives = subst (λ (columns : Columns). Gives columns 0 programme.frames) (sym (columns_given list placed listed room)) gives;
            count_is = count;
          };
        })
        read.2,
  )

  -- one without a plan
  pub list_refused : (fault : XdsPlanFault) → IsXdsPlanFault list listed fault → ReadsInput IsGoodList (IsXdsRefusal listed) old new before now (Err (fault_status fault))
  list_refused (Memory error) is = read.0
  list_refused (NoRoom cue) is = (
    read.0,
    if_left (λ bytes. IsGoodList bytes list) (λ bytes. IsXdsRefusal listed bytes (status.NoRoom cue)) old
        (λ bytes good. record { list = list; good = good; holds = is }) read.2,
  )
  list_refused (NoXdsRoom packet) is = (
    read.0,
    if_left (λ bytes. IsGoodList bytes list) (λ bytes. IsXdsRefusal listed bytes (status.NoXdsRoom packet)) old
        (λ bytes good. record { list = list; good = good; holds = is }) read.2,
  )
