-- Believed: the program's answer stands on these definitions.
-- What `xds` makes of a cue list with the packets of its side file.
use Rattle.std.specs.Prelude.{ℕ, List}
use Rattle.command_base.specs.MadeVerdict.{BesideVerdict, MadeVerdict}
use Rattle.command_base.specs.declared.status.Status.{Status}
use Rattle.cue_list_commands.specs.Framing.{words_of}
use Rattle.xds_commands.specs.PacketLists.{IsGoodPackets, IsRefusedPackets}
use Rattle.xds_commands.specs.PlacedPackets.{IsPlacedWith, IsXdsRefusal}
use Rattle.xds_commands.specs.XdsWords.{IsSoundXds, xds_framing}

-- `xds`: the words of the list with the packets beside its captions
abbrev pub XdsVerdict : List ℕ → List ℕ → Status → List ℕ → Type 0
XdsVerdict =
    BesideVerdict IsGoodPackets IsRefusedPackets
    (λ listed. MadeVerdict (IsPlacedWith listed) (λ made. words_of (xds_framing made)) IsSoundXds (IsXdsRefusal listed))
