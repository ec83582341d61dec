-- Between crates: the program's answer stands on none of these definitions.
-- Layers that judge the parts of distribution packets, one after another, all of a file's.
use Rattle.std.specs.Prelude.{◌≡◌, ℕ, List, [], ◌∷◌, ◌++◌, Some, None}
use Rattle.std.specs.List.{All, flat_map}
use Rattle.cc_base.specs.declared.why.Why.{Why}
use Rattle.cc_base.specs.Feeding.{Verdict}
use Rattle.cc_base.specs.Steps.{AreAccepted}
use Rattle.cc_base.specs.Syntax.{AllRead, open_behind, parts_from, parts_of}
use Rattle.cdp_packets.specs.declared.parts.CdpPart.{CdpPart}
use Rattle.cdp_packets.specs.PacketParts.{packet_parts}
use Rattle.cdp_packets.specs.Reading.{IsFilling, cdp_syntax}
use Rattle.words_files.specs.Layers.{Layers}

-- the first of these parts are taken, and the next one is refused for this reason
pub record IsRefusedFor (verdict : Verdict CdpPart) (parts : List CdpPart) (reason : Why) : Type 0 where
  pub taken : List CdpPart
  pub part : CdpPart
  pub rest : List CdpPart
  pub spelled : parts ≡ taken ++ part ∷ rest
  pub accepted : AreAccepted verdict [] taken
  pub refused : verdict taken part ≡ Some reason

-- the layers that take the parts of frames by a verdict
abbrev pub layers_of : Verdict CdpPart → Layers
layers_of verdict = record {
  Take = λ frames. AreAccepted verdict [] (flat_map packet_parts frames);
  Refuse = λ frames reason. IsRefusedFor verdict (flat_map packet_parts frames) reason;
}

-- no part is refused
abbrev pub RefusesNone : Verdict CdpPart → Type 0
RefusesNone verdict = (above : List CdpPart) (part : CdpPart) → verdict above part ≡ None

-- what only fills the open packet is taken, wherever what came before was
abbrev pub TakesFilling : Verdict CdpPart → Type 0
TakesFilling verdict = (size : ℕ) (handed : List CdpPart) (bytes more : List ℕ)
    → AreAccepted verdict [] handed → AllRead (cdp_syntax size) bytes → AreAccepted verdict handed (parts_of (cdp_syntax size) bytes)
    → All IsFilling (parts_from (cdp_syntax size) (open_behind (cdp_syntax size) bytes) more)
    → AreAccepted verdict (handed ++ parts_of (cdp_syntax size) bytes) (parts_from (cdp_syntax size) (open_behind (cdp_syntax size) bytes) more)
