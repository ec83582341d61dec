-- Believed: the program's answer stands on these definitions.
-- What the layers above distribution packets make of the frames of a words file: what they take, and for what reason they refuse the
-- others. They are a parameter of what stands here of words files.
use Rattle.std.specs.Prelude.{List}
use Rattle.cc_base.specs.declared.why.Why.{Why}
use Rattle.cdp_packets.specs.Packets.{Frame}

-- they take all that frames say; or of what these say they refuse something for a reason, and nothing before it
pub record Layers : Type 1 where
  pub Take : List Frame → Type 0
  pub Refuse : List Frame → Why → Type 0
