-- Believed in part: the program's answer stands on some of these definitions.
-- The frames of a programme: their rate, what each carries, and how many they are.
use Rattle.std.specs.Prelude.{◌≡◌, ℕ, List}
use Rattle.cc_base.specs.declared.rate.Rate.{Rate}
use Rattle.cdp_packets.specs.Packets.{Frame}
use Rattle.frame_carrier.specs.Carrying.{column_bytes, column_packets}
use Rattle.frame_scheduler.specs.Columns.{Columns}
use Rattle.frame_carrier.specs.declared.programme.Programme.{Programme}

pub record Framing : Type 0 where
  pub rate : Rate
  pub columns : Columns
  pub count : ℕ

-- their words, and the distribution packets that these carry
abbrev pub words_of : Framing → List ℕ
words_of framing = column_bytes framing.rate framing.columns 0 framing.count

abbrev pub packets_of : Framing → List Frame
packets_of framing = column_packets framing.rate framing.columns 0 framing.count

-- a programme that has given nothing yet gives these
pub record HasFraming {F : Type 0} (left : F → ℕ) (Gives : Columns → ℕ → F → Type 0) (framing : Framing) (programme : Programme F) : Type 0 where
  pub rate_is : programme.rate ≡ framing.rate
  pub gives : Gives framing.columns 0 programme.frames
  pub count_is : left programme.frames ≡ framing.count
