-- Believed: the program's answer stands on these definitions.
-- Limits: their names.
use Rattle.std.specs.Prelude.{ℕ, List, codes}
use Rattle.cc_base.specs.declared.limit_of.LimitOf.{LimitOf}
use Rattle.cc_base.specs.declared.limit_of.LimitOf.TheVariants as limit

-- the name of a limit, as it is printed
abbrev pub limit_name_of : LimitOf → List ℕ
limit_name_of limit.Bytes = codes "Bytes"
limit_name_of limit.Frames = codes "Frames"
limit_name_of limit.Cues = codes "Cues"
limit_name_of limit.Packet = codes "Packet"
limit_name_of limit.Day = codes "Day"
