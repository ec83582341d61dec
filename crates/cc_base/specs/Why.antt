-- Believed: the library's answers stand on these definitions.
-- Reasons of refusals: their numbers and their names.
use Rattle.std.specs.Prelude.{ℕ, List, codes}
use Rattle.cc_base.specs.declared.why.Why.{Why}
use Rattle.cc_base.specs.declared.why.Why.TheVariants as why

-- the number of a reason
abbrev pub reason_number : Why → ℕ
reason_number why.Overrun = 1
reason_number why.Identifier = 2
reason_number why.Length = 3
reason_number why.Rate = 4
reason_number why.Section = 5
reason_number why.Count = 6
reason_number why.Counter = 7
reason_number why.Sum = 8
reason_number why.HighBits = 9
reason_number why.WordParity = 10
reason_number why.Flag = 11
reason_number why.AncSum = 12
reason_number why.Truncated = 13
reason_number why.NoSuchTime = 14
reason_number why.Header = 15
reason_number why.SccSyntax = 16
reason_number why.Backwards = 17
reason_number why.Field = 20
reason_number why.NoCode = 21
reason_number why.Order = 22
reason_number why.Overlap = 23
reason_number why.Clash = 24
reason_number why.Unhidden = 25
reason_number why.WindowBusy = 26
reason_number why.DelayCovers = 27
reason_number why.Share = 28
reason_number why.PastEnd = 29
reason_number why.OffSlot = 31
reason_number why.FieldClash = 32
reason_number why.OtherList = 33
reason_number why.MccSyntax = 34
reason_number why.CounterJump = 40
reason_number why.WrongCount = 41
reason_number why.BufferFull = 42
reason_number why.GridDiffers = 43
reason_number why.WrongRate = 44
reason_number why.TwoPairs = 45
reason_number why.EightBits = 46

-- the name of a reason, as it is printed
abbrev pub name_of : Why → List ℕ
name_of why.Overrun = codes "Overrun"
name_of why.Identifier = codes "Identifier"
name_of why.Length = codes "Length"
name_of why.Rate = codes "Rate"
name_of why.Section = codes "Section"
name_of why.Count = codes "Count"
name_of why.Counter = codes "Counter"
name_of why.Sum = codes "Sum"
name_of why.HighBits = codes "HighBits"
name_of why.WordParity = codes "WordParity"
name_of why.Flag = codes "Flag"
name_of why.AncSum = codes "AncSum"
name_of why.Truncated = codes "Truncated"
name_of why.NoSuchTime = codes "NoSuchTime"
name_of why.Header = codes "Header"
name_of why.SccSyntax = codes "SccSyntax"
name_of why.Backwards = codes "Backwards"
name_of why.Field = codes "Field"
name_of why.NoCode = codes "NoCode"
name_of why.Order = codes "Order"
name_of why.Overlap = codes "Overlap"
name_of why.Clash = codes "Clash"
name_of why.Unhidden = codes "Unhidden"
name_of why.WindowBusy = codes "WindowBusy"
name_of why.DelayCovers = codes "DelayCovers"
name_of why.Share = codes "Share"
name_of why.PastEnd = codes "PastEnd"
name_of why.OffSlot = codes "OffSlot"
name_of why.FieldClash = codes "FieldClash"
name_of why.OtherList = codes "OtherList"
name_of why.MccSyntax = codes "MccSyntax"
name_of why.CounterJump = codes "CounterJump"
name_of why.WrongCount = codes "WrongCount"
name_of why.BufferFull = codes "BufferFull"
name_of why.GridDiffers = codes "GridDiffers"
name_of why.WrongRate = codes "WrongRate"
name_of why.TwoPairs = codes "TwoPairs"
name_of why.EightBits = codes "EightBits"
