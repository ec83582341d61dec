-- Believed: the program's answer stands on these definitions.
-- Frames without captions, as they are put where an MCC file has no packet of captions: each is the packet of a programme's frame that has
-- nothing, with a null pair in each field that has a slot there, and fillers up to its rate's number of triplets.
use Rattle.std.specs.Prelude.{ℕ, zero, suc, ◌+◌, ◌%◌, List, [], ◌++◌}
use Rattle.cc_base.specs.declared.rate.Rate.{Rate}
use Rattle.frame_carrier.specs.End.{silent_frame}
use Rattle.frame_carrier.specs.Carrying.{frame_bytes}

-- the words of this many of them, from a number on, modulo 65536
abbrev pub words_without : Rate → ℕ → ℕ → List ℕ
words_without rate number zero = []
words_without rate number (suc many) = frame_bytes rate number (silent_frame rate number) [] ++ words_without rate ((number + 1) % 65536) many
