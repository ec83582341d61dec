-- Between crates: the program's answer stands on none of these definitions.
-- The windows of a list of literals, as the commands of its cues make them.
use Rattle.std.specs.Prelude.{ℕ, slice_get, Option}
use Rattle.std.specs.Option.{option_and_then}
use Rattle.frame_scheduler.specs.WindowExamples.{two_windows}
use Rattle.dtvcc_windows.specs.Showing.{ShownWindow}
use Rattle.dtvcc_author.specs.WindowCommands.{commands_of}
use Rattle.windows_shown.specs.Loading.{seen_behind}

-- what is seen of the window of a cue of the list, counted from 0
abbrev pub nth_loaded : ℕ → Option ShownWindow
nth_loaded k = option_and_then (λ cue. seen_behind (commands_of cue)) (slice_get two_windows k)
