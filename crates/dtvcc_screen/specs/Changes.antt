-- Between crates: the program's answer stands on none of these definitions.
-- What a byte of windows asks of each window that it names.
use Rattle.std.specs.Prelude.{true, false, Option, option_map}
use Rattle.dtvcc_windows.specs.Text.{cleared}
use Rattle.dtvcc_windows.specs.Windows.{WindowState, with_visibility}
use Rattle.dtvcc_screen.specs.declared.change.Change.{Change}
use Rattle.dtvcc_screen.specs.declared.change.Change.TheVariants.{Clear, Show, Hide, Toggle, Delete}
use Rattle.dtvcc_screen.specs.Commands.{deleted, toggled}

abbrev pub changed_by : Change → Option WindowState → Option WindowState
changed_by Clear = option_map cleared
changed_by Show = option_map (with_visibility true)
changed_by Hide = option_map (with_visibility false)
changed_by Toggle = option_map toggled
changed_by Delete = deleted
