use Rattle.std.proofs.Common.{refl}
use lib.Utf8.{encode}
use Rattle.std.specs.Fmt.{digits}
use Rattle.dtvcc_windows.specs.Places.{window_row}
use Rattle.grid_print.specs.CellRuns.{row_runs}
use Rattle.grid_print.specs.Writing.{written_alike}
use Rattle.grid_print.specs.WindowRuns.{window_runs}
use Rattle.grid_print.specs.WindowTexts.{service_text, window_line, window_run_line, window_text}
use Rattle.grid_print.proofs.window_laws.a_window_is_printed.Goals as goal

pub returns-clause-hello : goal.returns-clause-hello
unfolding window_row written_alike row_runs window_runs window_run_line service_text window_line window_text digits encode
returns-clause-hello c = refl

pub returns-clause-none : goal.returns-clause-none
unfolding window_row written_alike row_runs window_runs window_run_line service_text window_line window_text digits encode
returns-clause-none c = refl
