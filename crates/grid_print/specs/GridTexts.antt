-- Believed: the program's answer stands on these definitions.
-- The texts of the grids of CC1 to CC4, and of the windows of services.
use Rattle.std.specs.Prelude.{ℕ, ◌==◌, ◌++◌, ◌||◌, not, Bool, Option, if◌then◌else◌, List, [], ◌∷◌, codes, decimal, encode_utf8_all, length}
use Rattle.std.specs.List.{flat_map, list_any, range_with_len}
use Rattle.cc_base.specs.Texts.{text}
use Rattle.line21_codes.specs.Channels.{channel_name}
use Rattle.line21_codes.specs.declared.channels.Chan.{Chan}
use Rattle.line21_codes.specs.declared.channels.Chan.TheVariants.{Cc1, Cc2, Cc3, Cc4}
use Rattle.line21_codes.specs.declared.styles.Cell.{Cell}
use Rattle.line21_codes.specs.PenWords.{colour_word, italic_mark, underline_mark}
use Rattle.line21_screen.specs.Differences.{grid_differs}
use Rattle.line21_screen.specs.Grid.{Grid}
use Rattle.dtvcc_windows.specs.Showing.{ShownWindow}
use Rattle.grid_print.specs.Differences.{differs as window_differs}
use Rattle.grid_print.specs.WindowTexts.{service_text, shown_ids}
use Rattle.grid_print.specs.CellRuns.{Run}
use Rattle.grid_print.specs.Runs.{runs}
use Rattle.grid_print.specs.Screens.{Screens}

-- the line of a run: its row, its column, its pen, and its characters in UTF-8
unfoldable pub run_line : Run Cell → List ℕ
run_line run = text (
    decimal run.row ∷ codes " " ∷ decimal run.col ∷ codes " "
    ∷ colour_word run.first.style.colour ∷ italic_mark run.first.style.italic ∷ underline_mark run.first.style.underline
    ∷ codes " " ∷ encode_utf8_all run.text ∷ codes "\n" ∷ [])

-- the text of a channel's grid: the channel and the number of its runs, and then their lines
unfoldable pub grid_text : Chan → Grid → List ℕ
grid_text chan grid = text (channel_name chan ∷ codes " " ∷ decimal (length (runs grid)) ∷ codes "\n" ∷ flat_map run_line (runs grid) ∷ [])

-- the line of a frame
abbrev pub frame_line : ℕ → List ℕ
frame_line frame = text (codes "frame " ∷ decimal frame ∷ codes "\n" ∷ [])

-- the channels in their order
abbrev pub channels : List Chan
channels = Cc1 ∷ Cc2 ∷ Cc3 ∷ Cc4 ∷ []

-- the services in their order
abbrev pub all_services : List ℕ
all_services = range_with_len 1 63

-- some window of a service is shown otherwise
unfoldable pub service_differs : (ℕ → Option ShownWindow) → (ℕ → Option ShownWindow) → Bool
service_differs old new = list_any (λ id. window_differs (old id) (new id)) (range_with_len 0 8)

-- the grids of the channels of which this is asked
unfoldable pub channel_texts : (Chan → Bool) → (Chan → Grid) → List ℕ
channel_texts is_asked grids = flat_map (λ chan. if is_asked chan then grid_text chan (grids chan) else []) channels

-- the windows of the services of which this is asked
unfoldable pub service_texts : (ℕ → Bool) → (ℕ → ℕ → Option ShownWindow) → List ℕ
service_texts is_asked windows =
    flat_map (λ service. if is_asked service then service_text service (windows service) else []) all_services

-- a frame's screens: its line, the grid of each channel that has a run, and the windows of each service of which one is shown
unfoldable pub all_text : ℕ → Screens → List ℕ
all_text frame screens =
    frame_line frame ++ channel_texts (λ chan. not (length (runs (screens.grids chan)) == 0)) screens.grids
    ++ service_texts (λ service. not (length (shown_ids (screens.windows service)) == 0)) screens.windows

-- the grid of some channel differs, or the windows of some service
abbrev pub screens_differ : Screens → Screens → Bool
screens_differ old new =
    list_any (λ chan. grid_differs (old.grids chan) (new.grids chan)) channels
    || list_any (λ service. service_differs (old.windows service) (new.windows service)) all_services

-- what changes from some screens to a frame's: nothing where nothing differs; else the frame's line, the grid of each channel
-- whose grid differs, and the windows of each service whose windows differ
unfoldable pub changes_text : ℕ → Screens → Screens → List ℕ
changes_text frame old new =
    if screens_differ old new
    then frame_line frame ++ channel_texts (λ chan. grid_differs (old.grids chan) (new.grids chan)) new.grids
    ++ service_texts (λ service. service_differs (old.windows service) (new.windows service)) new.windows
    else []
