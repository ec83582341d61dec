-- Believed: the program's answer stands on these definitions.
-- The texts of caption windows: of each visible window what is shown of it, and its runs.
use Rattle.std.specs.Prelude.{ℕ, ◌++◌, Bool, if◌then◌else◌, List, [], ◌∷◌, Option, codes, decimal, encode_utf8_all, length}
use Rattle.std.specs.List.{filter_map, flat_map, range_with_len}
use Rattle.std.specs.Option.{option_map}
use Rattle.cc_base.specs.Texts.{text}
use Rattle.dtvcc_codes.specs.declared.pens.Fill.{Fill}
use Rattle.dtvcc_codes.specs.declared.pens.PenAttr.{PenAttr}
use Rattle.dtvcc_codes.specs.declared.pens.PenColors.{PenColors}
use Rattle.dtvcc_codes.specs.declared.windows.WinAttr.{WinAttr}
use Rattle.dtvcc_windows.specs.declared.cells.DCell.{DCell}
use Rattle.dtvcc_windows.specs.Showing.{ShownWindow}
use Rattle.grid_print.specs.CellRuns.{Run}
use Rattle.grid_print.specs.WindowRuns.{window_runs}

-- numbers, each after a space
abbrev pub all_spaced : List ℕ → List ℕ
all_spaced numbers = flat_map (λ number. codes " " ++ decimal number) numbers

-- numbers without spaces
abbrev pub all_joined : List ℕ → List ℕ
all_joined numbers = flat_map decimal numbers

-- a flag is 0 or 1
abbrev pub flag : Bool → ℕ
flag on = if on then 1 else 0

-- a colour with its opacity
abbrev pub fill_digits : Fill → List ℕ
fill_digits fill = all_joined (fill.opacity ∷ fill.r ∷ fill.g ∷ fill.b ∷ [])

-- where a window stands and how large it is
abbrev pub place_text : ShownWindow → List ℕ
place_text w = text (
    codes " at" ∷ all_spaced (flag w.relative ∷ w.av ∷ w.ah ∷ w.anchor ∷ [])
    ∷ codes " size" ∷ all_spaced (w.rows ∷ w.cols ∷ [])
    ∷ codes " lock" ∷ all_spaced (flag w.row_lock ∷ flag w.col_lock ∷ [])
    ∷ codes " pri" ∷ all_spaced (w.priority ∷ []) ∷ [])

-- its attributes
abbrev pub attributes_text : WinAttr → List ℕ
attributes_text a = text (
    codes " attr" ∷ all_spaced (a.justify ∷ a.print ∷ a.scroll ∷ flag a.wrap ∷ a.effect ∷ a.effect_dir ∷ a.effect_speed ∷ [])
    ∷ codes " fill " ∷ fill_digits a.fill
    ∷ codes " border " ∷ all_joined (a.border_kind ∷ a.border.r ∷ a.border.g ∷ a.border.b ∷ []) ∷ [])

-- the line of a window, with the number of its runs
unfoldable pub window_line : ℕ → ShownWindow → List ℕ
window_line id w = text (
    codes "W" ∷ decimal id ∷ place_text w ∷ attributes_text w.attributes ∷ codes " runs " ∷ decimal (length (window_runs w)) ∷ codes "\n" ∷ [])

-- the attributes of a pen
abbrev pub pen_attributes_text : PenAttr → List ℕ
pen_attributes_text p = all_spaced (p.size ∷ p.font ∷ p.tag ∷ p.offset ∷ flag p.italic ∷ flag p.underline ∷ p.edge ∷ [])

-- its colours
abbrev pub colors_text : PenColors → List ℕ
colors_text c = text (
    codes " " ∷ fill_digits c.fg ∷ codes " " ∷ fill_digits c.bg
    ∷ codes " " ∷ all_joined (c.edge.r ∷ c.edge.g ∷ c.edge.b ∷ []) ∷ codes " " ∷ [])

-- the line of a run: its row and column, its pen and colours, and its characters in UTF-8
unfoldable pub window_run_line : Run DCell → List ℕ
window_run_line run = text (decimal run.row ∷ all_spaced (run.col ∷ []) ∷ pen_attributes_text run.first.pen ∷ colors_text run.first.colors ∷ encode_utf8_all run.text ∷ codes "\n" ∷ [])

-- the text of a window: its line, and its runs' lines
unfoldable pub window_text : ℕ → ShownWindow → List ℕ
window_text id w = window_line id w ++ flat_map window_run_line (window_runs w)

-- the windows of a service that are shown, each with its id, by id
abbrev pub shown_ids : (ℕ → Option ShownWindow) → List (ℕ × ShownWindow)
shown_ids windows = filter_map (λ id. option_map (λ window. (id, window)) (windows id)) (range_with_len 0 8)

-- the text of a service: its name and the number of windows that are shown, and then these by id
unfoldable pub service_text : ℕ → (ℕ → Option ShownWindow) → List ℕ
service_text service windows = text (
    codes "S" ∷ decimal service ∷ codes " " ∷ decimal (length (shown_ids windows)) ∷ codes "\n"
    ∷ flat_map (λ one. window_text one.0 one.1) (shown_ids windows) ∷ [])
