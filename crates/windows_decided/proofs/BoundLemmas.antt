-- The cells of a window stand in some bound, whatever came: of each there is a number that no row and column of a cell bring together.
use Rattle.std.proofs.Common.{◌≡◌, ◌+◌, ◌-◌, ◌≤◌, ◌==◌, ◌&&◌, ◌++◌, ◌∷◌, arith, false, if◌then◌else◌, inl, inr, length, option_map, refl, true, ℕ, Bool, List, [], Option, Some, None}
use Rattle.std.specs.Prelude.{nat_lt}
use Rattle.std.proofs.lemmas.Bool.{and_left, and_right, cases_eq, ne_eqb}
use Rattle.dtvcc_codes.specs.Reading.{completed, open_after}
use Rattle.dtvcc_codes.specs.declared.commands.Command.{Command}
use Rattle.dtvcc_codes.specs.declared.commands.Command.TheVariants.{Put, Etx, Bs, Ff, Cr, Hcr, Cw, Clw, Dsw, Hdw, Tgw, Dlw, Dly, Dlc, Rst, Spa, Spc, Spl, Swa, Df, Skipped}
use Rattle.dtvcc_codes.specs.declared.windows.Definition.{Definition}
use Rattle.dtvcc_screen.specs.Commands.{is_named, on_screen, toggled}
use Rattle.dtvcc_screen.specs.Cores.{CoreState, acted_if, all_acted, arrived, arrived_in, clean, go_on, held_more, is_cancel, is_due, is_reset, released}
use Rattle.dtvcc_screen.specs.Meaning.{Byte, Event, Reset, Served, Tick, on_event, served_after, start, ticked}
use Rattle.dtvcc_screen.specs.Screens.{ScreenState, Windows, on_window}
use Rattle.dtvcc_screen.specs.declared.clock.Clock.{Clock}
use Rattle.dtvcc_windows.specs.Defining.{defined}
use Rattle.dtvcc_windows.specs.Places.{Cells, no_cells, window_rolled, with_window_cell, without_row}
use Rattle.dtvcc_windows.specs.Showing.{ShownWindow, as_shown, shown}
use Rattle.dtvcc_windows.specs.Sizes.{cells_in, in_size}
use Rattle.dtvcc_windows.specs.Text.{carriage_returned, cleared, form_fed, inked, located, row_returned, window_backspaced, with_character}
use Rattle.dtvcc_windows.specs.Windows.{WindowState, with_attributes, with_colors, with_visibility, with_window_pen}
use Rattle.dtvcc_windows.specs.declared.cells.DCell.{DCell}
use Rattle.windows_decided.specs.Decided.{seen_after}

-- no cell's row and column bring so much together
abbrev pub IsBound : ℕ → Cells → Type 0
IsBound n cells = (row col : ℕ) → n ≤ row + col → cells row col ≡ None

abbrev pub HasBound : Cells → Type 0
HasBound cells = (n : ℕ) × IsBound n cells

none_bound : HasBound no_cells
none_bound = (0, λ row col far. refl)

-- one of two cells, where the other is none
none_or : (test : Bool) (cell : Option DCell) → cell ≡ None → (if test then None else cell) ≡ None
none_or true cell none = refl
none_or false cell none = none

or_none : (test : Bool) (cell : Option DCell) → cell ≡ None → (if test then cell else None) ≡ None
or_none true cell none = none
or_none false cell none = refl

pub other_cell : (test : Bool) (cell own : Option DCell) → test ≡ false → own ≡ None → (if test then cell else own) ≡ None
other_cell true cell own is none = cc
other_cell false cell own is none = none

-- a far place isn't this one
elsewhere : (row col r c : ℕ) → row + col + 1 ≤ r + c → (r == row && c == col) ≡ false
elsewhere row col r c far = elim (cases_eq r row) [
  | inr other ↦ and_left (r == row) (c == col) (ne_eqb r row other)
  | inl same ↦ and_right (r == row) (c == col) (ne_eqb c col (λ also. omega (arith, far, same, also)))
]

cell_bound : (cells : Cells) (row col : ℕ) (cell : Option DCell) → HasBound cells → HasBound (with_window_cell cells row col cell)
cell_bound cells row col cell (n, past) = (
  n + row + col + 1,
  λ r c far. other_cell (r == row && c == col) cell (cells r c) (elsewhere row col r c (omega (arith, far))) (past r c (omega (arith, far))),
)

row_bound : (cells : Cells) (row : ℕ) → HasBound cells → HasBound (without_row cells row)
row_bound cells row (n, past) = (n, λ r c far. none_or (r == row) (cells r c) (past r c far))

rolled_bound : (rows : ℕ) (cells : Cells) → HasBound cells → HasBound (window_rolled rows cells)
rolled_bound rows cells (n, past) = (n, λ r c far. or_none (nat_lt (r + 1) rows) (cells (r + 1) c) (past (r + 1) c (omega (arith, far))))

in_bound : (rows cols : ℕ) (cells : Cells) → HasBound cells → HasBound (cells_in rows cols cells)
in_bound rows cols cells (n, past) = (n, λ r c far. or_none (in_size rows cols r c) (cells r c) (past r c far))

-- windows
abbrev IsBounded : Option WindowState → Type 0
IsBounded None = Unit {0}
IsBounded (Some w) = HasBound w.cells

abbrev Keeps : (WindowState → WindowState) → Type 0
Keeps edit = (w : WindowState) → HasBound w.cells → HasBound (edit w).cells

chosen : (test : Bool) (w v : WindowState) → HasBound w.cells → HasBound v.cells → HasBound (if test then w else v).cells
chosen true w v one other = one
chosen false w v one other = other

character_keeps : (ch : Option ℕ) → Keeps (with_character ch)
character_keeps ch w had =
    chosen (w.col == w.definition.cols) w (record w { cells = with_window_cell w.cells w.row w.col (inked ch w); col = w.col + 1 }) had
    (cell_bound w.cells w.row w.col (inked ch w) had)

backspace_keeps : Keeps window_backspaced
backspace_keeps w had =
    chosen (w.col == 0) w (record w { cells = with_window_cell w.cells w.row (w.col - 1) None; col = w.col - 1 }) had (cell_bound w.cells w.row (w.col - 1) None had)

return_keeps : Keeps carriage_returned
return_keeps w had =
    chosen (w.row + 1 == w.definition.rows) (record w { cells = window_rolled w.definition.rows w.cells; col = 0 }) (record w { row = w.row + 1; col = 0 })
    (rolled_bound w.definition.rows w.cells had) had

defined_bound : (d : Definition) (window : Option WindowState) → IsBounded window → HasBound (defined d window).cells
defined_bound d None had = none_bound
defined_bound d (Some w) had =
    in_bound d.rows d.cols (cells_in w.definition.rows w.definition.cols w.cells) (in_bound w.definition.rows w.definition.cols w.cells had)

-- screens
abbrev AllBounded : Windows → Type 0
AllBounded windows = (id : ℕ) → IsBounded (windows id)

either : (test : Bool) (a b : Option WindowState) → IsBounded a → IsBounded b → IsBounded (if test then a else b)
either true a b one other = one
either false a b one other = other

mapped : (edit : WindowState → WindowState) → Keeps edit → (window : Option WindowState) → IsBounded window → IsBounded (option_map edit window)
mapped edit keeps None had = tt
mapped edit keeps (Some w) had = keeps w had

named_bound : (bits : ℕ) (edit : WindowState → WindowState) (windows : Windows) → Keeps edit → AllBounded windows
    → (id : ℕ) → IsBounded (if is_named bits id then option_map edit (windows id) else windows id)
named_bound bits edit windows keeps all id =
    either (is_named bits id) (option_map edit (windows id)) (windows id) (mapped edit keeps (windows id) (all id)) (all id)

current_bound : (current : Option ℕ) (edit : WindowState → WindowState) (windows : Windows) → Keeps edit → AllBounded windows → AllBounded (on_window current edit windows)
current_bound None edit windows keeps all i = all i
current_bound (Some id) edit windows keeps all i = either (i == id) (option_map edit (windows id)) (windows i) (mapped edit keeps (windows id) (all id)) (all i)

screen_bound : (command : Command) (s : ScreenState) → AllBounded s.windows → AllBounded (on_screen command s).windows
screen_bound (Df d) s all = λ i. either (i == d.id) (Some (defined d (s.windows d.id))) (s.windows i) (defined_bound d (s.windows d.id) (all d.id)) (all i)
screen_bound (Cw id) s all = all
screen_bound (Clw bits) s all = named_bound bits cleared s.windows (λ w had. none_bound) all
screen_bound (Dsw bits) s all = named_bound bits (with_visibility true) s.windows (λ w had. had) all
screen_bound (Hdw bits) s all = named_bound bits (with_visibility false) s.windows (λ w had. had) all
screen_bound (Tgw bits) s all = named_bound bits toggled s.windows (λ w had. had) all
screen_bound (Dlw bits) s all = λ i. either (is_named bits i) None (s.windows i) tt (all i)
screen_bound (Put ch) s all = current_bound s.current (with_character ch) s.windows (character_keeps ch) all
screen_bound Bs s all = current_bound s.current window_backspaced s.windows backspace_keeps all
screen_bound Ff s all = current_bound s.current form_fed s.windows (λ w had. none_bound) all
screen_bound Cr s all = current_bound s.current carriage_returned s.windows return_keeps all
screen_bound Hcr s all = current_bound s.current row_returned s.windows (λ w had. row_bound w.cells w.row had) all
screen_bound (Spa pen) s all = current_bound s.current (with_window_pen pen) s.windows (λ w had. had) all
screen_bound (Spc colors) s all = current_bound s.current (with_colors colors) s.windows (λ w had. had) all
screen_bound (Spl row col) s all = current_bound s.current (located row col) s.windows (λ w had. had) all
screen_bound (Swa attributes) s all = current_bound s.current (with_attributes attributes) s.windows (λ w had. had) all
screen_bound (Dly tenths) s all = all
screen_bound Dlc s all = all
screen_bound Rst s all = all
screen_bound Etx s all = all
screen_bound Skipped s all = all

-- services
abbrev OfCore : CoreState → Type 0
OfCore core = AllBounded core.screen.windows

core_either : (test : Bool) (a b : CoreState) → OfCore a → OfCore b → OfCore (if test then a else b)
core_either true a b one other = one
core_either false a b one other = other

acted_bound : (command : Option Command) (clock : Clock) (core : CoreState) → OfCore core → OfCore (acted_if command clock core)
acted_bound None clock core had = had
acted_bound (Some command) clock core had = screen_bound command core.screen had

go_bound : (until : Option ℕ) (rest : List (Option Command)) (core all : CoreState) → OfCore core → OfCore all → OfCore (go_on until rest core all)
go_bound None rest core all had more = more
go_bound (Some end) rest core all had more = had

all_acted_bound : (held : List (Option Command)) (clock : Clock) (core : CoreState) → OfCore core → OfCore (all_acted held clock core)
all_acted_bound [] clock core had = had
all_acted_bound (first ∷ rest) clock core had =
    let next = acted_if first clock core in
    let now = acted_bound first clock core had in
    go_bound next.until rest next (all_acted rest clock next) now (all_acted_bound rest clock next now)

released_bound : (clock : Clock) (core : CoreState) → OfCore core → OfCore (released clock core)
released_bound clock core had = all_acted_bound core.held clock (record core { until = None; held = [] }) had

held_bound : (completion : Option Command) (clock : Clock) (core : CoreState) → OfCore core → OfCore (held_more completion clock core)
held_bound completion clock core had =
    let next = record core { held = core.held ++ completion ∷ [] } in
    core_either (length next.held == 128) (released clock next) next (released_bound clock next had) had

arrived_in_bound : (until : Option ℕ) (completion : Option Command) (clock : Clock) (core : CoreState) → OfCore core → OfCore (arrived_in until completion clock core)
arrived_in_bound None completion clock core had = acted_bound completion clock core had
arrived_in_bound (Some end) completion clock core had =
    core_either (is_cancel completion) (released clock core) (held_more completion clock core) (released_bound clock core had) (held_bound completion clock core had)

clean_bound : OfCore clean
clean_bound id = tt

arrived_bound : (completion : Option Command) (clock : Clock) (core : CoreState) → OfCore core → OfCore (arrived completion clock core)
arrived_bound completion clock core had =
    core_either (is_reset completion) clean (arrived_in core.until completion clock core) clean_bound (arrived_in_bound core.until completion clock core had)

event_bound : (event : Event) (s : Served) → OfCore s.core → OfCore (on_event event s).core
event_bound (Tick rate) s had =
    let clock = ticked rate s.clock in
    core_either (is_due s.core.until clock.ticks) (released clock s.core) s.core (released_bound clock s.core had) had
event_bound (Byte byte) s had =
    arrived_bound (completed s.core.open_bytes byte) s.clock (record s.core { open_bytes = open_after s.core.open_bytes byte }) had
event_bound Reset s had = clean_bound

served_bound : (events : List Event) (s : Served) → OfCore s.core → OfCore (served_after s events).core
served_bound [] s had = had
served_bound (event ∷ events) s had = served_bound events (on_event event s) (event_bound event s had)

-- what is seen
abbrev pub IsSeenBounded : Option ShownWindow → Type 0
IsSeenBounded None = Unit {0}
IsSeenBounded (Some a) = HasBound a.cells

seen_bound : (visible : Bool) (w : WindowState) → HasBound w.cells → IsSeenBounded (if visible then Some (as_shown w) else None)
seen_bound true w had = had
seen_bound false w had = tt

shown_bound : (window : Option WindowState) → IsBounded window → IsSeenBounded (shown window)
shown_bound None had = tt
shown_bound (Some w) had = seen_bound w.visible w had

pub events_bound : (events : List Event) (id : ℕ) → IsSeenBounded (seen_after events id)
events_bound events id = shown_bound ((served_after start events).core.screen.windows id) (served_bound events start clean_bound id)
