-- Believed in part: the library's answers stand on some of these definitions.
-- What is kept of the windows of services.
use Rattle.std.specs.Prelude.{◌≡◌, ℕ, ◌+◌, ◌<◌, ◌≤◌, Bool, false, if◌then◌else◌, List, [], Option, Some, None, length, slice_get}
use Rattle.std.specs.List.{flat_map, list_any, range_with_len}
use Rattle.dtvcc_windows.specs.Showing.{ShownWindow}
use Rattle.grid_print.specs.declared.kept.Kept.{Kept}
use Rattle.grid_print.specs.GridTexts.{service_differs}
use Rattle.grid_print.specs.Keeping.{windows_seen}
use Rattle.grid_print.specs.WindowTexts.{service_text}

-- what was seen of a service's windows
abbrev pub seen_of : Kept → ℕ → Option ShownWindow
seen_of kept = windows_seen kept.windows.items

-- these windows of a service are kept, and whether they differ from those that were
pub record HasKept (are : ℕ → Option ShownWindow) (was now : Kept) : Type 0 where
  pub seen : (id : ℕ) → id < 8 → seen_of now id ≡ are id
  pub changed : now.changed ≡ service_differs (seen_of was) are

-- what was seen of the windows of a service, if it is there
abbrev pub seen_in : Option Kept → ℕ → Option ShownWindow
seen_in None = λ id. None
seen_in (Some kept) = seen_of kept

-- and whether they changed when they were kept last
abbrev pub changed_in : Option Kept → Bool
changed_in None = false
changed_in (Some kept) = kept.changed

-- both of services in a list, by their places
abbrev pub seen_at : List Kept → ℕ → ℕ → Option ShownWindow
seen_at services place = seen_in (slice_get services place)

abbrev pub changed_at : List Kept → ℕ → Bool
changed_at services place = changed_in (slice_get services place)

-- below a place the windows of the services, which are numbered from 1 on, are kept, and the others are as they were. `changed` says
-- whether the windows of one below differ from what was kept
pub record KeepsServices (are : ℕ → ℕ → Option ShownWindow) (place : ℕ) (was now : List Kept) (changed : Bool) : Type 0 where
  pub count : length now ≡ length was
  pub seen : (i id : ℕ) → i < place → id < 8 → seen_at now i id ≡ are (i + 1) id
  pub each : (i : ℕ) → i < place → changed_at now i ≡ service_differs (seen_at was i) (are (i + 1))
  pub left : (i : ℕ) → place ≤ i → slice_get now i ≡ slice_get was i
  pub some : changed ≡ list_any (λ i. service_differs (seen_at was i) (are (i + 1))) (range_with_len 0 place)

-- the texts of the services whose windows changed when they were kept last, where they are these
unfoldable pub changed_places : List Kept → (ℕ → ℕ → Option ShownWindow) → List ℕ
changed_places kept are =
    flat_map (λ place. if changed_at kept place then service_text (place + 1) (are (place + 1)) else []) (range_with_len 0 63)
