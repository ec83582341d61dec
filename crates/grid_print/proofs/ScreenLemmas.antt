-- The text of screens of its parts.
use Rattle.std.proofs.Common.{◌≡◌, ◌≢◌, ◌<◌, ◌+◌, ◌-◌, ◌++◌, ◌==◌, ◌||◌, ◌∙◌, not, if◌then◌else◌, ℕ, Bool, true, false, List, [], ◌∷◌, Option, length, refl, subst, sym, take, ap, append_assoc, append-nil, arith}
use Rattle.std.proofs.Math.Path.{fun_ext}
use Rattle.std.proofs.lemmas.Bool.{true≢false}
use Rattle.std.proofs.lemmas.Bool.Decides.{nat_tests}
use Rattle.std.proofs.lemmas.List.{take-append-le, take_all}
use Rattle.std.specs.List.{flat_map, list_any}
use Rattle.cc_receiver.specs.ReceivedServices.{received_windows}
use Rattle.cc_receiver.specs.ReceiverGrids.{ShowsWindows, TurnedWindows}
use Rattle.cc_receiver.specs.Receivers.{displayed_grid}
use Rattle.cc_receiver.specs.declared.receiver.Receiver.{Receiver}
use Rattle.cc_receiver.proofs.ReceivedLemmas.{shown_received}
use Rattle.cdp_packets.specs.Packets.{Frame}
use Rattle.dtvcc_windows.specs.Showing.{ShownWindow}
use Rattle.line21_codes.specs.declared.channels.Chan.{Chan}
use Rattle.line21_codes.specs.declared.channels.Chan.TheVariants.{Cc1, Cc2, Cc3, Cc4}
use Rattle.line21_screen.specs.Differences.{grid_differs}
use Rattle.line21_screen.specs.Grid.{Grid}
use Rattle.line21_screen.proofs.DifferenceLemmas.{differs-itself as grid_differs-itself}
use Rattle.grid_print.specs.Differences.{differs as window_differs}
use Rattle.grid_print.specs.WindowTexts.{service_text, shown_ids}
use Rattle.grid_print.proofs.DifferenceLemmas.{differs-itself}
use Rattle.words_files.specs.Received.{received_grids}
use Rattle.grid_print.specs.declared.kept.Kept.{Kept}
use Rattle.grid_print.specs.GridTexts.{all_services, all_text, changes_text, channel_texts, channels, frame_line, grid_text, screens_differ, service_differs, service_texts}
use Rattle.grid_print.specs.Kept.{KeepsServices, changed_at, changed_places, seen_at}
use Rattle.grid_print.specs.Runs.{runs}
use Rattle.grid_print.specs.Screens.{HaveSameWindows, IsBehind, LookAlike, Screens}
use Rattle.grid_print.proofs.NumberLemmas.{any_none, any_same, any_shift, texts_same, texts_shift}

-- whether the grid of some channel differs, and whether the windows of some service do
abbrev pub channels_differ : (Chan → Grid) → (Chan → Grid) → Bool
channels_differ old new = list_any (λ chan. grid_differs (old chan) (new chan)) channels

abbrev pub services_differ : (ℕ → ℕ → Option ShownWindow) → (ℕ → ℕ → Option ShownWindow) → Bool
services_differ old new = list_any (λ service. service_differs (old service) (new service)) all_services

-- the texts of the channels and of the services that changed
abbrev pub changed_channels : (Chan → Grid) → (Chan → Grid) → List ℕ
changed_channels old new = channel_texts (λ chan. grid_differs (old chan) (new chan)) new

abbrev pub changed_services : (ℕ → ℕ → Option ShownWindow) → (ℕ → ℕ → Option ShownWindow) → List ℕ
changed_services old new = service_texts (λ service. service_differs (old service) (new service)) new

abbrev changed_service : (ℕ → ℕ → Option ShownWindow) → (ℕ → ℕ → Option ShownWindow) → ℕ → List ℕ
changed_service old new service = if service_differs (old service) (new service) then service_text service (new service) else []

-- the text of a channel that has a run, and that of a service of which a window is shown
abbrev pub shown_channel : (Chan → Grid) → Chan → List ℕ
shown_channel grids chan = if not (length (runs (grids chan)) == 0) then grid_text chan (grids chan) else []

abbrev pub shown_service : (ℕ → ℕ → Option ShownWindow) → ℕ → List ℕ
shown_service windows service = if not (length (shown_ids (windows service)) == 0) then service_text service (windows service) else []

-- a channel that has a run, and one that has none
pub some_runs : (chan : Chan) (grid : Grid) (count : ℕ) → count ≡ length (runs grid) → count ≢ 0
    → grid_text chan grid ≡ (if not (length (runs grid) == 0) then grid_text chan grid else [])
some_runs chan grid count is some =
    let no : length (runs grid) == 0 ≡ false = grind (arith, nat_tests) in
    sym (rw no refl)

pub no_runs : (chan : Chan) (grid : Grid) (count : ℕ) → count ≡ length (runs grid) → count ≡ 0 → [] ≡ (if not (length (runs grid) == 0) then grid_text chan grid else [])
no_runs chan grid count is none =
    let zero : length (runs grid) == 0 ≡ true = grind (arith, nat_tests) in
    sym (rw zero refl)

-- a service of which a window is shown, and one of which none is
pub some_shown : (windows : ℕ → ℕ → Option ShownWindow) (service count : ℕ) → count ≡ length (shown_ids (windows service)) → count ≢ 0
    → service_text service (windows service) ≡ shown_service windows service
some_shown windows service count is some =
    let no : length (shown_ids (windows service)) == 0 ≡ false = grind (arith, nat_tests) in
    sym (rw no refl)

pub none_shown : (windows : ℕ → ℕ → Option ShownWindow) (service count : ℕ) → count ≡ length (shown_ids (windows service)) → count ≡ 0
    → [] ≡ shown_service windows service
none_shown windows service count is none =
    let zero : length (shown_ids (windows service)) == 0 ≡ true = grind (arith, nat_tests) in
    sym (rw zero refl)

-- a text where a test holds, and none where it doesn't
pub text_if : (test : Bool) (t : List ℕ) → test ≡ true → t ≡ (if test then t else [])
text_if true t is = refl
text_if false t is = absurd (true≢false (sym is))

pub none_if : (test : Bool) (t : List ℕ) → test ≡ false → [] ≡ (if test then t else [])
none_if true t is = absurd (true≢false is)
none_if false t is = refl

-- where nothing passes a test there is no text
quiet_next : {A : Type 0} (test : A → Bool) (f : A → List ℕ) (x : A) (xs : List A) (b : Bool) → test x ≡ b → (b || list_any test xs) ≡ false
    → flat_map (λ x. if test x then f x else []) xs ≡ [] → flat_map (λ x. if test x then f x else []) (x ∷ xs) ≡ []
quiet_next test f x xs true is none rest = absurd (true≢false none)
quiet_next test f x xs false is none rest = rw is rest

quiet_behind : (b rest : Bool) → (b || rest) ≡ false → rest ≡ false
quiet_behind true rest none = absurd (true≢false none)
quiet_behind false rest none = none

quiet : {A : Type 0} (test : A → Bool) (f : A → List ℕ) (xs : List A) → list_any test xs ≡ false → flat_map (λ x. if test x then f x else []) xs ≡ []
quiet test f [] none = refl
quiet test f (x ∷ xs) none = quiet_next test f x xs (test x) refl none (quiet test f xs (quiet_behind (test x) (list_any test xs) none))

-- what a receiver shows on its channels
pub grids_behind : (frames : List Frame) (receiver : Receiver) → IsBehind frames receiver → displayed_grid receiver ≡ received_grids frames
grids_behind frames receiver behind = fun_ext (λ chan. shown_received frames behind.bytes receiver chan behind.received behind.frames_are)

-- and what is seen of its windows
pub windows_behind : (frames : List Frame) (receiver : Receiver) → IsBehind frames receiver → ShowsWindows receiver (received_windows frames)
windows_behind frames receiver behind = record { bytes = behind.bytes; frames = frames; received = behind.received; frames_are = behind.frames_are; seen_are = refl }

-- and how its last frame turned this
pub turned_behind : (earlier : List Frame) (last : Frame) (receiver : Receiver) → IsBehind (earlier ++ last ∷ []) receiver
    → TurnedWindows receiver (received_windows earlier) (received_windows (earlier ++ last ∷ []))
turned_behind earlier last receiver behind =
    record { bytes = behind.bytes; earlier = earlier; last = last; received = behind.received; frames_are = behind.frames_are; was_are = refl; seen_are = refl }

-- a service of which the same is seen doesn't differ
pub same_service : (old new : ℕ → Option ShownWindow) → ((id : ℕ) → id < 8 → old id ≡ new id) → service_differs old new ≡ false
unfolding service_differs
same_service old new same =
    any_same (λ id. window_differs (old id) (new id)) (λ id. false) 0 8
    (λ id from to. ap (λ o. window_differs o (new id)) (same id (omega (arith, to))) ∙ differs-itself (new id)) ∙ any_none 0 8

pub same_services : (old new : ℕ → ℕ → Option ShownWindow) → HaveSameWindows old new
    → false ≡ services_differ old new
same_services old new same =
    sym (any_same (λ service. service_differs (old service) (new service)) (λ service. false) 1 63
    (λ service from to. same_service (old service) (new service) (λ id small. same service id (record { from = from; to = omega (arith, to) }) small)) ∙ any_none 1 63)

-- the services of a list by their numbers
abbrev numbered : List Kept → ℕ → ℕ → Option ShownWindow
numbered kept service = seen_at kept (service - 1)

number_at : (kept : List Kept) (place : ℕ) → numbered kept (place + 1) ≡ seen_at kept place
number_at kept place = let back : place + 1 - 1 ≡ place = omega arith in ap (seen_at kept) back

pub kept_some : (are : ℕ → ℕ → Option ShownWindow) (was now : List Kept) (told : Bool) → KeepsServices are 63 was now told
    → told ≡ services_differ (λ service. seen_at was (service - 1)) are
kept_some are was now told keeps =
    keeps.some
    ∙ any_same (λ i. service_differs (seen_at was i) (are (i + 1))) (λ i. service_differs (numbered was (i + 1)) (are (i + 1))) 0 63
    (λ i from to. ap (λ s. service_differs s (are (i + 1))) (sym (number_at was i)))
    ∙ any_shift (λ service. service_differs (numbered was service) (are service)) 0 63

pub kept_now : (are : ℕ → ℕ → Option ShownWindow) (was now : List Kept) (told : Bool) → KeepsServices are 63 was now told
    → HaveSameWindows (λ service. seen_at now (service - 1)) are
kept_now are was now told keeps service id is small =
    let from = is.from in
    let to = is.to in
    let back : service - 1 + 1 ≡ service = omega (arith, from) in
    keeps.seen (service - 1) id (omega (arith, from, to)) small ∙ ap (λ n. are n id) back

-- what a borrowed slice became, as long as it was, is what its vector becomes
pub taken_back : (are : ℕ → ℕ → Option ShownWindow) (given was now rest : List Kept) (count : ℕ) (told : Bool) → given ≡ was → length was ≡ count
    → KeepsServices are 63 given now told → KeepsServices are 63 was (take count (now ++ rest)) told
taken_back are given was now rest count told same counted keeps =
    let long : length now ≡ count = keeps.count ∙ ap (λ (l : List Kept). length l) same ∙ counted in
    subst (λ l. KeepsServices are 63 l (take count (now ++ rest)) told) same
    (subst (λ l. KeepsServices are 63 given l told) (sym (take-append-le count now rest (omega (arith, long)) ∙ take_all count now (omega (arith, long)))) keeps)

-- the texts of the services that changed
pub changed_texts : (are : ℕ → ℕ → Option ShownWindow) (was now : List Kept) (one : Bool)
    → one ≡ services_differ (λ service. seen_at was (service - 1)) are
    → (one ≡ true → (place : ℕ) → place < 63 → changed_at now place ≡ service_differs (seen_at was place) (are (place + 1)))
    → (if one then changed_places now are else []) ≡ changed_services (λ service. seen_at was (service - 1)) are
unfolding service_texts changed_places
changed_texts are was now true some each =
    texts_same (λ place. if changed_at now place then service_text (place + 1) (are (place + 1)) else []) (λ place. changed_service (numbered was) are (place + 1)) 0 63
    (λ place from to. ap (λ (b : Bool). if b then service_text (place + 1) (are (place + 1)) else [])
    (each refl place (omega (arith, to)) ∙ ap (λ s. service_differs s (are (place + 1))) (sym (number_at was place))))
    ∙ texts_shift (changed_service (numbered was) are) 0 63
changed_texts are was now false some each =
    sym (quiet (λ service. service_differs (numbered was service) (are service)) (λ service. service_text service (are service)) all_services (sym some))

-- the text of what changed, of its parts
pub changes_joined : (frame : ℕ) (old new : Screens) (one other : Bool) (texts : List ℕ)
    → one ≡ channels_differ old.grids new.grids → other ≡ services_differ old.windows new.windows
    → (one || other) ≡ true → texts ≡ changed_services old.windows new.windows
    → frame_line frame ++ changed_channels old.grids new.grids ++ texts ≡ changes_text frame old new
unfolding changes_text
changes_joined frame old new one other texts is_one is_other some are =
    ap (λ t. frame_line frame ++ changed_channels old.grids new.grids ++ t) are
    ∙ text_if (channels_differ old.grids new.grids || services_differ old.windows new.windows)
    (frame_line frame ++ changed_channels old.grids new.grids ++ changed_services old.windows new.windows)
    (ap (λ b. b || services_differ old.windows new.windows) (sym is_one) ∙ ap (λ b. one || b) (sym is_other) ∙ some)

pub nothing_changed : (frame : ℕ) (old new : Screens) (one other : Bool)
    → one ≡ channels_differ old.grids new.grids → other ≡ services_differ old.windows new.windows
    → (one || other) ≡ false → [] ≡ changes_text frame old new
unfolding changes_text
nothing_changed frame old new one other is_one is_other none =
    none_if (channels_differ old.grids new.grids || services_differ old.windows new.windows)
    (frame_line frame ++ changed_channels old.grids new.grids ++ changed_services old.windows new.windows)
    (ap (λ b. b || services_differ old.windows new.windows) (sym is_one) ∙ ap (λ b. one || b) (sym is_other) ∙ none)

-- neither holds where not one of them does
pub neither : (one other : Bool) → (one || other) ≡ false → (one ≡ false) × (other ≡ false)
neither true other none = absurd (true≢false none)
neither false other none = (refl, none)

-- of four tests one passes
any_of_four : (a b c d : Bool) → (((a || b) || c) || d) ≡ (a || (b || (c || (d || false))))
any_of_four true b c d = refl
any_of_four false true c d = refl
any_of_four false false true d = refl
any_of_four false false false true = refl
any_of_four false false false false = refl

-- some channel changes just where one of the four tests says so
pub changes_told : (old new : Chan → Grid) (one two three four : Bool) → one ≡ grid_differs (old Cc1) (new Cc1) → two ≡ grid_differs (old Cc2) (new Cc2)
    → three ≡ grid_differs (old Cc3) (new Cc3) → four ≡ grid_differs (old Cc4) (new Cc4) → (((one || two) || three) || four) ≡ channels_differ old new
changes_told old new one two three four is_one is_two is_three is_four =
    rw (is_one, is_two, is_three, is_four) (any_of_four (grid_differs (old Cc1) (new Cc1)) (grid_differs (old Cc2) (new Cc2)) (grid_differs (old Cc3) (new Cc3)) (grid_differs (old Cc4) (new Cc4)))

-- the text of all screens, of its parts
pub all_joined : (frame : ℕ) (screens : Screens)
    → frame_line frame ++ shown_channel screens.grids Cc1 ++ shown_channel screens.grids Cc2 ++ shown_channel screens.grids Cc3 ++ shown_channel screens.grids Cc4
    ++ service_texts (λ service. not (length (shown_ids (screens.windows service)) == 0)) screens.windows ≡ all_text frame screens
unfolding all_text channel_texts
all_joined frame screens = simp (append_assoc, append-nil)

-- the text of a channel that shows this grid
pub grid_shown : (chan : Chan) (grid : Grid) (screens : Chan → Grid) → grid ≡ screens chan
    → (if not (length (runs grid) == 0) then grid_text chan grid else []) ≡ shown_channel screens chan
grid_shown chan grid screens is = ap (λ g. if not (length (runs g) == 0) then grid_text chan g else []) is

-- screens that look alike change alike
same_differs : (a b new : ℕ → Option ShownWindow) → ((id : ℕ) → id < 8 → a id ≡ b id) → service_differs a new ≡ service_differs b new
unfolding service_differs
same_differs a b new same =
    any_same (λ id. window_differs (a id) (new id)) (λ id. window_differs (b id) (new id)) 0 8
    (λ id from to. ap (λ o. window_differs o (new id)) (same id (omega (arith, to))))

services_alike : (a b new : ℕ → ℕ → Option ShownWindow) → HaveSameWindows a b → services_differ a new ≡ services_differ b new
services_alike a b new same =
    any_same (λ service. service_differs (a service) (new service)) (λ service. service_differs (b service) (new service)) 1 63
    (λ service from to. same_differs (a service) (b service) (new service) (λ id small. same service id (record { from = from; to = omega (arith, to) }) small))

texts_alike : (a b new : ℕ → ℕ → Option ShownWindow) → HaveSameWindows a b → changed_services a new ≡ changed_services b new
unfolding service_texts
texts_alike a b new same =
    texts_same (changed_service a new) (changed_service b new) 1 63
    (λ service from to. ap (λ t. if t then service_text service (new service) else [])
    (same_differs (a service) (b service) (new service) (λ id small. same service id (record { from = from; to = omega (arith, to) }) small)))

pub changes_alike : (frame : ℕ) (a b new : Screens) → LookAlike a b → changes_text frame a new ≡ changes_text frame b new
unfolding changes_text
changes_alike frame a b new alike = rw (alike.grids, services_alike a.windows b.windows new.windows alike.windows, texts_alike a.windows b.windows new.windows alike.windows) refl

pub differ_alike : (a b new : Screens) → LookAlike a b → screens_differ a new ≡ screens_differ b new
differ_alike a b new alike = rw (alike.grids, services_alike a.windows b.windows new.windows alike.windows) refl

-- and don't change
no_channel_differs : (grids : Chan → Grid) → false ≡ channels_differ grids grids
no_channel_differs grids =
    sym (rw (grid_differs-itself (grids Cc1), grid_differs-itself (grids Cc2), grid_differs-itself (grids Cc3), grid_differs-itself (grids Cc4)) refl)

pub no_changes : (frame : ℕ) (a b : Screens) → LookAlike a b → changes_text frame a b ≡ []
no_changes frame a b alike =
    sym (nothing_changed frame a b false false (no_channel_differs a.grids ∙ ap (channels_differ a.grids) alike.grids) (same_services a.windows b.windows alike.windows) refl)
