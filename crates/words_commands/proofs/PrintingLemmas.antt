-- The text of frames, one frame after another.
use Rattle.std.proofs.Common.{◌≡◌, ◌≢◌, ◌∙◌, ◌++◌, ◌≤◌, None, ap, append_assoc, append-nil, arith, false, length, length-append, nat_lt, inl, inr, refl, suc, subst, sym, true, ℕ, List, [], ◌∷◌, Option}
use Rattle.std.proofs.lemmas.Bool.{cases_lt}
use Rattle.std.proofs.lemmas.Bool.Decides.{nat_tests}
use Rattle.std.proofs.lemmas.List.{take-append-le, take_all}
use Rattle.std.proofs.KnownBytes.{Appends-trans}
use Rattle.cc_base.specs.Streams.{Puts}
use Rattle.cc_base.specs.declared.streams.Put.{Put}
use Rattle.cc_base.specs.declared.streams.Put.TheVariants as put
use Rattle.cc_base.proofs.Puts.{puts_then}
use Rattle.cdp_packets.specs.Packets.{Frame}
use Rattle.std.proofs.Math.Path.{fun_ext}
use Rattle.line21_codes.specs.declared.channels.Chan.{Chan}
use Rattle.line21_codes.specs.declared.channels.Chan.TheVariants.{Cc1, Cc2, Cc3, Cc4}
use Rattle.line21_screen.specs.Meaning.{after}
use Rattle.line21_screen.specs.Grid.{empty_grid}
use Rattle.text_output.specs.Gathered.{GathersText, IsGathered, answer_of, held_of}
use Rattle.text_output.specs.Pages.{Page, Writes}
use Rattle.text_output.proofs.PageLemmas.{begun_written}
use Rattle.words_reading.specs.ReceivedServices.{received_windows}
use Rattle.grid_print.specs.GridTexts.{all_text, changes_text}
use Rattle.grid_print.specs.Screens.{LookAlike, Screens, received_screens}
use Rattle.grid_print.proofs.ScreenLemmas.{changes_alike, no_changes}
use Rattle.words_commands.specs.Screens.{next_changes, show_output, texts_behind}
use Rattle.words_files.specs.Received.{received_grids}

-- the texts of frames after others, with one frame more
texts-snoc : (text_of : List Frame → Frame → List ℕ) (before frames : List Frame) (next : Frame)
    → texts_behind text_of before (frames ++ next ∷ []) ≡ texts_behind text_of before frames ++ text_of (before ++ frames) next
texts-snoc text_of before [] next = append-nil (text_of before next) ∙ ap (λ behind. text_of behind next) (sym (append-nil before))
texts-snoc text_of before (frame ∷ frames) next =
    let first = text_of before frame in
    ap (λ rest. first ++ rest) (texts-snoc text_of (before ++ frame ∷ []) frames next)
    ∙ sym (append_assoc first (texts_behind text_of (before ++ frame ∷ []) frames) (text_of ((before ++ frame ∷ []) ++ frames) next))
    ∙ ap (λ behind. (first ++ texts_behind text_of (before ++ frame ∷ []) frames) ++ text_of behind next) (append_assoc before (frame ∷ []) frames)

-- the texts of frames, with one frame more
pub texts_more : (text_of : List Frame → Frame → List ℕ) (frames : List Frame) (next : Frame)
    → texts_behind text_of [] (frames ++ next ∷ []) ≡ texts_behind text_of [] frames ++ text_of frames next
texts_more text_of frames next = texts-snoc text_of [] frames next

-- of frames before the wanted one nothing is shown
pub show_before : (frame : ℕ) (frames : List Frame) → length frames ≤ frame → show_output frame frames ≡ []
show_before frame frames few =
    let no : nat_lt frame (length frames) ≡ false = grind (arith, nat_tests) in
    rw no refl

-- the wanted frame is shown when it comes
pub show_at : (frame : ℕ) (frames : List Frame) (next : Frame) → frame ≡ length frames
    → show_output frame (frames ++ next ∷ []) ≡ all_text frame (received_screens (frames ++ next ∷ []))
show_at frame frames next is =
    let size = length-append frames (next ∷ []) in
    let yes : nat_lt frame (length (frames ++ next ∷ [])) ≡ true = grind (arith, nat_tests) in
    rw (yes, take_all (suc frame) (frames ++ next ∷ []) (omega arith)) refl

-- and no other is
pub show_other : (frame : ℕ) (frames : List Frame) (next : Frame) → frame ≢ length frames
    → show_output frame (frames ++ next ∷ []) ≡ show_output frame frames
show_other frame frames next other =
    let size = length-append frames (next ∷ []) in
    elim (cases_lt frame (length frames)) [
      | inl met ↦
          let yes : nat_lt frame (length (frames ++ next ∷ [])) ≡ true = grind (arith, nat_tests) in
          let was : nat_lt frame (length frames) ≡ true = grind (arith, nat_tests) in
          rw (yes, was, take-append-le (suc frame) frames (next ∷ []) (omega arith)) refl
      | inr unmet ↦ show_before frame (frames ++ next ∷ []) (omega arith) ∙ sym (show_before frame frames unmet)
    ]

-- two lists that come to none are none
both_nil : (front behind : List ℕ) → front ++ behind ≡ [] → (front ≡ []) × (behind ≡ [])
both_nil [] behind is = (refl, is)
both_nil (byte ∷ front) behind is = cc

-- a text was put at once, after a text of which nothing is held
pub put_at_once : (a b c : Option (List ℕ)) (r : Put) (held text all : List ℕ) → IsGathered a b held all → all ≡ [] → Puts b c r text → GathersText a c held text r
put_at_once a b c put.Done held text all way none next =
    let (sent_none, held_none) = both_nil way.sent held (way.whole ∙ none) in
    record {
      sent = way.sent ++ text;
      appended = Appends-trans a b c way.sent text way.appended next;
      whole = ap (λ l. (way.sent ++ text) ++ l) held_none ∙ append-nil (way.sent ++ text) ∙ ap (λ l. l ++ text) sent_none;
    }
put_at_once a b c put.Failed held text all way none next =
    let (sent_none, held_none) = both_nil way.sent held (way.whole ∙ none) in
    subst (λ l. Puts a c put.Failed (l ++ text)) sent_none (puts_then a b c put.Failed way.sent text way.appended next)

-- the same where the text was nothing, and so was the next
pub gathered_still : (a b : Option (List ℕ)) (held all more : List ℕ) → IsGathered a b held all → more ≡ all → GathersText a b held more put.Done
gathered_still a b held all more way same = record { sent = way.sent; appended = way.appended; whole = way.whole ∙ sym same }

-- the changes of a frame more were written
pub changes_gathered : (start : Option (List ℕ)) (old new : Page) (r : Put) (frames : List Frame) (next : Frame) (frame : ℕ) (last : Screens)
    → IsGathered start old.written (held_of old.text) (texts_behind next_changes [] frames) → answer_of old.text ≡ put.Done
    → Writes old new (changes_text frame last (received_screens (frames ++ next ∷ []))) → r ≡ answer_of new.text
    → LookAlike last (received_screens frames) → frame ≡ length frames
    → GathersText start new.written (held_of new.text) (texts_behind next_changes [] (frames ++ next ∷ [])) r
changes_gathered start old new r frames next frame last way done writes answered alike number =
    let changed : changes_text frame last (received_screens (frames ++ next ∷ [])) ≡ next_changes frames next =
    changes_alike frame last (received_screens frames) (received_screens (frames ++ next ∷ [])) alike
    ∙ ap (λ n. changes_text n (received_screens frames) (received_screens (frames ++ next ∷ []))) number in
    let more : texts_behind next_changes [] frames ++ changes_text frame last (received_screens (frames ++ next ∷ [])) ≡ texts_behind next_changes [] (frames ++ next ∷ []) =
    ap (λ l. texts_behind next_changes [] frames ++ l) changed ∙ sym (texts_more next_changes frames next) in
    subst (λ a. GathersText start new.written (held_of new.text) (texts_behind next_changes [] (frames ++ next ∷ [])) a) (sym answered)
    (subst (λ l. GathersText start new.written (held_of new.text) l (answer_of new.text)) more
    (writes start old.faults (texts_behind next_changes [] frames) (begun_written start (texts_behind next_changes [] frames) old done way)).bytes)

-- what looks like screens that look like others looks like these
pub alike_after : (a b c : Screens) → LookAlike a b → LookAlike b c → LookAlike a c
alike_after a b c first next = record {
  grids = first.grids ∙ next.grids;
  windows = λ service id is small. first.windows service id is small ∙ next.windows service id is small;
}

-- a frame that leaves the screens as they were has no changes
pub idle_gathered : (a b : Option (List ℕ)) (held : List ℕ) (frames : List Frame) (next : Frame)
    → LookAlike (received_screens frames) (received_screens (frames ++ next ∷ [])) → IsGathered a b held (texts_behind next_changes [] frames)
    → GathersText a b held (texts_behind next_changes [] (frames ++ next ∷ [])) put.Done
idle_gathered a b held frames next same way =
    let none : next_changes frames next ≡ [] = no_changes (length frames) (received_screens frames) (received_screens (frames ++ next ∷ [])) same in
    gathered_still a b held (texts_behind next_changes [] frames) (texts_behind next_changes [] (frames ++ next ∷ [])) way
    (texts_more next_changes frames next ∙ ap (λ l. texts_behind next_changes [] frames ++ l) none ∙ append-nil (texts_behind next_changes [] frames))

-- the screens of the wanted frame were put
pub screens_put : (a b c : Option (List ℕ)) (r : Put) (held : List ℕ) (frames : List Frame) (next : Frame) (frame wanted : ℕ)
    → frame ≡ wanted → IsGathered a b held (show_output wanted frames) → Puts b c r (all_text frame (received_screens (frames ++ next ∷ []))) → frame ≡ length frames
    → GathersText a c held (show_output wanted (frames ++ next ∷ [])) r
screens_put a b c r held frames next frame wanted same way puts number =
    let none : show_output wanted frames ≡ [] = show_before wanted frames (omega arith) in
    let more : show_output wanted (frames ++ next ∷ []) ≡ all_text frame (received_screens (frames ++ next ∷ [])) =
    show_at wanted frames next (sym same ∙ number) ∙ ap (λ n. all_text n (received_screens (frames ++ next ∷ []))) (sym same) in
    subst (λ l. GathersText a c held l r) (sym more) (put_at_once a b c r held (all_text frame (received_screens (frames ++ next ∷ []))) (show_output wanted frames) way none puts)

-- another frame came
pub screens_still : (a b : Option (List ℕ)) (held : List ℕ) (frames : List Frame) (next : Frame) (frame wanted : ℕ)
    → frame ≢ wanted → IsGathered a b held (show_output wanted frames) → frame ≡ length frames
    → GathersText a b held (show_output wanted (frames ++ next ∷ [])) put.Done
screens_still a b held frames next frame wanted other way number =
    gathered_still a b held (show_output wanted frames) (show_output wanted (frames ++ next ∷ [])) way
    (show_other wanted frames next (λ is. other (number ∙ sym is)))

-- before the first frame every screen is empty
empty_before : (chan : Chan) → received_grids [] chan ≡ empty_grid
unfolding after
empty_before Cc1 = refl
empty_before Cc2 = refl
empty_before Cc3 = refl
empty_before Cc4 = refl

-- and no window is shown
no_window_before : (service id : ℕ) → received_windows [] service id ≡ None
no_window_before service id = refl

pub nothing_shown : (screens : Screens) → screens.grids ≡ (λ chan. empty_grid) → ((service id : ℕ) → screens.windows service id ≡ None)
    → LookAlike screens (received_screens [])
nothing_shown screens grids none = record {
  grids = grids ∙ fun_ext (λ chan. sym (empty_before chan));
  windows = λ service id is small. none service id ∙ sym (no_window_before service id);
}
