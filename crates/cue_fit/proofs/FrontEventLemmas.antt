-- With fewer cues there are no more events: what is free beside cues' events is free beside the events of the first of them.
use Rattle.std.proofs.Common.{◌≡◌, ◌∙◌, ◌≢◌, ℕ, ◌+◌, ◌≤◌, ◌==◌, ◌&&◌, ◌||◌, Bool, true, false, List, [], ◌∷◌, ◌++◌, length, refl, sym, ap, subst, arith}
use Rattle.std.specs.Prelude.{Option, Some, None, if◌then◌else◌, option_map}
use Rattle.std.specs.List.{flat_map, list_any}
use Rattle.std.specs.Option.{option_or}
use Rattle.std.proofs.lemmas.Bool.{eqb-true}
use Rattle.std.proofs.lemmas.List.{length-append}
use Rattle.std.proofs.lemmas.List.Concat.{flat_map-append}
use Rattle.std.proofs.lemmas.List.Folds.{find-append, list_any-append}
use Rattle.line21_codes.specs.declared.channels.FieldNumber.{FieldNumber}
use Rattle.line21_codes.specs.declared.codes.Control.TheVariants.{Edm, Eoc}
use Rattle.dtvcc_codes.specs.Writing.{bytes_of_command}
use Rattle.dtvcc_codes.specs.declared.commands.Command.{Command}
use Rattle.dtvcc_codes.specs.declared.commands.Command.TheVariants.{Dlw, Dsw}
use Rattle.dtvcc_author.specs.FrameEvents.{delay_commands, delay_end, delayed_at, event_bytes, is_delayed_at, is_hidden_at, is_shown_at, names, windows_byte, windows_command}
use Rattle.dtvcc_author.specs.declared.caption.Caption.{Caption}
use Rattle.cue_lists.specs.Lane.{is_pop}
use Rattle.cue_lists.specs.declared.cue.Cue.{Cue}
use Rattle.lanes.proofs.EventLemmas.{free_append}
use Rattle.lanes.specs.CueEvents.{control_event, cue_events, hide_events, show_events}
use Rattle.lanes.specs.LaneEvents.{IsFree}
use Rattle.cue_fit.proofs.TailLemmas.{free_parts}

module _ (in_field : FieldNumber) (n : ℕ) where
  -- where a cue takes the place of another one, what shows it stands where that would have been erased
  replaced : (next : Cue) (hide : ℕ) (pop same : Bool) → (same ≡ true → next.show ≡ hide)
      → IsFree (if pop && same then [] else control_event in_field hide Edm ∷ []) n
      → IsFree (if pop then control_event in_field next.show Eoc ∷ [] else []) n → IsFree (control_event in_field hide Edm ∷ []) n
  replaced next hide true true is free shown =
      let e : next.show ≡ hide = is refl in
      (subst (λ (s : ℕ). s ≢ n) e shown.0, subst (λ (s : ℕ). s + 1 ≢ n) e shown.1, tt)
  replaced next hide true false is free shown = free
  replaced next hide false same is free shown = free

  hide_free : (hide : Option ℕ) (later more : List Cue) → IsFree (hide_events in_field hide (later ++ more)) n → IsFree (cue_events in_field (later ++ more)) n
      → IsFree (hide_events in_field hide later) n
  hide_free None later more free rest = tt
  hide_free (Some hide) (next ∷ later) more free rest = free
  hide_free (Some hide) [] [] free rest = free
  hide_free (Some hide) [] (next ∷ more) free rest =
      let parts = free_parts (show_events in_field next ++ hide_events in_field next.hide more) (cue_events in_field more) n rest in
      let shown = free_parts (show_events in_field next) (hide_events in_field next.hide more) n parts.0 in
      replaced next hide (is_pop next.kind) (next.show == hide) (eqb-true next.show hide) free shown.0

  -- what is free beside cues' events is free beside the events of the first of them
  pub front_free : (cues more : List Cue) → IsFree (cue_events in_field (cues ++ more)) n → IsFree (cue_events in_field cues) n
  front_free [] more free = tt
  front_free (cue ∷ later) more free =
      let parts = free_parts (show_events in_field cue ++ hide_events in_field cue.hide (later ++ more)) (cue_events in_field (later ++ more)) n free in
      let both = free_parts (show_events in_field cue) (hide_events in_field cue.hide (later ++ more)) n parts.0 in
      free_append (show_events in_field cue ++ hide_events in_field cue.hide later) (cue_events in_field later) n
      (free_append (show_events in_field cue) (hide_events in_field cue.hide later) n both.0 (hide_free cue.hide later more both.1 parts.1))
      (front_free later more parts.1)

-- the bytes of one command for the windows of captions
size_if : Bool → ℕ
size_if true = 2
size_if false = 0

module _ (command : ℕ → Command) (two : (byte : ℕ) → length (bytes_of_command (command byte)) ≡ 2) (test : Caption → Bool) where
  some_bytes : (b : Bool) (byte : ℕ) → length (flat_map bytes_of_command (if b then command byte ∷ [] else [])) ≡ size_if b
  unfolding size_if
  some_bytes true byte = length-append (bytes_of_command (command byte)) [] ∙ ap (λ (k : ℕ). k + 0) (two byte)
  some_bytes false byte = refl

  least : (a b : Bool) → size_if a ≤ size_if (a || b)
  unfolding size_if
  least true b = omega arith
  least false b = omega arith

  front_command : (cs ds : List Caption)
      → length (flat_map bytes_of_command (windows_command command test cs)) ≤ length (flat_map bytes_of_command (windows_command command test (cs ++ ds)))
  front_command cs ds =
      let one = some_bytes (list_any test cs) (windows_byte (names test cs)) in
      let all = some_bytes (list_any test (cs ++ ds)) (windows_byte (names test (cs ++ ds))) in
      let more = ap size_if (list_any-append test cs ds) in
      let most = least (list_any test cs) (list_any test ds) in
      omega (arith, one, all, more, most)

dlw_two : (byte : ℕ) → length (bytes_of_command (Dlw byte)) ≡ 2
unfolding bytes_of_command
dlw_two byte = refl

dsw_two : (byte : ℕ) → length (bytes_of_command (Dsw byte)) ≡ 2
unfolding bytes_of_command
dsw_two byte = refl

-- the delay that starts in a frame
front_delay : (a b : Option Caption) → length (flat_map bytes_of_command (delay_commands a)) ≤ length (flat_map bytes_of_command (delay_commands (option_or a b)))
front_delay None b = omega arith
front_delay (Some c) b = omega arith

module _ (frame : ℕ) (cs ds : List Caption) where
  lengths : (es : List Caption) → length (event_bytes frame es)
      ≡ (length (flat_map bytes_of_command (windows_command Dlw (is_hidden_at frame) es)) + length (flat_map bytes_of_command (windows_command Dsw (is_shown_at frame) es)))
      + length (flat_map bytes_of_command (delay_commands (delayed_at frame es)))
  lengths es =
      let hidden = windows_command Dlw (is_hidden_at frame) es in
      let shown = windows_command Dsw (is_shown_at frame) es in
      let delay = delay_commands (delayed_at frame es) in
      ap length (flat_map-append bytes_of_command (hidden ++ shown) delay)
      ∙ length-append (flat_map bytes_of_command (hidden ++ shown)) (flat_map bytes_of_command delay)
      ∙ ap (λ (l : List ℕ). length l + length (flat_map bytes_of_command delay)) (flat_map-append bytes_of_command hidden shown)
      ∙ ap (λ (k : ℕ). k + length (flat_map bytes_of_command delay)) (length-append (flat_map bytes_of_command hidden) (flat_map bytes_of_command shown))

  delayed_both : delayed_at frame (cs ++ ds) ≡ option_or (delayed_at frame cs) (delayed_at frame ds)
  delayed_both = find-append (is_delayed_at frame) cs ds

  -- the events of a frame have no fewer bytes with more captions
  pub front_bytes : length (event_bytes frame cs) ≤ length (event_bytes frame (cs ++ ds))
  front_bytes =
      let one = lengths cs in
      let all = lengths (cs ++ ds) in
      let hidden = front_command Dlw dlw_two (is_hidden_at frame) cs ds in
      let shown = front_command Dsw dsw_two (is_shown_at frame) cs ds in
      let delay : length (flat_map bytes_of_command (delay_commands (delayed_at frame cs))) ≤ length (flat_map bytes_of_command (delay_commands (delayed_at frame (cs ++ ds)))) =
      subst (λ (o : Option Caption). length (flat_map bytes_of_command (delay_commands (delayed_at frame cs))) ≤ length (flat_map bytes_of_command (delay_commands o)))
      (sym delayed_both) (front_delay (delayed_at frame cs) (delayed_at frame ds)) in
      omega (arith, one, all, hidden, shown, delay)

  -- and a delay that starts there is one with more captions too
  pub front_delay_end : (end : ℕ) → delay_end cs frame ≡ Some end → delay_end (cs ++ ds) frame ≡ Some end
  front_delay_end end is =
      ap (λ (o : Option Caption). option_map (λ c. c.show) o) delayed_both ∙ at (delayed_at frame cs) (delayed_at frame ds) is
    where
      at : (a b : Option Caption) → option_map (λ (c : Caption). c.show) a ≡ Some end → option_map (λ (c : Caption). c.show) (option_or a b) ≡ Some end
      at None b found = cc
      at (Some c) b found = found
