-- What a service is sent in a frame is cut into the commands of the frame's events, and after them commands that load windows.
use Rattle.std.proofs.Common.{◌≡◌, ◌∙◌, ℕ, ◌<◌, true, List, [], ◌∷◌, ◌++◌, All, refl, sym, ap, subst, append_assoc, append-nil}
use Rattle.std.specs.List.{flat_map, zip}
use Rattle.std.proofs.lemmas.List.Elements.{All-append, All-cons, All-head, All-nil, All-tail}
use Rattle.cc_base.specs.declared.rate.Rate.{Rate}
use Rattle.line21_shown.specs.Cues.{IsCueFormed}
use Rattle.line21_shown.specs.Cue.{Cue}
use Rattle.dtvcc_codes.specs.Cut.{IsCut}
use Rattle.dtvcc_codes.specs.Writing.{bytes_of_command}
use Rattle.dtvcc_codes.specs.declared.commands.Command.{Command}
use Rattle.dtvcc_codes.proofs.CutLemmas.{bytes_are_cut}
use Rattle.dtvcc_author.specs.Captions.{service_captions}
use Rattle.dtvcc_author.specs.CueUnits.{IsWritable}
use Rattle.dtvcc_author.specs.FrameEvents.{event_bytes, event_commands}
use Rattle.windows_shown.proofs.PlacedLanesLemmas.{loads_hold}
use Rattle.windows_shown.proofs.UnitLemmas.{is_loading, units_hold}
use Rattle.windows_shown.proofs.WrittenLemmas.{spelled_by}
use Rattle.frame_carrier.specs.ServiceBytes.{bytes_in, loads_at}
use Rattle.frame_carrier.specs.ServiceChunks.{service_chunks}
use Rattle.services_shown.proofs.ByteLemmas.{captions_short, events_writable}

-- no bytes are cut into no commands
nothing_cut : IsCut [] [] []
nothing_cut = bytes_are_cut [] (All-nil (λ byte. byte < 256))

-- what is written of commands is cut into them
written_cut : (commands : List Command) → All IsWritable commands → IsCut commands [] (flat_map bytes_of_command commands)
written_cut [] writable = nothing_cut
written_cut (command ∷ commands) writable = (
  bytes_of_command command,
  flat_map bytes_of_command commands,
  refl,
  spelled_by command (All-head IsWritable command commands writable),
  written_cut commands (All-tail IsWritable command commands writable),
)

-- whole commands one after another
cut_both : (commands more : List Command) (bytes behind : List ℕ) → IsCut commands [] bytes → IsCut more [] behind
    → IsCut (commands ++ more) [] (bytes ++ behind)
cut_both [] more bytes behind (is, nothing) too = subst (λ (front : List ℕ). IsCut more [] (front ++ behind)) (sym is) too
cut_both (command ∷ commands) more bytes behind (spelling, rest, is, spells, cut) too = (
  spelling,
  rest ++ behind,
  ap (λ (front : List ℕ). front ++ behind) is ∙ append_assoc spelling rest behind,
  spells,
  cut_both commands more rest behind cut too,
)

-- the bytes are commands that load windows
pub record AreLoads (bytes : List ℕ) : Type 0 where
  pub commands : List Command
  pub cut : IsCut commands [] bytes
  pub loading : All (λ command. is_loading command ≡ true) commands

no_loads : AreLoads []
no_loads = record { commands = []; cut = nothing_cut; loading = All-nil (λ command. is_loading command ≡ true) }

both_loads : (bytes more : List ℕ) → AreLoads bytes → AreLoads more → AreLoads (bytes ++ more)
both_loads bytes more are too = record {
  commands = are.commands ++ too.commands;
  cut = cut_both are.commands too.commands bytes more are.cut too.cut;
  loading = All-append (λ command. is_loading command ≡ true) are.commands too.commands are.loading too.loading;
}

one_load : (command : Command) → IsWritable command → is_loading command ≡ true → AreLoads (bytes_of_command command)
one_load command is loads = record {
  commands = command ∷ [];
  cut = (bytes_of_command command, [], sym (append-nil (bytes_of_command command)), spelled_by command is, nothing_cut);
  loading = All-cons (λ command. is_loading command ≡ true) command [] loads (All-nil (λ command. is_loading command ≡ true));
}

module _ (rate : Rate) (service : ℕ) (cues : List Cue) (frames : List ℕ) (frame : ℕ) (formed : All IsCueFormed cues) where
  -- so are the units of a frame
  pub frame_loads : AreLoads (loads_at (zip (service_chunks rate service cues) frames) frame)
  frame_loads =
      loads_hold AreLoads no_loads both_loads (service_chunks rate service cues) frames frame (units_hold AreLoads one_load rate service cues formed)

  -- the commands of a frame
  pub frame_cut : IsCut (event_commands frame (service_captions rate service cues) ++ frame_loads.commands) []
      (bytes_in (service_captions rate service cues) (zip (service_chunks rate service cues) frames) frame)
  frame_cut =
      let cs = service_captions rate service cues in
      cut_both (event_commands frame cs) frame_loads.commands (event_bytes frame cs) (loads_at (zip (service_chunks rate service cues) frames) frame)
      (written_cut (event_commands frame cs) (events_writable frame cs (captions_short rate service cues formed)))
      frame_loads.cut
