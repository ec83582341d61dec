-- The units of window cues: what is written of commands that load a window. These are plain.
use Rattle.std.proofs.Common.{◌≡◌, ℕ, suc, Bool, true, false, List, [], ◌∷◌, ◌++◌, Option, Some, None, refl}
use Rattle.std.specs.Prelude.{All, map}
use Rattle.std.specs.List.{AllByRecursion, flat_map}
use Rattle.std.proofs.lemmas.List.Elements.{All-append, All-cons, All-head, All-nil, All-tail}
use Rattle.cc_base.specs.declared.rate.Rate.{Rate}
use Rattle.cue_types.specs.declared.cue.Cue.{Cue}
use Rattle.cue_types.specs.declared.cue.Kind.{Kind}
use Rattle.cue_types.specs.declared.cue.Kind.TheVariants.{Pop, Paint, Roll, Win}
use Rattle.cue_types.specs.declared.cue.Run.{Run}
use Rattle.cue_types.specs.declared.cue.WinCue.{WinCue}
use Rattle.cue_types.specs.Cues.{IsCueFormed}
use Rattle.dtvcc_codes.specs.declared.commands.Command.{Command}
use Rattle.dtvcc_codes.specs.declared.commands.Command.TheVariants.{Put, Spa, Spc, Spl, Swa, Df}
use Rattle.dtvcc_codes.specs.declared.pens.PenAttr.{PenAttr}
use Rattle.dtvcc_codes.specs.declared.pens.PenColors.{PenColors}
use Rattle.dtvcc_codes.specs.declared.windows.WinAttr.{WinAttr}
use Rattle.dtvcc_codes.specs.Writing.{bytes_of_command}
use Rattle.dtvcc_windows.specs.Styles.{pen_style}
use Rattle.dtvcc_author.specs.declared.caption.Caption.{Caption}
use Rattle.dtvcc_author.specs.Captions.{caption_of}
use Rattle.dtvcc_author.specs.CueUnits.{IsWritable, window_cue_units}
use Rattle.dtvcc_author.specs.WindowCommands.{are_coloured, attribute_commands, character_commands, color_commands, commands_of, commands_with, run_commands, window_commands}
use Rattle.dtvcc_author.proofs.WritableLemmas.{commands_writable}
use Rattle.frame_scheduler.specs.Chunks.{ServiceChunk}
use Rattle.frame_scheduler.specs.ServiceChunks.{chunk_of, chunks_with, service_chunks, service_chunks_from}
use Rattle.windows_shown.specs.Soundness.{ArePlain, is_plain}
use Rattle.windows_shown.proofs.WrittenLemmas.{written_plain}

-- the command loads a window: it makes one, says how it, its pen or its text is, or is text
abbrev pub is_loading : Command → Bool
is_loading (Put ch) = true
is_loading (Spa pen) = true
is_loading (Spc colors) = true
is_loading (Spl row col) = true
is_loading (Swa attributes) = true
is_loading (Df definition) = true
is_loading _ = false

-- so does each of these
abbrev AreLoading : List Command → Type 0
AreLoading commands = AllByRecursion (λ command. is_loading command ≡ true) commands

loading_append : (commands more : List Command) → AreLoading commands → AreLoading more → AreLoading (commands ++ more)
loading_append [] more all too = too
loading_append (command ∷ commands) more all too = (all.0, loading_append commands more all.1 too)

-- the commands of a window's attributes, of a run, of a window and of a cue
attributes_loading : (attributes : Option WinAttr) → AreLoading (attribute_commands attributes)
attributes_loading None = tt
attributes_loading (Some attributes) = (refl, tt)

colors_loading : (coloured : Bool) (style : PenColors) (own : Option PenColors) → AreLoading (color_commands coloured style own)
colors_loading true style own = (refl, tt)
colors_loading false style own = tt

characters_loading : (text : List ℕ) → AreLoading (character_commands text)
characters_loading [] = tt
characters_loading (ch ∷ text) = (refl, characters_loading text)

run_loading : (coloured : Bool) (pen : PenAttr) (colors : PenColors) (run : Run) → AreLoading (run_commands coloured pen colors run)
run_loading coloured pen colors run = (
  refl,
  (refl, loading_append (color_commands coloured colors run.colors) (character_commands run.text) (colors_loading coloured colors run.colors) (characters_loading run.text)),
)

runs_loading : (coloured : Bool) (pen : PenAttr) (colors : PenColors) (runs : List Run) → AreLoading (flat_map (run_commands coloured pen colors) runs)
runs_loading coloured pen colors [] = tt
runs_loading coloured pen colors (run ∷ runs) =
    loading_append (run_commands coloured pen colors run) (flat_map (run_commands coloured pen colors) runs)
    (run_loading coloured pen colors run) (runs_loading coloured pen colors runs)

window_loading : (w : WinCue) (runs : List Run) → AreLoading (window_commands w runs)
window_loading w runs = (
  refl,
  loading_append (attribute_commands w.attr) (flat_map (run_commands (are_coloured runs) (pen_style w.ps).0 (pen_style w.ps).1) runs)
      (attributes_loading w.attr) (runs_loading (are_coloured runs) (pen_style w.ps).0 (pen_style w.ps).1 runs),
)

kind_loading : (kind : Kind) (runs : List Run) → AreLoading (commands_with kind runs)
kind_loading (Pop channel) runs = tt
kind_loading (Paint channel) runs = tt
kind_loading (Roll channel rows) runs = tt
kind_loading (Win w) runs = window_loading w runs

cue_loading : (cue : Cue) → AreLoading (commands_of cue)
cue_loading cue = kind_loading cue.kind cue.runs

-- what holds of all that is written of such commands holds of the units of formed cues
module _ (P : List ℕ → Type 0) (holds : (command : Command) → IsWritable command → is_loading command ≡ true → P (bytes_of_command command)) where
  abbrev IsUnit : ServiceChunk → Type 0
  IsUnit chunk = P chunk.unit

  own_hold : (number : ℕ) (c : Caption) (commands : List Command) → All IsWritable commands → AreLoading commands
      → All IsUnit (map (chunk_of number c) (map bytes_of_command commands))
  own_hold number c [] writable loading = All-nil IsUnit
  own_hold number c (command ∷ commands) writable loading =
      All-cons IsUnit (chunk_of number c (bytes_of_command command)) (map (chunk_of number c) (map bytes_of_command commands))
      (holds command (All-head IsWritable command commands writable) loading.0)
      (own_hold number c commands (All-tail IsWritable command commands writable) loading.1)

  hold_from : (rate : Rate) (service number : ℕ) (cues : List Cue) → All IsCueFormed cues → All IsUnit (service_chunks_from rate service number cues)
  hold_from rate service number [] formed = All-nil IsUnit
  hold_from rate service number (cue ∷ cues) formed =
      All-append IsUnit (chunks_with number (caption_of rate service cue) (window_cue_units cue)) (service_chunks_from rate service (suc number) cues)
      (at (caption_of rate service cue))
      (hold_from rate service (suc number) cues (All-tail IsCueFormed cue cues formed))
    where
      at : (c : Option Caption) → All IsUnit (chunks_with number c (window_cue_units cue))
      at None = All-nil IsUnit
      at (Some c) = own_hold number c (commands_of cue) (commands_writable cue (All-head IsCueFormed cue cues formed)) (cue_loading cue)

  pub units_hold : (rate : Rate) (service : ℕ) (cues : List Cue) → All IsCueFormed cues
      → All (λ (chunk : ServiceChunk). P chunk.unit) (service_chunks rate service cues)
  units_hold rate service cues formed = hold_from rate service 1 cues formed

-- so they are plain
loading_plain : (command : Command) → is_loading command ≡ true → is_plain command ≡ true
loading_plain (Put ch) loads = refl
loading_plain (Spa pen) loads = refl
loading_plain (Spc colors) loads = refl
loading_plain (Spl row col) loads = refl
loading_plain (Swa attributes) loads = refl
loading_plain (Df definition) loads = refl
loading_plain _ loads = cc

pub units_plain : (rate : Rate) (service : ℕ) (cues : List Cue) → All IsCueFormed cues
    → All (λ (chunk : ServiceChunk). ArePlain chunk.unit) (service_chunks rate service cues)
units_plain rate service cues formed =
    units_hold ArePlain (λ command is loads. written_plain command is (loading_plain command loads)) rate service cues formed
