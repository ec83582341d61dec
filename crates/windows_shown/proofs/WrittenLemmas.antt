-- What is written of commands, one after another: whole plain bytes, which do to a screen what the commands do.
use Rattle.std.proofs.Common.{◌≡◌, ℕ, zero, suc, ◌-◌, List, [], ◌∷◌, ◌++◌, Option, Some, None, length, true, refl, sym, ap, subst, ◌∙◌}
use Rattle.std.specs.Prelude.{replicate}
use Rattle.cc_base.specs.Steps.{front_from}
use Rattle.dtvcc_codes.specs.declared.commands.Command.{Command}
use Rattle.dtvcc_codes.specs.declared.commands.Command.TheVariants.{Dlw, Dsw}
use Rattle.dtvcc_codes.specs.Reading.{completed, completions, open_after, spelled_command, told_size}
use Rattle.dtvcc_codes.specs.Spelling.{Spells}
use Rattle.dtvcc_codes.specs.Writing.{bytes_of_command}
use Rattle.dtvcc_codes.proofs.CutLemmas.{spelling_completes}
use Rattle.dtvcc_codes.proofs.WrittenLemmas.{written_spells}
use Rattle.dtvcc_author.specs.CueUnits.{IsWritable}
use Rattle.dtvcc_screen.specs.Commands.{on_screen}
use Rattle.dtvcc_screen.specs.Laws.{on_screen_all, on_screen_if}
use Rattle.dtvcc_screen.specs.Screens.{ScreenState}
use Rattle.windows_shown.specs.Soundness.{ArePlain, is_plain}
use Rattle.windows_shown.specs.Undelayed.{acted_on}
use Rattle.windows_shown.proofs.PlainLemmas.{AllPlain}

-- the bytes of a command complete nothing before the last one
alone_acts : (n : ℕ) (command : Command) (s : ScreenState) → on_screen_all (replicate n None ++ Some command ∷ []) s ≡ on_screen command s
alone_acts zero command s = refl
alone_acts (suc n) command s = alone_acts n command s

alone_plain : (n : ℕ) (command : Command) → is_plain command ≡ true → AllPlain (replicate n None ++ Some command ∷ [])
alone_plain zero command plain = (plain, tt)
alone_plain (suc n) command plain = (tt, alone_plain n command plain)

pub spelled_by : (command : Command) → IsWritable command → Spells command (bytes_of_command command)
spelled_by command is = written_spells command (bytes_of_command command) is.spellable is.unskipped refl

-- they act as the command
pub written_acts : (command : Command) (s : ScreenState) → IsWritable command → acted_on (bytes_of_command command) s ≡ on_screen command s
written_acts command s is =
    ap (λ (said : List (Option Command)). on_screen_all said s) (spelling_completes command (bytes_of_command command) (spelled_by command is)).completions_are
    ∙ alone_acts (length (bytes_of_command command) - 1) command s

-- they are plain where the command is
pub written_plain : (command : Command) → IsWritable command → is_plain command ≡ true → ArePlain (bytes_of_command command)
written_plain command is plain =
    let completes = spelling_completes command (bytes_of_command command) (spelled_by command is) in
    record {
      plain = subst AllPlain (sym completes.completions_are) (alone_plain (length (bytes_of_command command) - 1) command plain);
      whole = completes.ends;
    }

-- whole bytes act one after another
acts_behind : (open_bytes bytes more : List ℕ) (s : ScreenState) → front_from open_after open_bytes bytes ≡ []
    → on_screen_all (completions open_bytes (bytes ++ more)) s ≡ acted_on more (on_screen_all (completions open_bytes bytes) s)
acts_behind open_bytes [] more s whole = ap (λ (left : List ℕ). on_screen_all (completions left more) s) whole
acts_behind open_bytes (byte ∷ bytes) more s whole =
    acts_behind (open_after open_bytes byte) bytes more (on_screen_if (completed open_bytes byte) s) whole

pub acted_append : (bytes more : List ℕ) (s : ScreenState) → ArePlain bytes → acted_on (bytes ++ more) s ≡ acted_on more (acted_on bytes s)
acted_append bytes more s are = acts_behind [] bytes more s are.whole

-- the commands for windows, whatever windows they name
pub dlw_acts : (windows : ℕ) (s : ScreenState) → acted_on (bytes_of_command (Dlw windows)) s ≡ on_screen (Dlw windows) s
unfolding bytes_of_command told_size spelled_command
dlw_acts windows s = refl

pub dsw_acts : (windows : ℕ) (s : ScreenState) → acted_on (bytes_of_command (Dsw windows)) s ≡ on_screen (Dsw windows) s
unfolding bytes_of_command told_size spelled_command
dsw_acts windows s = refl

pub dlw_plain : (windows : ℕ) → ArePlain (bytes_of_command (Dlw windows))
unfolding bytes_of_command told_size spelled_command
dlw_plain windows = record { plain = (tt, (refl, tt)); whole = refl }

pub dsw_plain : (windows : ℕ) → ArePlain (bytes_of_command (Dsw windows))
unfolding bytes_of_command told_size spelled_command
dsw_plain windows = record { plain = (tt, (refl, tt)); whole = refl }
