-- Believed: the program's answer stands on these definitions.
-- The codes of a line 21 cue: those that set its caption mode, and its runs' in order
-- (pop-on, paint-on and roll-up captions: CTA-608-E; 47 CFR 79.101).
use Rattle.std.specs.Prelude.{List, [], ◌∷◌, ◌++◌}
use Rattle.std.specs.List.{flat_map}
use Rattle.line21_codes.specs.declared.codes.Code.{Code}
use Rattle.line21_codes.specs.declared.codes.Control.TheVariants.{Rcl, Enm, Rdc, Ru, Cr}
use Rattle.cue_lists.specs.declared.cue.Kind.{Kind}
use Rattle.cue_lists.specs.declared.cue.Kind.TheVariants.{Pop, Paint, Roll, Win}
use Rattle.cue_lists.specs.declared.cue.Cue.{Cue}
use Rattle.line21_author.specs.FirstChannel.{first_channel}
use Rattle.line21_author.specs.RunCodes.{run_codes}

-- the codes that begin a cue: pop-on loads a cleared hidden memory, paint-on writes the displayed
-- one, roll-up of some rows begins a new row; window cues have none in line 21
abbrev pub opening_codes : Kind → List Code
opening_codes (Pop channel) = first_channel Rcl ∷ first_channel Enm ∷ []
opening_codes (Paint channel) = first_channel Rdc ∷ []
opening_codes (Roll channel rows) = first_channel (Ru rows) ∷ first_channel Cr ∷ []
opening_codes (Win window) = []

-- the codes of a cue
abbrev pub cue_codes : Cue → List Code
cue_codes cue = opening_codes cue.kind ++ flat_map run_codes cue.runs
