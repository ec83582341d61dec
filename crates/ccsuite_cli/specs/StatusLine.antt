-- Believed: the program's answer stands on these definitions.
-- The one line of each status in the error output.
use Rattle.std.specs.Prelude.{◌≡◌, ◌⊎◌, ◌++◌, ℕ, List, [], ◌∷◌, Option, Some, None, codes, decimal}
use Rattle.std.specs.Io.KnownBytes.{Appends}
use Rattle.cc_base.specs.LimitOf.{limit_name_of}
use Rattle.cc_base.specs.Streams.{Puts, Rose}
use Rattle.cc_base.specs.Texts.{text}
use Rattle.cc_base.specs.Why.{name_of}
use Rattle.cc_base.specs.declared.streams.Put.TheVariants as put
use Rattle.cc_base.specs.declared.why.Why.{Why}
use Rattle.cc_base.specs.declared.why.Why.TheVariants as why
use Rattle.cc_base.specs.Rate.{rate_code}
use Rattle.findings.specs.declared.finding.Kind45.{Kind45}
use Rattle.findings.specs.declared.finding.Kind45.TheVariants as kind
use Rattle.findings.specs.declared.finding.Which.TheVariants as which
use Rattle.findings.specs.declared.misfit.MisfitKind.{MisfitKind}
use Rattle.findings.specs.declared.misfit.MisfitKind.TheVariants as misfit
use Rattle.findings.specs.Misfits.{misfit_name}
use Rattle.line21_codes.specs.Channels.{channel_name}
use Rattle.ccsuite_cli.specs.Command.{usage_line}
use Rattle.command_base.specs.declared.status.Place.{Place}
use Rattle.command_base.specs.declared.status.Place.TheVariants.{Byte, Field}
use Rattle.command_base.specs.declared.status.Status.{Status}
use Rattle.command_base.specs.declared.status.Status.TheVariants as status

-- the line of a malformed input
abbrev pub malformed_line : Place → Why → List ℕ
malformed_line (Byte byte) why = text (codes "malformed at byte " ∷ decimal byte ∷ codes ": " ∷ name_of why ∷ codes "\n" ∷ [])
malformed_line (Field rec field) why =
    text (codes "malformed at record " ∷ decimal rec ∷ codes " field " ∷ decimal field ∷ codes ": " ∷ name_of why ∷ codes "\n" ∷ [])

-- the line of a broken rule, with the other cue where there is one
abbrev pub rule_line : Why → ℕ → Option ℕ → List ℕ
rule_line why cue None = text (codes "rule " ∷ name_of why ∷ codes ": cue " ∷ decimal cue ∷ codes "\n" ∷ [])
rule_line why cue (Some other) =
    text (codes "rule " ∷ name_of why ∷ codes ": cue " ∷ decimal cue ∷ codes " and cue " ∷ decimal other ∷ codes "\n" ∷ [])

-- the line of what was found at a frame, and what more is said of it
abbrev pub found_line : ℕ → Why → List (List ℕ) → List ℕ
found_line frame why more = text (codes "differs at frame " ∷ decimal frame ∷ codes ": " ∷ name_of why ∷ (more ++ codes "\n" ∷ []))

-- what is expected and what was seen
abbrev pub expected_seen : ℕ → ℕ → List (List ℕ)
expected_seen expected seen = codes " expected " ∷ decimal expected ∷ codes " seen " ∷ decimal seen ∷ []

-- the line of a finding; rates as their codes, and of two pairs 1 is expected
abbrev pub finding_line : ℕ → Kind45 → List ℕ
finding_line frame (kind.CounterJump expected seen) = found_line frame why.CounterJump (expected_seen expected seen)
finding_line frame (kind.WrongCount expected seen) = found_line frame why.WrongCount (expected_seen expected seen)
finding_line frame (kind.WrongRate expected seen) = found_line frame why.WrongRate (expected_seen (rate_code expected) (rate_code seen))
finding_line frame (kind.BufferFull service) = found_line frame why.BufferFull (codes " S" ∷ decimal service ∷ [])
finding_line frame (kind.GridDiffers (which.Chan chan)) = found_line frame why.GridDiffers (codes " " ∷ channel_name chan ∷ [])
finding_line frame (kind.GridDiffers (which.Service service)) = found_line frame why.GridDiffers (codes " S" ∷ decimal service ∷ [])
finding_line frame (kind.TwoPairs seen) = found_line frame why.TwoPairs (expected_seen 1 seen)
finding_line frame kind.EightBits = found_line frame why.EightBits []

-- the line of a misfit of which this was seen
abbrev pub misfit_text : ℕ → MisfitKind → List ℕ → List ℕ
misfit_text frame kind seen =
    text (codes "misfit at frame " ∷ decimal frame ∷ codes ": " ∷ misfit_name kind ∷ codes " " ∷ seen ∷ codes "\n" ∷ [])

-- the same with what was seen: the rate's code, a number of triplets, or the name of the grid
abbrev pub line_of_misfit : ℕ → MisfitKind → List ℕ
line_of_misfit frame (misfit.Rate code) = misfit_text frame (misfit.Rate code) (decimal code)
line_of_misfit frame (misfit.Count seen) = misfit_text frame (misfit.Count seen) (decimal seen)
line_of_misfit frame (misfit.One seen) = misfit_text frame (misfit.One seen) (decimal seen)
line_of_misfit frame (misfit.Two seen) = misfit_text frame (misfit.Two seen) (decimal seen)
line_of_misfit frame (misfit.Many seen) = misfit_text frame (misfit.Many seen) (decimal seen)
line_of_misfit frame (misfit.Changed (which.Chan chan)) = misfit_text frame (misfit.Changed (which.Chan chan)) (channel_name chan)
line_of_misfit frame (misfit.Changed (which.Service service)) =
    misfit_text frame (misfit.Changed (which.Service service)) (codes "S" ++ decimal service)

-- the line of a status; Ok has none
abbrev pub status_line : Status → List ℕ
status_line status.Ok = []
status_line status.Usage = usage_line
status_line status.ReadFault = codes "read fault\n"
status_line status.WriteFault = codes "write fault\n"
status_line status.Memory = codes "out of memory\n"
status_line (status.Limit limit) = text (codes "limit " ∷ limit_name_of limit ∷ codes "\n" ∷ [])
status_line (status.Malformed place why) = malformed_line place why
status_line (status.Rule fault) = rule_line fault.why fault.cue fault.other
status_line (status.NoRoom cue) = text (codes "no room: cue " ∷ decimal cue ∷ codes "\n" ∷ [])
status_line (status.Differs finding) = finding_line finding.frame finding.kind
status_line (status.Short frames) = text (codes "short: " ∷ decimal frames ∷ codes " frames\n" ∷ [])
status_line (status.NoRoomBeside cue) = text (codes "no room in CUES: cue " ∷ decimal cue ∷ codes "\n" ∷ [])
status_line (status.NoXdsRoom packet) = text (codes "no room: packet " ∷ decimal packet ∷ codes "\n" ∷ [])
status_line (status.Misfit misfit) = line_of_misfit misfit.frame misfit.kind

-- the line of a status was put, or, where the count of faults rose, a front of it
abbrev pub PutsLine : Option (List ℕ) → Option (List ℕ) → ℕ → ℕ → Status → Type 0
PutsLine old new before now answer =
    (Appends old new (status_line answer) × (now ≡ before)) ⊎ (Puts old new put.Failed (status_line answer) × Rose before now)
