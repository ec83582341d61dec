-- Believed: the program's answer stands on these definitions.
-- What a run answers: it realises what its command makes of bytes.
use Rattle.std.specs.Prelude.{◌≡◌, [], if◌then◌else◌, Option, Some, None, ⊤}
use Rattle.command_base.specs.Ends.{Ends, ends}
use Rattle.command_base.specs.Realises.{AwaitsSide, LeavesAll, Realises, Verdict, no_side}
use Rattle.command_base.specs.SideEnds.{SideEnds}
use Rattle.command_base.specs.declared.status.Status.{Status}
use Rattle.command_base.specs.declared.status.Status.TheVariants as status
use Rattle.convert_commands.specs.ConvertVerdict.{ConvertVerdict}
use Rattle.fit_commands.specs.Accepted.{IsGoodList}
use Rattle.fit_commands.specs.ListVerdict.{BuildVerdict, CuesVerdict, PairsVerdict}
use Rattle.fit_commands.specs.Output.{IsPlacedAs}
use Rattle.dual_commands.specs.DualVerdict.{DualVerdict}
use Rattle.fit_commands.specs.FitBesideVerdict.{FitBesideVerdict}
use Rattle.fit_commands.specs.FitVerdict.{FitVerdict}
use Rattle.help_commands.specs.Pages.{page_text}
use Rattle.help_commands.specs.TextVerdict.{TextVerdict}
use Rattle.help_commands.specs.declared.texts.TheConstants.{VERSION_LINE}
use Rattle.insert_commands.specs.InsertVerdict.{InsertVerdict}
use Rattle.load_commands.specs.LoadVerdict.{LoadVerdict}
use Rattle.mcc_commands.specs.ExportMcc.{ExportMccVerdict, start_at}
use Rattle.mcc_commands.specs.ImportMcc.{ImportMccVerdict}
use Rattle.scc_commands.specs.Export.{ExportVerdict}
use Rattle.scc_commands.specs.Import.{ImportVerdict}
use Rattle.verify_commands.specs.VerifyVerdict.{VerifyVerdict}
use Rattle.words_commands.specs.ConcealedScreens.{next_concealed}
use Rattle.words_commands.specs.PacketLines.{next_packets}
use Rattle.words_commands.specs.Screens.{next_changes}
use Rattle.words_commands.specs.Verdicts.{ChangesVerdict, ShowVerdict}
use Rattle.xds_commands.specs.PacketLists.{IsGoodPackets}
use Rattle.xds_commands.specs.XdsVerdict.{XdsVerdict}
use Rattle.ccsuite_cli.specs.Command.{has_side_file}
use Rattle.ccsuite_cli.specs.declared.command.Command.{Command}
use Rattle.ccsuite_cli.specs.declared.command.Command.TheVariants.{Build, Conceal, Convert, Cues, Decode, Dual, Export, ExportMcc, Fit, FitBeside, Help, Import, ImportMcc, Insert, Load, Pairs, Show, Verify, Version, Xds, XdsShow}

-- what a command makes of its side file and its input
abbrev pub verdict_of : Command → Verdict
verdict_of Pairs aside = PairsVerdict
verdict_of Build aside = BuildVerdict
verdict_of Cues aside = CuesVerdict
verdict_of Dual aside = DualVerdict aside
verdict_of Xds aside = XdsVerdict aside
verdict_of Decode aside = ChangesVerdict next_changes
verdict_of (Show frame) aside = ShowVerdict frame
verdict_of Conceal aside = ChangesVerdict next_concealed
verdict_of XdsShow aside = ChangesVerdict next_packets
verdict_of Verify aside = VerifyVerdict aside
verdict_of Insert aside = InsertVerdict aside
verdict_of Convert aside = ConvertVerdict
verdict_of (Import time) aside = ImportVerdict time
verdict_of (Export time) aside = ExportVerdict time
verdict_of ImportMcc aside = ImportMccVerdict
verdict_of (ExportMcc count time) aside = ExportMccVerdict (start_at count time)
verdict_of (Load count) aside = LoadVerdict count
verdict_of (Fit late) aside = FitVerdict late
verdict_of (FitBeside late) aside = FitBesideVerdict late aside
verdict_of (Help page) aside = TextVerdict (page_text page)
verdict_of Version aside = TextVerdict VERSION_LINE.now

-- a command that names a side file reads it; another command runs as with an empty one
abbrev pub side_for : Command → SideEnds → SideEnds
side_for command side = if has_side_file (Some command) then side else no_side

-- `load`, `help` and `version` read no input: they run as on an empty one
abbrev pub input_for : Command → Ends → Ends
input_for (Load count) e = ends (Some []) e.read_faults e.written e.write_faults
input_for (Help page) e = ends (Some []) e.read_faults e.written e.write_faults
input_for Version e = ends (Some []) e.read_faults e.written e.write_faults
input_for _ e = e

-- what a run answers; words that are no command are Usage, and nothing happened
abbrev pub Answer : Option Command → SideEnds → SideEnds → Ends → Ends → Status → Type 0
Answer None side later old new answer = (later ≡ side) × (new ≡ old) × (answer ≡ status.Usage)
Answer (Some command) side later old new answer =
    Realises (verdict_of command) (side_for command side) (side_for command later) (input_for command old) (input_for command new) answer

-- what a run leaves as it was: its ends where it is out of memory, but for a command that reads its input whole, or its side file; and its
-- ends where its side file isn't accepted
abbrev pub IsUntouched : Option Command → SideEnds → Ends → Ends → Status → Type 0
IsUntouched None side old new answer = ⊤
IsUntouched (Some Pairs) side old new answer = ⊤
IsUntouched (Some Build) side old new answer = ⊤
IsUntouched (Some Cues) side old new answer = ⊤
IsUntouched (Some (Import time)) side old new answer = ⊤
IsUntouched (Some (Fit late)) side old new answer = ⊤
IsUntouched (Some Dual) side old new answer = AwaitsSide IsGoodList side old new
IsUntouched (Some (FitBeside late)) side old new answer = AwaitsSide IsGoodList side old new
IsUntouched (Some Xds) side old new answer = AwaitsSide IsGoodPackets side old new
IsUntouched (Some Verify) side old new answer = LeavesAll old new answer × AwaitsSide IsGoodList side old new
IsUntouched (Some Insert) side old new answer = LeavesAll old new answer × AwaitsSide IsPlacedAs side old new
IsUntouched (Some (Load count)) side old new answer = LeavesAll old new answer × (new.left ≡ old.left)
IsUntouched (Some (Help page)) side old new answer = LeavesAll old new answer × (new.left ≡ old.left)
IsUntouched (Some Version) side old new answer = LeavesAll old new answer × (new.left ≡ old.left)
IsUntouched (Some command) side old new answer = LeavesAll old new answer
