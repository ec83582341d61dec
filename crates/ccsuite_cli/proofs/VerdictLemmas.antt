-- Of every input a command makes one status, and a run answers it.
use Rattle.std.proofs.Common.{ap, ℕ, List, [], Option, Some}
use Rattle.command_base.proofs.ExactLemmas.{exact, told}
use Rattle.command_base.specs.Ends.{Ends, ends}
use Rattle.command_base.specs.Realises.{LeavesAll}
use Rattle.command_base.specs.declared.status.Status.{Status}
use Rattle.convert_commands.proofs.EveryLemmas.{every_convert}
use Rattle.convert_commands.proofs.VerdictLemmas.{convert_one}
use Rattle.fit_commands.proofs.ListVerdictLemmas.{build_one, cues_one, pairs_one}
use Rattle.fit_commands.proofs.EveryLemmas.{every_build, every_cues, every_pairs}
use Rattle.dual_commands.proofs.VerdictLemmas.{dual_one}
use Rattle.dual_commands.proofs.EveryLemmas.{every_dual}
use Rattle.fit_commands.proofs.BesideVerdictLemmas.{every_fit_beside, fit_beside_one}
use Rattle.fit_commands.proofs.VerdictLemmas.{every_fit, fit_one}
use Rattle.help_commands.proofs.VerdictLemmas.{every_text, text_one}
use Rattle.help_commands.specs.Pages.{page_text}
use Rattle.help_commands.specs.declared.texts.TheConstants.{VERSION_LINE}
use Rattle.insert_commands.proofs.VerdictLemmas.{insert_one}
use Rattle.insert_commands.proofs.EveryLemmas.{every_insert}
use Rattle.load_commands.proofs.VerdictLemmas.{every_load, load_one}
use Rattle.mcc_commands.proofs.ExportVerdictLemmas.{export_mcc_one}
use Rattle.mcc_commands.proofs.ImportVerdictLemmas.{import_mcc_one}
use Rattle.mcc_commands.proofs.ImportEveryLemmas.{every_import_mcc}
use Rattle.mcc_commands.proofs.ExportEveryLemmas.{every_export_mcc, starts_in_day}
use Rattle.mcc_commands.specs.ExportMcc.{start_at}
use Rattle.scc_commands.proofs.ExportVerdictLemmas.{every_export, export_one}
use Rattle.scc_commands.proofs.ImportVerdictLemmas.{import_one}
use Rattle.scc_commands.proofs.ImportEveryLemmas.{every_import}
use Rattle.verify_commands.proofs.EveryLemmas.{every_verify}
use Rattle.verify_commands.proofs.VerdictLemmas.{verify_one}
use Rattle.words_commands.proofs.VerdictLemmas.{changes_one, every_changes, every_show, show_one}
use Rattle.words_commands.specs.ConcealedScreens.{next_concealed}
use Rattle.words_commands.specs.PacketLines.{next_packets}
use Rattle.words_commands.specs.Screens.{next_changes}
use Rattle.xds_commands.proofs.VerdictLemmas.{xds_one}
use Rattle.xds_commands.proofs.EveryLemmas.{every_xds}
use Rattle.ccsuite_cli.specs.Answer.{input_for, side_for, verdict_of}
use Rattle.ccsuite_cli.specs.Verdict.{EveryInputHasVerdict, FaultsAreTold, VerdictIsAnswered, VerdictIsOne}
use Rattle.ccsuite_cli.specs.declared.command.Command.TheVariants.{Build, Conceal, Convert, Cues, Decode, Dual, Export, ExportMcc, Fit, FitBeside, Help, Import, ImportMcc, Insert, Load, Pairs, Show, Verify, Version, Xds, XdsShow}

pub verdict_one : VerdictIsOne
verdict_one Pairs = pairs_one
verdict_one Build = build_one
verdict_one Cues = cues_one
verdict_one Dual = dual_one
verdict_one Xds = xds_one
verdict_one Decode = changes_one next_changes
verdict_one (Show frame) = show_one frame
verdict_one Conceal = changes_one next_concealed
verdict_one XdsShow = changes_one next_packets
verdict_one Verify = verify_one
verdict_one Insert = insert_one
verdict_one Convert = convert_one
verdict_one (Import time) = import_one time
verdict_one (Export time) = export_one time
verdict_one ImportMcc = import_mcc_one
verdict_one (ExportMcc count time) = export_mcc_one (start_at count time)
verdict_one (Load count) = load_one count
verdict_one (Fit late) = fit_one late
verdict_one (FitBeside late) = fit_beside_one late
verdict_one (Help page) = text_one (page_text page)
verdict_one Version = text_one VERSION_LINE.now

pub every_input : EveryInputHasVerdict
every_input Pairs runs = every_pairs
every_input Build runs = every_build
every_input Cues runs = every_cues
every_input Dual runs = every_dual
every_input Xds runs = every_xds
every_input Decode runs = every_changes next_changes
every_input (Show frame) runs = every_show frame
every_input Conceal runs = every_changes next_concealed
every_input XdsShow runs = every_changes next_packets
every_input Verify runs = every_verify
every_input Insert runs = every_insert
every_input Convert runs = every_convert
every_input (Import time) runs = every_import time
every_input (Export time) runs = every_export time
every_input ImportMcc runs = every_import_mcc
every_input (ExportMcc count time) runs = every_export_mcc (start_at count time) (starts_in_day count time runs)
every_input (Load count) runs = every_load count runs.0 runs.1
every_input (Fit late) runs = every_fit late runs
every_input (FitBeside late) runs = every_fit_beside late runs
every_input (Help page) runs = every_text (page_text page)
every_input Version runs = every_text VERSION_LINE.now

pub verdict_answered : VerdictIsAnswered
verdict_answered command aside input verdict text side later old new answer plain says side_is read is =
    exact (verdict_of command) (verdict_one command) aside input verdict text (side_for command side) (side_for command later) (input_for command old) (input_for command new) answer
    plain says side_is read is

pub faults_told : FaultsAreTold
faults_told command side later old new answer is =
    told (verdict_of command) (side_for command side) (side_for command later) (input_for command old) (input_for command new) answer is

-- what a run without an input leaves
pub load_leaves : (left : Option (List ℕ)) (reads writes still : ℕ) (old new : Option (List ℕ)) (answer : Status)
    → LeavesAll (ends (Some []) reads old writes) (ends (Some []) reads new still) answer → LeavesAll (ends left reads old writes) (ends left reads new still) answer
load_leaves left reads writes still old new answer leaves memory = ap (λ (e : Ends). ends left reads e.written e.write_faults) (leaves memory)
