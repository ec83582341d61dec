use Rattle.std.proofs.Common.{refl}
use Rattle.ccsuite_cli.proofs.VerdictLemmas.{load_leaves}
use Rattle.ccsuite_cli.proofs.program.perform.Goals as goal

pub run_export-requires : goal.run_export-requires
run_export-requires g c = rw c.in-Export.is at c.requires

pub run_load-requires : goal.run_load-requires
run_load-requires g c = let within = rw c.in-Load.is at c.requires in record { some = within.0; most = within.1 }

pub run_import-requires : goal.run_import-requires
run_import-requires g c = rw c.in-Import.is at c.requires

pub run_export_mcc-requires : goal.run_export_mcc-requires
run_export_mcc-requires g c = rw c.in-ExportMcc.is at c.requires

pub returns-in-Pairs-clause-answer : goal.returns-in-Pairs-clause-answer
returns-in-Pairs-clause-answer g c = rw c.in-Pairs.is c.run_pairs.ensures

pub returns-in-Pairs-clause-untouched : goal.returns-in-Pairs-clause-untouched
returns-in-Pairs-clause-untouched g c = rw c.in-Pairs.is tt

pub returns-in-Build-clause-answer : goal.returns-in-Build-clause-answer
returns-in-Build-clause-answer g c = rw c.in-Build.is c.run_build.ensures

pub returns-in-Build-clause-untouched : goal.returns-in-Build-clause-untouched
returns-in-Build-clause-untouched g c = rw c.in-Build.is tt

pub returns-in-Cues-clause-answer : goal.returns-in-Cues-clause-answer
returns-in-Cues-clause-answer g c = rw c.in-Cues.is c.run_cues.ensures

pub returns-in-Cues-clause-untouched : goal.returns-in-Cues-clause-untouched
returns-in-Cues-clause-untouched g c = rw c.in-Cues.is tt

pub returns-in-Import-clause-answer : goal.returns-in-Import-clause-answer
returns-in-Import-clause-answer g c = rw c.in-Import.is c.run_import.ensures

pub returns-in-Import-clause-untouched : goal.returns-in-Import-clause-untouched
returns-in-Import-clause-untouched g c = rw c.in-Import.is tt

pub returns-in-Decode-clause-answer : goal.returns-in-Decode-clause-answer
returns-in-Decode-clause-answer g c = rw c.in-Decode.is c.run_decode.ensures.0

pub returns-in-Decode-clause-untouched : goal.returns-in-Decode-clause-untouched
returns-in-Decode-clause-untouched g c = rw c.in-Decode.is c.run_decode.ensures.1

pub returns-in-Show-clause-answer : goal.returns-in-Show-clause-answer
returns-in-Show-clause-answer g c = rw c.in-Show.is c.run_show.ensures.0

pub returns-in-Show-clause-untouched : goal.returns-in-Show-clause-untouched
returns-in-Show-clause-untouched g c = rw c.in-Show.is c.run_show.ensures.1

pub returns-in-Conceal-clause-answer : goal.returns-in-Conceal-clause-answer
returns-in-Conceal-clause-answer g c = rw c.in-Conceal.is c.run_conceal.ensures.0

pub returns-in-Conceal-clause-untouched : goal.returns-in-Conceal-clause-untouched
returns-in-Conceal-clause-untouched g c = rw c.in-Conceal.is c.run_conceal.ensures.1

pub returns-in-XdsShow-clause-answer : goal.returns-in-XdsShow-clause-answer
returns-in-XdsShow-clause-answer g c = rw c.in-XdsShow.is c.run_xds_show.ensures.0

pub returns-in-XdsShow-clause-untouched : goal.returns-in-XdsShow-clause-untouched
returns-in-XdsShow-clause-untouched g c = rw c.in-XdsShow.is c.run_xds_show.ensures.1

pub returns-in-Convert-clause-answer : goal.returns-in-Convert-clause-answer
returns-in-Convert-clause-answer g c = rw c.in-Convert.is c.run_convert.ensures.0

pub returns-in-Convert-clause-untouched : goal.returns-in-Convert-clause-untouched
returns-in-Convert-clause-untouched g c = rw c.in-Convert.is c.run_convert.ensures.1

pub returns-in-Export-clause-answer : goal.returns-in-Export-clause-answer
returns-in-Export-clause-answer g c = rw c.in-Export.is c.run_export.ensures.0

pub returns-in-Export-clause-untouched : goal.returns-in-Export-clause-untouched
returns-in-Export-clause-untouched g c = rw c.in-Export.is c.run_export.ensures.1

pub returns-in-ImportMcc-clause-answer : goal.returns-in-ImportMcc-clause-answer
returns-in-ImportMcc-clause-answer g c = rw c.in-ImportMcc.is c.run_import_mcc.ensures.0

pub returns-in-ImportMcc-clause-untouched : goal.returns-in-ImportMcc-clause-untouched
returns-in-ImportMcc-clause-untouched g c = rw c.in-ImportMcc.is c.run_import_mcc.ensures.1

pub returns-in-ExportMcc-clause-answer : goal.returns-in-ExportMcc-clause-answer
returns-in-ExportMcc-clause-answer g c = rw c.in-ExportMcc.is c.run_export_mcc.ensures.0

pub returns-in-ExportMcc-clause-untouched : goal.returns-in-ExportMcc-clause-untouched
returns-in-ExportMcc-clause-untouched g c = rw c.in-ExportMcc.is c.run_export_mcc.ensures.1

pub returns-in-Verify-clause-answer : goal.returns-in-Verify-clause-answer
returns-in-Verify-clause-answer g c = rw c.in-Verify.is c.run_verify.ensures.0

pub returns-in-Verify-clause-untouched : goal.returns-in-Verify-clause-untouched
returns-in-Verify-clause-untouched g c = rw c.in-Verify.is (c.run_verify.ensures.1, c.run_verify.ensures.2)

pub returns-in-Verify-clause-side : goal.returns-in-Verify-clause-side
returns-in-Verify-clause-side g c = rw c.in-Verify.is (λ none. cc)

pub returns-in-Insert-clause-answer : goal.returns-in-Insert-clause-answer
returns-in-Insert-clause-answer g c = rw c.in-Insert.is c.run_insert.ensures.0

pub returns-in-Insert-clause-untouched : goal.returns-in-Insert-clause-untouched
returns-in-Insert-clause-untouched g c = rw c.in-Insert.is (c.run_insert.ensures.1, c.run_insert.ensures.2)

pub returns-in-Insert-clause-side : goal.returns-in-Insert-clause-side
returns-in-Insert-clause-side g c = rw c.in-Insert.is (λ none. cc)

pub returns-in-Dual-clause-answer : goal.returns-in-Dual-clause-answer
returns-in-Dual-clause-answer g c = rw c.in-Dual.is c.run_dual.ensures.answer

pub returns-in-Dual-clause-untouched : goal.returns-in-Dual-clause-untouched
returns-in-Dual-clause-untouched g c = rw c.in-Dual.is c.run_dual.ensures.untouched

pub returns-in-Dual-clause-side : goal.returns-in-Dual-clause-side
returns-in-Dual-clause-side g c = rw c.in-Dual.is (λ none. cc)

pub returns-in-Xds-clause-answer : goal.returns-in-Xds-clause-answer
returns-in-Xds-clause-answer g c = rw c.in-Xds.is c.run_xds.ensures.answer

pub returns-in-Xds-clause-untouched : goal.returns-in-Xds-clause-untouched
returns-in-Xds-clause-untouched g c = rw c.in-Xds.is c.run_xds.ensures.untouched

pub returns-in-Xds-clause-side : goal.returns-in-Xds-clause-side
returns-in-Xds-clause-side g c = rw c.in-Xds.is (λ none. cc)

pub returns-in-Load-clause-answer : goal.returns-in-Load-clause-answer
returns-in-Load-clause-answer g c = rw c.in-Load.is (c.run_load.ensures _).0

pub returns-in-Load-clause-untouched : goal.returns-in-Load-clause-untouched
returns-in-Load-clause-untouched g c = rw c.in-Load.is (load_leaves _ _ _ _ _ _ c.run_load.result (c.run_load.ensures _).1, refl)

pub run_fit-requires : goal.run_fit-requires
run_fit-requires g c = rw c.in-Fit.is at c.requires

pub returns-in-Fit-clause-answer : goal.returns-in-Fit-clause-answer
returns-in-Fit-clause-answer g c = rw c.in-Fit.is c.run_fit.ensures

pub returns-in-Fit-clause-untouched : goal.returns-in-Fit-clause-untouched
returns-in-Fit-clause-untouched g c = rw c.in-Fit.is tt

pub run_fit_beside-requires : goal.run_fit_beside-requires
run_fit_beside-requires g c = rw c.in-FitBeside.is at c.requires

pub returns-in-FitBeside-clause-answer : goal.returns-in-FitBeside-clause-answer
returns-in-FitBeside-clause-answer g c = rw c.in-FitBeside.is c.run_fit_beside.ensures.answer

pub returns-in-FitBeside-clause-untouched : goal.returns-in-FitBeside-clause-untouched
returns-in-FitBeside-clause-untouched g c = rw c.in-FitBeside.is c.run_fit_beside.ensures.untouched

pub returns-in-FitBeside-clause-side : goal.returns-in-FitBeside-clause-side
returns-in-FitBeside-clause-side g c = rw c.in-FitBeside.is (λ none. cc)

pub returns-in-Help-clause-answer : goal.returns-in-Help-clause-answer
returns-in-Help-clause-answer g c = rw c.in-Help.is (c.run_help.ensures _).0

pub returns-in-Help-clause-untouched : goal.returns-in-Help-clause-untouched
returns-in-Help-clause-untouched g c = rw c.in-Help.is (load_leaves _ _ _ _ _ _ c.run_help.result (c.run_help.ensures _).1, refl)

pub returns-in-Version-clause-answer : goal.returns-in-Version-clause-answer
returns-in-Version-clause-answer g c = rw c.in-Version.is (c.run_version.ensures _).0

pub returns-in-Version-clause-untouched : goal.returns-in-Version-clause-untouched
returns-in-Version-clause-untouched g c = rw c.in-Version.is (load_leaves _ _ _ _ _ _ c.run_version.result (c.run_version.ensures _).1, refl)
