-- Of every input `import` makes one status.
use Rattle.std.proofs.Common.{◌≡◌, ◌≤◌, ◌⊎◌, inl, inr, length, refl, ℕ, List, Option, Result, Ok, Err}
use Rattle.std.proofs.lemmas.Bool.{cases_lt}
use Rattle.cc_base.specs.Streams.{whole_limit}
use Rattle.cc_base.specs.declared.limit_of.LimitOf.TheVariants as limit
use Rattle.cc_base.specs.declared.refusal.Refusal.{Refusal}
use Rattle.command_base.specs.declared.status.Place.TheVariants.{Byte}
use Rattle.command_base.specs.declared.status.Status.{Status}
use Rattle.command_base.specs.declared.status.Status.TheVariants as status
use Rattle.scc_commands.proofs.ImportLemmas.{IsCarriedImport, carried_import, import_refusals}
use Rattle.scc_commands.specs.Import.{ImportVerdict, IsImport, IsRefusedImport, PlacedPairs, import_words, most_import_frames, opening_of}
use Rattle.time_codes.specs.declared.time_code.TimeCode.{TimeCode}
use Rattle.scc_files.proofs.First.{first_offence}
use Rattle.scc_files.proofs.Timed.{file_sound}
use Rattle.scc_files.specs.Reading.{frames_of, read_file}
use Rattle.command_base.proofs.JudgedLemmas.{judged_made}
use Rattle.command_base.specs.Exact.{HasVerdict}

abbrev ImportJudged : Option ℕ → List ℕ → Type 0
ImportJudged opening bytes = ((pairs : PlacedPairs) × IsImport opening bytes pairs) ⊎ ((answer : Status) × IsRefusedImport opening bytes answer)

import_by : (opening : Option ℕ) (bytes : List ℕ) → length bytes ≤ whole_limit → (found : Result PlacedPairs Refusal) → read_file opening bytes ≡ found → ImportJudged opening bytes
import_by opening bytes within (Err refusal) is = inr (status.Malformed (Byte refusal.place) refusal.why, (within, first_offence opening bytes refusal is))
import_by opening bytes within (Ok pairs) is = elim (cases_lt most_import_frames (frames_of pairs)) [
  | inl many ↦ inr (status.Limit limit.Frames, (within, (pairs, file_sound opening pairs bytes is, many)))
  | inr few ↦ inl (pairs, record { within = within; file = file_sound opening pairs bytes is; few = few })
]

import_judged : (opening : Option ℕ) (bytes : List ℕ) → ImportJudged opening bytes
import_judged opening bytes = elim (cases_lt whole_limit (length bytes)) [
  | inl long ↦ inr (status.Limit limit.Bytes, long)
  | inr within ↦ import_by opening bytes within (read_file opening bytes) refl
]

pub every_import : (time : Option TimeCode) → HasVerdict (λ aside. ImportVerdict time)
every_import time aside input bytes =
    judged_made (IsImport (opening_of time)) import_words IsCarriedImport (IsRefusedImport (opening_of time)) (import_refusals (opening_of time))
    (carried_import (opening_of time)) input (import_judged (opening_of time) input)
