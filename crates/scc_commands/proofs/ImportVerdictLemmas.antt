-- Of its input `import` makes one status.
use Rattle.std.proofs.Common.{◌≡◌, ◌<◌, ap, arith, refl, subst, ℕ, List, Ok, Option, Result}
use Rattle.command_base.proofs.OneLemmas.{made_one}
use Rattle.command_base.specs.Exact.{IsOne}
use Rattle.command_base.specs.declared.status.Place.TheVariants.{Byte}
use Rattle.command_base.specs.declared.status.Status.{Status}
use Rattle.command_base.specs.declared.status.Status.TheVariants as status
use Rattle.cc_base.specs.declared.limit_of.LimitOf.TheVariants as limit
use Rattle.cc_base.specs.declared.refusal.Refusal.{Refusal}
use Rattle.scc_files.proofs.Complete.{file_read}
use Rattle.scc_files.proofs.Unique.{no_offence, offence_once}
use Rattle.scc_files.specs.Reading.{frames_of, read_file}
use Rattle.scc_files.specs.SccFiles.{IsSccFile}
use Rattle.scc_commands.specs.Import.{ImportVerdict, IsImport, IsRefusedImport, PlacedPairs, import_words, opening_of}
use Rattle.time_codes.specs.declared.time_code.TimeCode.{TimeCode}
use Rattle.scc_commands.proofs.ImportLemmas.{IsCarriedImport}

-- the bytes of a file are one of pairs alone
same_ok : (one other : PlacedPairs) (r : Result PlacedPairs Refusal) → r ≡ Ok one → r ≡ Ok other → one ≡ other
same_ok one other r is again = cc

pub pairs_once : (opening : Option ℕ) (bytes : List ℕ) (one other : PlacedPairs) → IsSccFile opening one bytes → IsSccFile opening other bytes → one ≡ other
pairs_once opening bytes one other file again = same_ok one other (read_file opening bytes) (file_read opening one bytes file) (file_read opening other bytes again)

-- a file within the limits is refused with no status
pub import_not_refused : (opening : Option ℕ) (bytes : List ℕ) (pairs : PlacedPairs) (refusal : Status) → IsImport opening bytes pairs → IsRefusedImport opening bytes refusal → ⊥
import_not_refused opening bytes pairs (status.Limit limit.Bytes) is long = let within = is.within in omega arith
import_not_refused opening bytes pairs (status.Limit limit.Frames) is (within, (other, file, many)) =
    let few = is.few in
    let more = subst (λ p. 2592000 < frames_of p) (pairs_once opening bytes other pairs file is.file) many in omega arith
import_not_refused opening bytes pairs (status.Malformed (Byte place) why) is (within, offence) =
    no_offence opening bytes (record { place = place; why = why }) pairs offence is.file
import_not_refused opening bytes pairs _ is refusal = absurd refusal

-- one that is refused is refused with one status
pub import_refused_once : (opening : Option ℕ) (bytes : List ℕ) (one other : Status) → IsRefusedImport opening bytes one → IsRefusedImport opening bytes other → one ≡ other
import_refused_once opening bytes (status.Limit limit.Bytes) (status.Limit limit.Bytes) is again = refl
import_refused_once opening bytes (status.Limit limit.Bytes) (status.Limit limit.Frames) is again = let within = again.0 in absurd (omega arith)
import_refused_once opening bytes (status.Limit limit.Bytes) (status.Malformed (Byte place) why) is again = let within = again.0 in absurd (omega arith)
import_refused_once opening bytes (status.Limit limit.Bytes) _ is again = absurd again
import_refused_once opening bytes (status.Limit limit.Frames) (status.Limit limit.Bytes) is again = let within = is.0 in absurd (omega arith)
import_refused_once opening bytes (status.Limit limit.Frames) (status.Limit limit.Frames) is again = refl
import_refused_once opening bytes (status.Limit limit.Frames) (status.Malformed (Byte place) why) is again =
    absurd (no_offence opening bytes (record { place = place; why = why }) is.1.0 again.1 is.1.1)
import_refused_once opening bytes (status.Limit limit.Frames) _ is again = absurd again
import_refused_once opening bytes (status.Malformed (Byte place) why) (status.Limit limit.Bytes) is again = let within = is.0 in absurd (omega arith)
import_refused_once opening bytes (status.Malformed (Byte place) why) (status.Limit limit.Frames) is again =
    absurd (no_offence opening bytes (record { place = place; why = why }) again.1.0 is.1 again.1.1)
import_refused_once opening bytes (status.Malformed (Byte place) why) (status.Malformed (Byte other) reason) is again =
    ap (λ (r : Refusal). status.Malformed (Byte r.place) r.why)
    (offence_once opening bytes (record { place = place; why = why }) (record { place = other; why = reason }) is.1 again.1)
import_refused_once opening bytes (status.Malformed (Byte place) why) _ is again = absurd again
import_refused_once opening bytes _ other is again = absurd is

pub import_one : (time : Option TimeCode) → IsOne (λ aside. ImportVerdict time)
import_one time aside =
    made_one (IsImport (opening_of time)) import_words IsCarriedImport (IsRefusedImport (opening_of time)) (import_not_refused (opening_of time))
    (import_refused_once (opening_of time))
