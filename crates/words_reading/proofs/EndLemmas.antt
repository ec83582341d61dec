-- How bytes end of which no word offends.
use Rattle.std.proofs.Common.{refl, ℕ, List, Err, IfErr, IsOk, Ok, Result}
use Rattle.cc_base.specs.declared.refusal.Refusal.{Refusal}
use Rattle.cdp_packets.specs.Packets.{Frame}
use Rattle.words_files.specs.Offences.{IsFileUnder, IsMalformed, IsUnoffending}
use Rattle.cc_receiver.specs.CaptionChannel.{caption_channel}
use Rattle.words_reading.proofs.PieceLemmas.{cut_short}
use Rattle.words_reading.specs.Judging.{EndsAt}

pub ends_by : (bytes : List ℕ) (answer : Result (Unit {0}) Refusal) → IsUnoffending caption_channel bytes
    → (IsOk answer → (frames : List Frame) × IsFileUnder caption_channel frames bytes) → IfErr answer (λ refused. IsMalformed caption_channel bytes refused)
    → EndsAt bytes answer
ends_by bytes (Ok done) unoffending whole malformed = whole refl
ends_by bytes (Err refusal) unoffending whole malformed = cut_short bytes refusal unoffending malformed
