-- The worked examples' bytes: that they are bytes, and so that a word of them offends where it is refused.
use Rattle.std.proofs.Common.{◌≡◌, ℕ, ◌&&◌, nat_lt, Bool, true, false, List, [], ◌∷◌, Some, refl, arith}
use Rattle.std.proofs.lemmas.Bool.Decides.{nat_tests}
use Rattle.std.proofs.lemmas.List.Elements.{All-cons, All-nil}
use Rattle.std.specs.List.{All}
use Rattle.cc_base.specs.declared.refusal.Refusal.{Refusal}
use Rattle.words_files.specs.Catching.{refusal_of}
use Rattle.words_files.specs.Offences.{FirstOffendingWord}
use Rattle.carriage_tests.proofs.WordExamples.{IsByte, are_bytes}
use Rattle.services_files.specs.CaptionChannel.{caption_channel}
use Rattle.services_files.specs.Services.{services_say}
use Rattle.services_files.proofs.ChannelFiles.{refused_offence}

both_true : (b c : Bool) → (b && c) ≡ true → (b ≡ true) × (c ≡ true)
both_true true c both = (refl, both)
both_true false c both = absurd cc

bytes-are : (bytes : List ℕ) → are_bytes bytes ≡ true → All IsByte bytes
bytes-are [] test = All-nil IsByte
bytes-are (byte ∷ bytes) test =
    let (one, rest) = both_true (nat_lt byte 256) (are_bytes bytes) test in
    All-cons IsByte byte bytes (grind (arith, nat_tests)) (bytes-are bytes rest)

pub offends : (bytes : List ℕ) (refusal : Refusal) → are_bytes bytes ≡ true → refusal_of services_say bytes ≡ Some refusal
    → FirstOffendingWord caption_channel bytes refusal
offends bytes refusal test some = refused_offence bytes refusal (bytes-are bytes test) some
