-- Of every list `pairs`, `build` and `cues` make one status.
use Rattle.std.proofs.Common.{◌⊎◌, inl, inr, ℕ, List}
use Rattle.command_base.specs.declared.status.Status.{Status}
use Rattle.command_base.specs.declared.status.Status.TheVariants as status
use Rattle.cue_list_commands.proofs.ListVerdictLemmas.{every_list_judged}
use Rattle.cue_list_commands.proofs.Outputs.{sound_pairs, sound_words}
use Rattle.cue_list_commands.specs.ListVerdict.{BuildVerdict, CuesVerdict, IsReadAgain, PairsVerdict}
use Rattle.cue_list_commands.proofs.Refusals.{are_refusals, list_refusals}
use Rattle.cue_list_commands.specs.Accepted.{IsGoodList, IsRefused, IsRefusedList}
use Rattle.cue_list_commands.specs.Output.{IsPlacedAs, IsSoundPairs, IsSoundWords, PlacedList, framing_of, lines_of}
use Rattle.cue_lists.proofs.PrintedFacts.{records_of-bytes}
use Rattle.cue_lists.specs.Listing.{Listing}
use Rattle.cue_lists.specs.Printing.{in_order, list_bytes}
use Rattle.cue_lists.specs.Records.{records_of}
use Rattle.cue_lists.specs.declared.head.Version.TheVariants as version
use Rattle.frame_carrier.specs.Framing.{words_of}
use Rattle.command_base.proofs.JudgedLemmas.{judged_made}
use Rattle.command_base.specs.Exact.{HasVerdict}

-- of every list they make one status
pub placed_judged : (input : List ℕ) → ((made : PlacedList) × IsPlacedAs input made) ⊎ ((answer : Status) × IsRefused input answer)
placed_judged input = elim (every_list_judged input) [
  | inl accepted ↦ inl (record { list = accepted.0; placed = accepted.1 }, accepted.2)
  | inr refused ↦ inr refused
]

pub every_pairs : HasVerdict (λ aside. PairsVerdict)
every_pairs aside input bytes =
    judged_made IsPlacedAs (λ made. lines_of (framing_of made)) IsSoundPairs IsRefused are_refusals sound_pairs input (placed_judged input)

pub every_build : HasVerdict (λ aside. BuildVerdict)
every_build aside input bytes =
    judged_made IsPlacedAs (λ made. words_of (framing_of made)) IsSoundWords IsRefused are_refusals sound_words input (placed_judged input)

-- where room isn't asked
pub good_or_refused : (bytes : List ℕ) → ((list : Listing) × IsGoodList bytes list) ⊎ ((answer : Status) × IsRefusedList bytes answer)
good_or_refused bytes = elim (every_list_judged bytes) [
  | inl accepted ↦ inl (accepted.0, accepted.2.good)
  | inr refused ↦ by_status refused.0 refused.1
]
  where
    by_status : (answer : Status) → IsRefused bytes answer → ((list : Listing) × IsGoodList bytes list) ⊎ ((answer : Status) × IsRefusedList bytes answer)
    by_status (status.NoRoom cue) lacks = inl (lacks.list, lacks.good)
    by_status answer refused = inr (answer, refused)

pub every_cues : HasVerdict (λ aside. CuesVerdict)
every_cues aside input bytes =
    judged_made IsGoodList list_bytes IsReadAgain IsRefusedList list_refusals (λ bytes list good. records_of-bytes version.Two (in_order list)) input (good_or_refused input)
