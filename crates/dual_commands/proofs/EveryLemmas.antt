-- Of every side file and every input `dual` makes one status.
use Rattle.std.proofs.Common.{◌⊎◌, inl, inr, ℕ, List, Ok}
use Rattle.command_base.proofs.WholeInputLemmas.{AreRefusals}
use Rattle.command_base.specs.WholeInput.{IsRefusal}
use Rattle.command_base.specs.declared.status.Status.{Status}
use Rattle.command_base.specs.declared.status.Status.TheVariants as status
use Rattle.cue_list_commands.proofs.EveryLemmas.{good_or_refused}
use Rattle.cue_list_commands.proofs.Refusals.{list_refusals}
use Rattle.cue_list_commands.specs.Accepted.{IsGoodList, IsRefusedList}
use Rattle.cue_lists.specs.Listing.{Listing}
use Rattle.dual_commands.proofs.JudgedLemmas.{every_first_judged}
use Rattle.dual_commands.proofs.SoundLemmas.{sound_dual}
use Rattle.dual_commands.proofs.VerdictLemmas.{OfSecond}
use Rattle.dual_commands.specs.DualLists.{IsPlacedBeside, IsRefusedBeside, IsRefusedPair}
use Rattle.dual_commands.specs.DualWords.{IsSoundDual, dual_framing}
use Rattle.cue_list_commands.specs.Framing.{words_of}
use Rattle.dual_commands.specs.DualVerdict.{DualVerdict}
use Rattle.command_base.proofs.JudgedLemmas.{beside_made, judged_made}
use Rattle.command_base.specs.Exact.{HasVerdict}

pair_refusals : (one two : Listing) (answer : Status) → IsRefusedPair one two answer → IsRefusal answer
pair_refusals one two status.Ok refused = refused
pair_refusals one two status.Usage refused = refused
pair_refusals one two status.ReadFault refused = refused
pair_refusals one two status.WriteFault refused = refused
pair_refusals one two _ refused = tt

beside_refusals : (second : Listing) → AreRefusals (IsRefusedBeside second)
beside_refusals second bytes answer (inl refused) = list_refusals bytes answer refused
beside_refusals second bytes answer (inr pair) = pair_refusals pair.list second answer pair.holds

dual_made : (aside : List ℕ) (second : Listing) → IsGoodList aside second → HasVerdict (λ side. OfSecond second)
dual_made aside second is side input bytes =
    judged_made (IsPlacedBeside second) (λ lists. words_of (dual_framing lists)) IsSoundDual (IsRefusedBeside second) (beside_refusals second) (sound_dual second) input
    (every_first_judged second is.spelled.formed is.ruled input)

pub every_dual : HasVerdict DualVerdict
every_dual = beside_made IsGoodList IsRefusedList OfSecond list_refusals dual_made good_or_refused
