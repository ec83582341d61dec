-- The verdict on two lists; and of its side file and its input `dual` makes one status.
use Rattle.std.proofs.Common.{ℕ, List, inl, inr, sym, subst}
use Rattle.command_base.specs.declared.status.Status.{Status}
use Rattle.command_base.specs.declared.status.Status.TheVariants as status
use Rattle.cue_list_commands.specs.Accepted.{IsGoodList, IsRefusedList}
use Rattle.cue_list_commands.proofs.ListVerdictLemmas.{good_not_refused, good_once, list_refused_once}
use Rattle.cue_lists.specs.Listing.{Listing}
use Rattle.command_base.proofs.OneLemmas.{beside_one, made_one}
use Rattle.command_base.specs.Exact.{IsOne}
use Rattle.command_base.specs.MadeVerdict.{MadeVerdict}
use Rattle.dual_commands.specs.DualLists.{IsPlacedBeside, IsRefusedBeside, IsRefusedPair}
use Rattle.dual_commands.specs.DualVerdict.{DualVerdict}
use Rattle.dual_commands.specs.Judged.{AcceptedIsNotRefused, RefusalIsOne}
use Rattle.dual_commands.specs.DualWords.{IsSoundDual, dual_framing}
use Rattle.dual_commands.proofs.PairLemmas.{pair_refused_once, placed_unrefused}
use Rattle.cue_list_commands.specs.Framing.{words_of}

pub accepted_not_refused : AcceptedIsNotRefused
accepted_not_refused second bytes lists answer accepted (inl refused) = good_not_refused bytes lists.one answer accepted.good refused
accepted_not_refused second bytes lists answer accepted (inr refuses) =
    let same = good_once bytes refuses.list lists.one refuses.good accepted.good in
    let refused : IsRefusedPair lists.one second answer = subst (λ (l : Listing). IsRefusedPair l second answer) same refuses.holds in
    placed_unrefused lists.one lists.two lists.placed answer accepted.together accepted.placement
    (subst (λ (l : Listing). IsRefusedPair lists.one l answer) (sym accepted.second_is) refused)

pub refused_once : RefusalIsOne
refused_once second bytes one other (inl first) (inl again) = list_refused_once bytes one other first again
refused_once second bytes one other (inl first) (inr pair) = absurd (good_not_refused bytes pair.list one pair.good first)
refused_once second bytes one other (inr pair) (inl again) = absurd (good_not_refused bytes pair.list other pair.good again)
refused_once second bytes one other (inr first) (inr again) =
    let same = good_once bytes again.list first.list again.good first.good in
    pair_refused_once first.list second one other first.holds (subst (λ (l : Listing). IsRefusedPair l second other) same again.holds)

abbrev pub OfSecond : Listing → List ℕ → Status → List ℕ → Type 0
OfSecond second = MadeVerdict (IsPlacedBeside second) (λ lists. words_of (dual_framing lists)) IsSoundDual (IsRefusedBeside second)

pub dual_one : IsOne DualVerdict
dual_one =
    beside_one IsGoodList IsRefusedList OfSecond good_not_refused list_refused_once
    (λ aside input second other answer text good fine made. subst (λ (l : Listing). OfSecond l input answer text) (good_once aside other second fine good) made)
    (λ second.
    made_one (IsPlacedBeside second) (λ lists. words_of (dual_framing lists)) IsSoundDual (IsRefusedBeside second) (accepted_not_refused second) (refused_once second))
