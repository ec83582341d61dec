-- A fitted list stands beside the first one.
use Rattle.std.proofs.Common.{◌≡◌, ◌∙◌, ℕ, inl, inr, List, [], ◌∷◌, sym, subst}
use Rattle.cue_lists.proofs.InOrder.{in_order_formed, same_share}
use Rattle.cue_lists.proofs.SharesInOrder.{in_order_ruled}
use Rattle.cue_lists.specs.Listing.{Listing}
use Rattle.cue_lists.specs.Printing.{in_order}
use Rattle.cue_lists.specs.declared.cue.Cue.{Cue}
use Rattle.cue_fit.specs.Fitted.{list_of}
use Rattle.dual_fit.proofs.BesideLemmas.{takes_of}
use Rattle.dual_fit.specs.FittedBeside.{AreFittedBeside, IsFittedBeside, StandTogether}
use Rattle.dual_fit.specs.Timed.{with_timed}

module _ (late : ℕ) (one two : Listing) where
  -- cues that are fitted after those of a list that stands beside the first one
  pub fitted_stand : (asked earlier cues fitted : List Cue) → StandTogether one (list_of two earlier) → AreFittedBeside late one two asked earlier cues fitted
      → StandTogether one (list_of two fitted)
  fitted_stand asked earlier [] fitted stand are = subst (λ (e : List Cue). StandTogether one (list_of two e)) (sym are) stand
  fitted_stand asked earlier (cue ∷ cues) fitted stand are =
      fitted_stand (cue ∷ asked) (with_timed (takes_of cue asked) are.0 cue earlier) cues fitted are.1.may.together are.2

  -- with its shares in order a list stands as it did
  pub stand_in_order : StandTogether one two → StandTogether one (in_order two)
  stand_in_order stand = record {
    together = record {
      formed = stand.together.formed;
      ruled = stand.together.ruled;
      second_formed = in_order_formed two stand.together.second_formed;
      second_ruled = in_order_ruled two stand.together.second_formed stand.together.second_ruled;
      alike = record {
        rate = stand.together.alike.rate;
        frames = stand.together.alike.frames;
        unshared = λ service. same_share two stand.together.second_formed service ∙ stand.together.alike.unshared service;
      };
      apart = stand.together.apart;
    };
    placed = stand.placed;
    placement = record {
      fields = λ in_field. let places = stand.placement.fields in_field in
          record { first = places.first; first_stand = places.first_stand; second = places.second; second_stand = places.second_stand };
      services = stand.placement.services;
    };
  }

  pub beside_stands : (fitted : Listing) → IsFittedBeside late one two fitted → StandTogether one fitted
  beside_stands fitted (inl same) = subst (StandTogether one) (sym same.1) (stand_in_order same.0)
  beside_stands fitted (inr moved) = subst (StandTogether one) (sym moved.is) (fitted_stand [] [] two.cues moved.cues moved.alone moved.are)
