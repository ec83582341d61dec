-- What is written of a list that is fitted beside a first one goes beside it.
use Rattle.std.proofs.Common.{refl}
use Rattle.cue_lists.proofs.PrintedFacts.{records_of-bytes}
use Rattle.cue_lists.specs.Printing.{in_order}
use Rattle.cue_lists.specs.declared.head.Version.TheVariants as version
use Rattle.dual_fit.proofs.StandLemmas.{beside_stands, stand_in_order}
use Rattle.dual_fit.specs.FittedBeside.{StandTogether}
use Rattle.fit_commands.specs.FitBesideLaws.{FittedGoesBeside}

pub goes_beside : FittedGoesBeside
goes_beside late cues bytes first fitted good is within =
    let stand : StandTogether first (in_order fitted) = stand_in_order late first fitted (beside_stands late first is.list fitted is.holds) in (
      record {
        within = within;
        spelled = record {
          version = version.Two;
          are = records_of-bytes version.Two (in_order fitted);
          formed = stand.together.second_formed;
          allowed = tt;
        };
        ruled = stand.together.second_ruled;
      },
      (
        record { one = first; two = in_order fitted; placed = stand.placed },
        record { good = good; second_is = refl; together = stand.together; placement = stand.placement },
      ),
    )
