-- A cue list with one more cue.
use Rattle.std.proofs.Common.{◌≡◌, ◌<◌, ◌++◌, [], ◌∷◌, List, length, length-append, sym, subst, arith}
use Rattle.std.proofs.lemmas.List.Elements.{All-push}
use Rattle.cue_types.specs.Cues.{IsCueFormed}
use Rattle.cue_types.specs.Listing.{IsFormed, Listing, most_cues}
use Rattle.cue_types.specs.declared.cue.Cue.{Cue}

pub formed_push : (l : Listing) (cue : Cue) (cues : List Cue) → IsFormed l → IsCueFormed cue → length l.cues < most_cues → cues ≡ l.cues ++ cue ∷ []
    → IsFormed (record l { cues = cues })
formed_push l cue cues formed whole few is = subst (λ (cs : List Cue). IsFormed (record l { cues = cs })) (sym is) (record {
  rate = formed.rate;
  some = formed.some;
  frames = formed.frames;
  shares = formed.shares;
  few = omega (arith, length-append l.cues (cue ∷ []), few);
  cues = All-push IsCueFormed l.cues cue formed.cues whole;
})
