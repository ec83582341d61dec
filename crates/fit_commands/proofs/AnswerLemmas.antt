-- What `fit` answers where its list isn't read, or is refused, and what it puts.
use Rattle.std.proofs.Common.{◌≡◌, ◌∙◌, refl, ℕ, List, Option, Some, None, Err, subst}
use Rattle.std.specs.Prelude.{IfSome}
use Rattle.cc_base.specs.Streams.{Puts}
use Rattle.cc_base.specs.declared.streams.Put.{Put}
use Rattle.command_base.proofs.MadeLemmas.{PutsMade}
use Rattle.command_base.specs.WholeInput.{ReadsInput}
use Rattle.command_base.specs.declared.status.Status.{Status}
use Rattle.command_base.specs.declared.status.Status.TheVariants as status
use Rattle.cue_fit.specs.Fitted.{IsFitted, LacksShow}
use Rattle.cue_list_commands.specs.Accepted.{IsGoodList, IsRefusedList}
use Rattle.cue_list_commands.specs.ListVerdict.{IsReadAgain}
use Rattle.cue_lists.specs.Listing.{Listing}
use Rattle.cue_lists.specs.Printing.{in_order, list_bytes}
use Rattle.cue_lists.specs.Records.{records_of}
use Rattle.cue_lists.specs.Spelling.{list_records}
use Rattle.cue_lists.specs.declared.head.Version.TheVariants as version
use Rattle.fit_commands.specs.FitVerdict.{IsFittedAs, IsRefusedFit}

-- an input that isn't read as a list is refused as `fit` refuses it
pub fit_unread : (late : ℕ) (left now_left : Option (List ℕ)) (before now : ℕ) (s : Status)
    → ReadsInput IsGoodList IsRefusedList left now_left before now (Err s)
    → ReadsInput IsGoodList (IsRefusedFit late) left now_left before now (Err s)
fit_unread late None now_left before now (status.NoRoom cue) h = (h.0, tt)
fit_unread late (Some bytes) now_left before now (status.NoRoom cue) h = absurd h.1
fit_unread late left now_left before now _ h = h

-- a list that can't be fitted is refused
pub fit_refused : (late : ℕ) (left : Option (List ℕ)) (list : Listing) (cue : ℕ) → IfSome left (λ bytes. IsGoodList bytes list) → LacksShow late list cue
    → IfSome left (λ bytes. IsRefusedFit late bytes (status.NoRoom cue))
fit_refused late None list cue good lacks = tt
fit_refused late (Some bytes) list cue good lacks = record { list = list; good = good; holds = lacks }

-- a fitted list was put as it is written, or a front of that
pub fit_put : (late : ℕ) (answer : Put) (left old new : Option (List ℕ)) (list fitted : Listing) (text piece : List ℕ) → IfSome left (λ bytes. IsGoodList bytes list)
    → IsFitted late list fitted → text ≡ list_bytes fitted → records_of text ≡ list_records version.Two (in_order fitted) → piece ≡ text → Puts old new answer piece
    → IfSome left (λ bytes. PutsMade (IsFittedAs late) list_bytes IsReadAgain answer bytes old new)
fit_put late answer None old new list fitted text piece good is_fitted is again same puts = tt
fit_put late answer (Some bytes) old new list fitted text piece good is_fitted is again same puts = (
  list_bytes fitted,
  (
    fitted,
    record { list = list; good = good; holds = is_fitted },
    refl,
    subst (λ (t : List ℕ). records_of t ≡ list_records version.Two (in_order fitted)) is again,
  ),
  subst (Puts old new answer) (same ∙ is) puts,
)
