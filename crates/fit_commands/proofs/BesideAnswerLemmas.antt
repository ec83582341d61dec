-- What `fit` answers beside a list where its own list isn't read, or is refused, and what it puts.
use Rattle.std.proofs.Common.{◌≡◌, ◌∙◌, refl, inl, inr, ℕ, List, Option, Some, None, Err, subst}
use Rattle.std.specs.Prelude.{IfSome}
use Rattle.cc_base.specs.Streams.{Puts}
use Rattle.cc_base.specs.declared.streams.Put.{Put}
use Rattle.command_base.proofs.MadeLemmas.{PutsMade}
use Rattle.command_base.specs.WholeInput.{ReadsInput}
use Rattle.command_base.specs.declared.status.Status.{Status}
use Rattle.command_base.specs.declared.status.Status.TheVariants as status
use Rattle.cue_list_commands.specs.Accepted.{IsGoodList, IsRefusedList}
use Rattle.cue_list_commands.specs.ListVerdict.{IsReadAgain}
use Rattle.cue_lists.specs.Listing.{Listing}
use Rattle.cue_lists.specs.Printing.{in_order, list_bytes}
use Rattle.cue_lists.specs.Records.{records_of}
use Rattle.cue_lists.specs.Spelling.{list_records}
use Rattle.cue_lists.specs.declared.head.Version.TheVariants as version
use Rattle.dual_fit.specs.FittedBeside.{IsFittedBeside}
use Rattle.dual_fit.specs.Tries.{FitsBeside}
use Rattle.dual_fit.specs.declared.fault.FitFault.{FitFault}
use Rattle.dual_fit.specs.declared.fault.FitFault.TheVariants.{Memory, OtherList, NoRoom, NoRoomBeside}
use Rattle.fit_commands.specs.FitBesideStatus.{misfit_status}
use Rattle.fit_commands.specs.FitBesideVerdict.{IsFittedAsBeside, IsMisfitBeside, IsRefusedFitBeside}

-- a fact of what was left that follows from another
if_left : (P Q : List ℕ → Type 0) (left : Option (List ℕ)) → ((bytes : List ℕ) → P bytes → Q bytes) → IfSome left P → IfSome left Q
if_left P Q None each fact = tt
if_left P Q (Some all) each fact = each all fact

module _ (late : ℕ) (first : Listing) where
  -- what is refused as a list is refused beside any first one
  pub beside_unread : (old new : Option (List ℕ)) (before now : ℕ) (s : Status)
      → ReadsInput IsGoodList IsRefusedList old new before now (Err s) → ReadsInput IsGoodList (IsRefusedFitBeside late first) old new before now (Err s)
  beside_unread old new before now status.Ok read = read
  beside_unread old new before now status.Usage read = read
  beside_unread old new before now status.ReadFault read = read
  beside_unread old new before now status.WriteFault read = read
  beside_unread old new before now status.Memory read = read
  beside_unread old new before now s read =
      (read.0, if_left (λ bytes. IsRefusedList bytes s) (λ bytes. IsRefusedFitBeside late first bytes s) old (λ bytes refused. inl refused) read.1)

  -- a list that can't be fitted is refused
  refused_so : (left : Option (List ℕ)) (list : Listing) (answer : Status) → IfSome left (λ bytes. IsGoodList bytes list) → IsMisfitBeside late first list answer
      → IfSome left (λ bytes. IsRefusedFitBeside late first bytes answer)
  refused_so left list answer good misfit =
      if_left (λ bytes. IsGoodList bytes list) (λ bytes. IsRefusedFitBeside late first bytes answer) left
      (λ bytes is. inr (record { list = list; good = is; holds = misfit })) good

  module _ (old new : Option (List ℕ)) (before now : ℕ) (list : Listing) (same : now ≡ before) (good : IfSome old (λ bytes. IsGoodList bytes list)) where
    pub beside_refused : (fault : FitFault) → FitsBeside late first list (Err fault)
        → ReadsInput IsGoodList (IsRefusedFitBeside late first) old new before now (Err (misfit_status fault))
    beside_refused (Memory error) fits = same
    beside_refused (OtherList rec field) fits = (same, refused_so old list (misfit_status (OtherList rec field)) good fits)
    beside_refused (NoRoomBeside cue) fits = (same, refused_so old list (misfit_status (NoRoomBeside cue)) good fits)
    beside_refused (NoRoom cue) fits = (same, refused_so old list (misfit_status (NoRoom cue)) good fits)

  -- a fitted list was put as it is written, or a front of that
  pub beside_put : (answer : Put) (left old new : Option (List ℕ)) (list fitted : Listing) (text piece : List ℕ) → IfSome left (λ bytes. IsGoodList bytes list)
      → IsFittedBeside late first list fitted → text ≡ list_bytes fitted → records_of text ≡ list_records version.Two (in_order fitted) → piece ≡ text → Puts old new answer piece
      → IfSome left (λ bytes. PutsMade (IsFittedAsBeside late first) list_bytes IsReadAgain answer bytes old new)
  beside_put answer None old new list fitted text piece good is_fitted is again same puts = tt
  beside_put answer (Some bytes) old new list fitted text piece good is_fitted is again same puts = (
    list_bytes fitted,
    (
      fitted,
      record { list = list; good = good; holds = is_fitted },
      refl,
      subst (λ (t : List ℕ). records_of t ≡ list_records version.Two (in_order fitted)) is again,
    ),
    subst (Puts old new answer) (same ∙ is) puts,
  )
