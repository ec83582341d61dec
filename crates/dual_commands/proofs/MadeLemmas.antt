-- What is made of a first list beside a second one.
use Rattle.std.proofs.Common.{◌≡◌, ℕ, List, Option, Some, None, Ok, Err, inl, inr, refl}
use Rattle.std.specs.Prelude.{IfSome}
use Rattle.command_base.specs.WholeInput.{ReadsInput}
use Rattle.command_base.specs.declared.status.Status.{Status}
use Rattle.command_base.specs.declared.status.Status.TheVariants as status
use Rattle.cue_list_commands.specs.Accepted.{IsGoodList, IsRefusedList}
use Rattle.cue_lists.specs.Listing.{Listing}
use Rattle.dual_commands.specs.DualLists.{IsPlacedBeside, IsRefusedBeside, IsRefusedPair}
use Rattle.dual_commands.specs.DualStatus.{fault_status}
use Rattle.dual_commands.specs.DualWords.{dual_framing}
use Rattle.dual_plans.specs.DualAnswer.{IsDualFault}
use Rattle.dual_plans.specs.DualPlacement.{DualPlacement, IsDualPlaced, dual_columns}
use Rattle.dual_plans.specs.FieldPlaces.{GoTogether}
use Rattle.dual_plans.specs.declared.fault.DualFault.{DualFault}
use Rattle.dual_plans.specs.declared.fault.DualFault.TheVariants.{Memory, OtherList, FieldClash, NoRoom, NoRoomBeside}
use Rattle.cue_list_commands.specs.Columns.{Columns}
use Rattle.cue_list_commands.specs.Made.{IsProgrammeOf}
use Rattle.cue_list_commands.specs.Programme.{Programme}

-- a fact of what was left that follows from another
if_left : (P Q : List ℕ → Type 0) (left : Option (List ℕ)) → ((bytes : List ℕ) → P bytes → Q bytes) → IfSome left P → IfSome left Q
if_left P Q None each fact = tt
if_left P Q (Some all) each fact = each all fact

-- what is refused as a list is refused beside any second one
pub first_unread : (second : Listing) (old new : Option (List ℕ)) (before now : ℕ) (s : Status)
    → ReadsInput IsGoodList IsRefusedList old new before now (Err s) → ReadsInput IsGoodList (IsRefusedBeside second) old new before now (Err s)
first_unread second old new before now status.Ok read = read
first_unread second old new before now status.Usage read = read
first_unread second old new before now status.ReadFault read = read
first_unread second old new before now status.WriteFault read = read
first_unread second old new before now status.Memory read = read
first_unread second old new before now s read =
    (read.0, if_left (λ bytes. IsRefusedList bytes s) (λ bytes. IsRefusedBeside second bytes s) old (λ bytes refused. inl refused) read.1)

module _ (one two : Listing) (old new : Option (List ℕ)) (before now : ℕ) (read : ReadsInput IsGoodList IsRefusedList old new before now (Ok one)) where
  -- a planned pair
  pub pair_made : {F : Type 0} (left : F → ℕ) (Gives : Columns → ℕ → F → Type 0) (placed : DualPlacement) (programme : Programme F)
      → GoTogether one two → IsDualPlaced one two placed → programme.rate ≡ one.rate → Gives (dual_columns one two placed) 0 programme.frames
      → left programme.frames ≡ one.frames
      → ReadsInput (IsProgrammeOf (IsPlacedBeside two) dual_framing left Gives) (IsRefusedBeside two) old new before now (Ok programme)
  pair_made left Gives placed programme together is rate gives count = (
    read.0,
    read.1,
    if_left (λ bytes. IsGoodList bytes one) (λ bytes. IsProgrammeOf (IsPlacedBeside two) dual_framing left Gives bytes programme) old
        (λ bytes good. record {
          made = record { one = one; two = two; placed = placed };
          accepted = record { good = good; second_is = refl; together = together; placement = is };
          framing = record { rate_is = rate; gives = gives; count_is = count };
        })
        read.2,
  )

  refused_so : (answer : Status) → IsRefusedPair one two answer
      → (now ≡ before) × IfSome old (λ bytes. IsRefusedBeside two bytes answer)
  refused_so answer refused = (
    read.0,
    if_left (λ bytes. IsGoodList bytes one) (λ bytes. IsRefusedBeside two bytes answer) old
        (λ bytes good. inr (record { list = one; good = good; holds = refused })) read.2,
  )

  -- one without a plan
  pub pair_refused : (fault : DualFault) → IsDualFault one two fault → ReadsInput IsGoodList (IsRefusedBeside two) old new before now (Err (fault_status fault))
  pair_refused (Memory error) is = read.0
  pair_refused (OtherList rec field) is = refused_so (fault_status (OtherList rec field)) is
  pair_refused (FieldClash second first) is =
      refused_so (fault_status (FieldClash second first)) (record { alike = is.0; first = first; least = is.1; fault_is = refl })
  pair_refused (NoRoom cue) is = refused_so (fault_status (NoRoom cue)) is
  pair_refused (NoRoomBeside cue) is = refused_so (fault_status (NoRoomBeside cue)) is
