-- Between crates: the program's answer stands on none of these definitions.
-- The lanes of services that are placed.
use Rattle.std.specs.Prelude.{◌≡◌, ℕ, zero, suc, is_some, if◌then◌else◌, List, [], ◌∷◌, ◌++◌, ⊤, Result, Ok, Err, Vec}
use Rattle.std.specs.Global.{Global}
use Rattle.cue_lists.specs.Listing.{Listing, share_of}
use Rattle.lanes.specs.declared.planning.PlanFault.{PlanFault}
use Rattle.lanes.specs.declared.planning.PlanFault.TheVariants.{Memory, NoRoom}
use Rattle.lanes.specs.ServicePlan.{IsServicePlan, PlannedService}
use Rattle.frame_scheduler.specs.LaneSets.{IsFaultIn, IsServiceBelow, earlier_fault}
use Rattle.frame_scheduler.specs.Planned.{captions_in, chunks_in, share_in}

-- the services below a number of which the list has a share, in ascending order
abbrev pub shared_below : Listing → ℕ → List ℕ
shared_below list zero = []
shared_below list (suc n) = shared_below list n ++ (if is_some (share_of list n) then n ∷ [] else [])

-- the lane is planned, of this service of the list
abbrev pub IsServicePlanned : Listing → ℕ → PlannedService → Type 0
IsServicePlanned list service = IsServicePlan service (share_in list service) (captions_in list service) (chunks_in list service)

-- the lanes are these services' lanes
abbrev pub AreServicesPlanned : Listing → List ℕ → List PlannedService → Type 0
AreServicesPlanned list [] [] = ⊤
AreServicesPlanned list [] (planned ∷ plans) = ⊥
AreServicesPlanned list (service ∷ services) [] = ⊥
AreServicesPlanned list (service ∷ services) (planned ∷ plans) =
    IsServicePlanned list service planned × AreServicesPlanned list services plans

-- memory ran out
abbrev pub IsMemory : PlanFault → Type 0
IsMemory (Memory error) = ⊤
IsMemory (NoRoom cue) = ⊥

-- one more lane beside others: all of them, or the fault of the earlier cue
abbrev pub IsBeside : Result (Vec PlannedService Global) PlanFault → Result PlannedService PlanFault → Result (Vec PlannedService Global) PlanFault → Type 0
IsBeside (Ok plans) (Ok planned) (Ok all) = all.items ≡ plans.items ++ planned ∷ []
IsBeside (Ok plans) (Ok planned) (Err fault) = IsMemory fault
IsBeside (Ok plans) (Err other) (Ok all) = ⊥
IsBeside (Ok plans) (Err other) (Err fault) = fault ≡ other
IsBeside (Err one) (Ok planned) (Ok all) = ⊥
IsBeside (Err one) (Ok planned) (Err fault) = fault ≡ one
IsBeside (Err one) (Err other) (Ok all) = ⊥
IsBeside (Err one) (Err other) (Err fault) = fault ≡ earlier_fault one other

-- what planning the services below a number answers
abbrev pub AreServices : Listing → ℕ → Result (Vec PlannedService Global) PlanFault → Type 0
AreServices list number (Ok plans) = AreServicesPlanned list (shared_below list number) plans.items
AreServices list number (Err fault) = IsFaultIn (IsServiceBelow number) list fault
