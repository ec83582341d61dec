-- Of a number of captions `load` makes one status, and a run that puts its lines realises it.
use Rattle.std.proofs.Common.{◌≡◌, ◌∙◌, ◌≤◌, refl, sym, ℕ, List, [], Option, Some}
use Rattle.cc_base.specs.Streams.{Puts, Rose}
use Rattle.cc_base.specs.declared.streams.Put.TheVariants as put
use Rattle.command_base.specs.Ends.{ends}
use Rattle.command_base.specs.Exact.{HasVerdict, IsFault, IsOne}
use Rattle.command_base.specs.declared.status.Status.{Status}
use Rattle.command_base.specs.declared.status.Status.TheVariants as status
use Rattle.load_commands.specs.LoadOutput.{AreLoadLines, summary_text}
use Rattle.load_commands.specs.LoadList.{most_load}
use Rattle.load_commands.proofs.LoadRoomLemmas.{list_placed}
use Rattle.load_commands.specs.LoadVerdict.{LoadVerdict}
use Rattle.load_commands.specs.declared.summary.Summary.{Summary}
use Rattle.command_base.specs.Realises.{RealisesLeaving}

load_ok : (count : ℕ) (input : List ℕ) (answer : Status) (text : List ℕ) → (IsFault answer → ⊥) → LoadVerdict count input answer text → answer ≡ status.Ok
load_ok count input status.Ok text plain is = refl
load_ok count input status.WriteFault text plain is = absurd (plain tt)
load_ok count input _ text plain is = absurd is

pub load_one : (count : ℕ) → IsOne (λ aside. LoadVerdict count)
load_one count aside input one other text more plain told is at = load_ok count input one text plain is ∙ sym (load_ok count input other more told at)

pub load_done : (count reads writes still : ℕ) (old new : Option (List ℕ)) (summary : Summary) → AreLoadLines count (summary_text summary) → Puts old new put.Done (summary_text summary) → still ≡ writes
    → RealisesLeaving (LoadVerdict count) (ends (Some []) reads old writes) (ends (Some []) reads new still) status.Ok
load_done count reads writes still old new summary is puts kept =
    ((refl, record { aside = refl; reads = refl; writes = kept }, (refl, (summary_text summary, is, puts))), λ memory. cc)

pub load_failed : (count reads writes still : ℕ) (old new : Option (List ℕ)) (summary : Summary) → AreLoadLines count (summary_text summary) → Puts old new put.Failed (summary_text summary)
    → Rose writes still → RealisesLeaving (LoadVerdict count) (ends (Some []) reads old writes) (ends (Some []) reads new still) status.WriteFault
load_failed count reads writes still old new summary is puts rose = ((refl, refl, rose, (summary_text summary, is, puts)), λ memory. cc)

pub every_load : (count : ℕ) → 1 ≤ count → count ≤ most_load → HasVerdict (λ aside. LoadVerdict count)
every_load count some most aside input bytes =
    let (placed, placement) = list_placed count some most in
    (status.Ok, _, λ fault. fault, record { placed = placed; placement = placement; text_is = refl })
