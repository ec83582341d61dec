-- Between crates: the program's answer stands on none of these definitions.
-- What a viewer sees of the services of a receiver (CTA-708-E, caption windows).
use Rattle.std.specs.Prelude.{ℕ, ◌-◌, Option, Some, None, slice_get}
use Rattle.services_files.specs.Objects.{screen_in}
use Rattle.services_files.specs.Shown.{grids}
use Rattle.dtvcc_services.specs.declared.members.Member.{Member}
use Rattle.dtvcc_windows.specs.Showing.{ShownWindow}
use Rattle.cc_receiver.specs.declared.receiver.Receiver.{Receiver}

-- what is seen of the windows of a service, where there is one
abbrev pub seen_of_member : Option Member → ℕ → Option ShownWindow
seen_of_member None id = None
seen_of_member (Some member) id = grids (screen_in member.core) id

-- what is seen of the windows of each service from 1 on, by the service and the window's id
abbrev pub seen_windows : Receiver → ℕ → ℕ → Option ShownWindow
seen_windows receiver service id = seen_of_member (slice_get receiver.captions.served.services.members.items (service - 1)) id
