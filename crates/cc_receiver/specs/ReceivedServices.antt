-- Believed: the program's answer stands on these definitions.
-- What a receiver gets of DTVCC from the frames of a words file: each service is where its events in the frames lead from its reset state
-- (CTA-708-E, sections 5 to 8).
use Rattle.std.specs.Prelude.{ℕ, Bool, List, Option}
use Rattle.cdp_packets.specs.Packets.{Frame}
use Rattle.services_files.specs.Cores.{CoreState}
use Rattle.services_files.specs.Meaning.{served_after, start}
use Rattle.services_files.specs.Shown.{grids}
use Rattle.dtvcc_services.specs.Filling.{is_filled}
use Rattle.dtvcc_windows.specs.Showing.{ShownWindow}
use Rattle.services_files.specs.Events.{frame_events, service_events}
use Rattle.services_files.specs.CarriedChannel.{file_triplets}

-- a service after frames
abbrev pub received_service : List Frame → ℕ → CoreState
received_service frames service = (served_after start (service_events service frames)).core

-- the received grids: what is seen of the windows of each service after frames, by the service and the window's id
abbrev pub received_windows : List Frame → ℕ → ℕ → Option ShownWindow
received_windows frames service id = grids (received_service frames service).screen id

-- a byte of the last frame, after earlier ones, brought what the service holds to 128 bytes
abbrev pub fills_in : List Frame → Frame → ℕ → Bool
fills_in earlier last service = is_filled (served_after start (service_events service earlier)) (frame_events service (file_triplets earlier) last)
