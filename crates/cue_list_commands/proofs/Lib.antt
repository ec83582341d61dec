pub use Rattle.frame_carrier.proofs.CarriedLemmas
pub use Rattle.frame_carrier.proofs.CarryingLemmas
pub use Rattle.frame_carrier.proofs.EndLemmas
pub use Rattle.frame_carrier.proofs.LanesLemmas
pub use Rattle.frame_carrier.proofs.ListDoublingLemmas
pub use Rattle.frame_carrier.proofs.RoomDecided
pub use Rattle.services_shown.proofs.ChannelLemmas
pub use Rattle.services_shown.proofs.DelayLemmas
pub use Rattle.services_shown.proofs.LaneLemmas
pub use Rattle.services_shown.proofs.LeadingLemmas
pub use Rattle.services_shown.proofs.PlacedBlocksLemmas
pub use Rattle.services_shown.proofs.RoomLemmas
pub use Rattle.services_shown.proofs.SeenLemmas
pub use Rattle.services_shown.proofs.ShownLemmas
pub use Rattle.services_shown.proofs.SoundLemmas
pub use Rattle.services_shown.proofs.SoundSeenLemmas
pub use Rattle.services_shown.proofs.ToldLemmas
pub mod MadeLemmas
mod GatheredLines
pub mod ListVerdictLemmas
mod Migrated
pub mod Outputs
pub mod Refusals
pub mod EveryLemmas
