pub use Rattle.frame_scheduler.proofs.CaptionsKept
pub use Rattle.frame_scheduler.proofs.ChunkOrderLemmas
pub use Rattle.frame_scheduler.proofs.DelayLemmas
pub use Rattle.frame_scheduler.proofs.EndLemmas
pub use Rattle.frame_scheduler.proofs.EventsApartLemmas
pub use Rattle.frame_scheduler.proofs.LanesLemmas
pub use Rattle.frame_scheduler.proofs.ListDoublingLemmas
pub use Rattle.frame_scheduler.proofs.NextFrameLemmas
pub use Rattle.frame_scheduler.proofs.PlaceLemmas
pub use Rattle.frame_scheduler.proofs.PlanLemmas
pub use Rattle.frame_scheduler.proofs.RoomDecided
pub use Rattle.frame_scheduler.proofs.ServicesLemmas
pub use Rattle.frame_scheduler.proofs.SlotLemmas
pub mod CarriedLemmas
pub mod CarryingLemmas
pub mod OnTheWay
mod WordsLemmas
