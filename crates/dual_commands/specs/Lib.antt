pub use Rattle.dual_plans.specs.DualShown
pub mod DualLists
pub mod DualStatus
pub mod DualWords
pub mod DualVerdict
pub mod Judged
