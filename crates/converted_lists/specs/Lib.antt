pub use Rattle.windows_shown.specs.Filling
pub mod FilledStreams
pub mod SoundLanes
pub mod ConvertedLists
