pub use Rattle.rate_convert.specs.Misfits
pub use Rattle.words_reading.specs.Causes
pub mod ConvertVerdict
pub mod Converting
pub mod KeptGrids
