pub mod ScreenLemmas
pub mod CoreLemmas
pub mod StandsLemmas
pub mod MeaningLemmas
pub mod LawLemmas
pub mod HiddenLemmas
pub mod ShiftLemmas
