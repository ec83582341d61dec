pub mod CutLemmas
pub mod ReaderLemmas
pub mod ApartLemmas
pub mod CueReaderLemmas
pub mod SpelledLemmas
pub mod LimitLemmas
