pub mod GoodStreamLemmas
pub mod SoundLaneLemmas
pub mod DelayLemmas
pub mod FitLemmas
