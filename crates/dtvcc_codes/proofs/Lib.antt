pub mod CharacterLemmas
pub mod ReadingLemmas
pub mod SizeLemmas
pub mod KeepLemmas
pub mod SpellingLemmas
pub mod CutLemmas
pub mod SpellableLemmas
pub mod WrittenLemmas
