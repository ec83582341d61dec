pub mod BlockLemmas
pub mod ChannelLemmas
pub mod WrittenLemmas
pub mod SuffixLemmas
