pub mod CountLemmas
pub mod InEachCount
pub mod TextLemmas
