pub mod Insertion
pub mod Walks
