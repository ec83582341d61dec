pub mod Cadences
