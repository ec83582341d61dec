pub mod Triplets
