pub mod CadenceLemmas
