mod ColouredLemmas
pub mod FormedLemmas
