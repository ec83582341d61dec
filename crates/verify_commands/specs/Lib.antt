pub use Rattle.cc_verifier.specs.Differing
pub use Rattle.cc_verifier.specs.Findings
pub mod VerifyVerdict
pub mod Verified
pub mod Verifying
