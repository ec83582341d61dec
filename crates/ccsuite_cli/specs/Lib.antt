pub use Rattle.load_commands.specs.LoadList
pub mod Answer
pub mod Command
pub mod StatusLine
pub mod Verdict
