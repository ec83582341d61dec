pub use Rattle.ccsuite_cli.specs.LoadList
pub use Rattle.ccsuite_cli.specs.declared.command.Command
pub mod Memory
pub mod Reasons
pub mod Reports
