pub use Rattle.log_actions.specs.declared.fault
pub mod Literals
