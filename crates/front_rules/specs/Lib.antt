pub mod Pictures
pub mod Limits
pub mod Levels
pub mod Kinds
pub mod Outside
pub mod Faults
