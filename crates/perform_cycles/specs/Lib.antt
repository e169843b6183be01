pub mod Cycles
pub mod Finding
pub mod Lowest
pub mod Plain
