pub mod Tails
pub mod Shown
pub mod Lines
pub mod Judged
pub mod Checks
