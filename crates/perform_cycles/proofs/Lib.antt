pub mod Shown
pub mod Halved
pub mod Marked
pub mod Spreading
