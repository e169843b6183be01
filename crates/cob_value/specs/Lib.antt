pub mod Arithmetic
pub mod Texts
pub mod Values
pub mod Figures
pub mod Moves
pub mod Comparisons
