pub mod SpotsWithin
pub mod Marks
