pub mod Kinds
pub mod SeenSides
pub mod JudgedConditions
