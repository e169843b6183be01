pub mod Clauses
pub mod Rows
