pub mod Names
pub mod NameTable
pub mod NamePairs
pub mod Directory
