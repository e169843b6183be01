pub mod NamedItems
pub mod Chains
pub mod PairLists
