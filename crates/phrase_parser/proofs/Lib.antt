pub mod FormLaws
pub mod EntryLaws
pub mod Lists
pub mod Dispatch
pub mod LastEntry
