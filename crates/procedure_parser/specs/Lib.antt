pub mod Nests
pub mod Choices
pub mod StatementChoices
pub mod Answer
