pub mod PhraseDispatch
pub mod StatementDispatch
pub mod ProcedureDispatch
pub mod ProcedureAnswers
