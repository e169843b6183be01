pub mod FileDispatch
pub mod FrontDispatch
pub mod FrontAnswers
