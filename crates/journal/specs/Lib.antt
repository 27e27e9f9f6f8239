pub mod Ready
pub mod CodeCalls
