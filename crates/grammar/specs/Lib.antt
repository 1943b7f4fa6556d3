pub mod Grammar
pub mod Language
pub mod Answers
pub mod LookAhead
pub mod Laws
pub mod Aside
pub mod Union
pub mod code
