pub mod Bodies
pub mod FunctionParts
pub mod Groups
pub mod Meaning
pub mod Places
pub mod Printed
pub mod Results
