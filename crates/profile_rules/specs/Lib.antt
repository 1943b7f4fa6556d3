pub mod Adaptive
pub mod Base
pub mod Calls
pub mod Findings
pub mod Laws
pub mod Shared
pub mod Walk
pub mod code
