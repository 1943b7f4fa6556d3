pub mod Distinct
pub mod Forms
pub mod Listed
pub mod Passing
pub mod Ranges
pub mod Results
pub mod Shapes
pub mod Shared
