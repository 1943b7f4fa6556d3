pub mod ClassLemmas
pub mod Found
pub mod StepLemmas
