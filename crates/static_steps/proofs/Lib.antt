pub mod SameValues
mod StepKinds
mod WorkedCalls
mod WorkedIntegers
pub mod WorkedModules
mod WorkedPaths
