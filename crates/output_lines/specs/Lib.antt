pub mod Fields
pub mod RecordLines
pub mod TraceLines
pub mod Writing
