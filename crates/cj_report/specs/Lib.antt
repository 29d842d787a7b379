pub mod Counts
pub mod Report
pub mod SpanLines
pub mod Summary
