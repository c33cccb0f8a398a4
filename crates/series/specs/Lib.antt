pub mod Faults
pub mod Limits
pub mod Gaps
pub mod Totals
