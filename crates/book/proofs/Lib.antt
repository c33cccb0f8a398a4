pub mod Keeping
pub mod Runs
pub mod Checks
pub mod Attending
