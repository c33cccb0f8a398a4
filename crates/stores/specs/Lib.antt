pub mod Puts
pub mod Places
pub mod Slips
pub mod Makes
pub mod StoreLaws
