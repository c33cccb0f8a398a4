pub mod Tallies
pub mod Puts
mod Places
pub mod Slips
pub mod OneEach
