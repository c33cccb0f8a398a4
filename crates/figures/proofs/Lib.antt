pub mod Laws
pub mod Shares
