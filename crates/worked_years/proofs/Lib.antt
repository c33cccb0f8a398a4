pub mod Lists
pub mod ByHand
