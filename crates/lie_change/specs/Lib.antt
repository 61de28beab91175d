pub mod Tried
pub mod Ends
pub mod Lists
pub mod Tested
