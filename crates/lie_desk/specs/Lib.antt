-- The definitions that the contracts cite.
pub mod Kept
pub mod Desk
pub mod Due
pub mod Lines
pub mod Steps
pub mod Laws
