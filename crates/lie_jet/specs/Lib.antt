pub mod Limits
pub mod Jets
pub mod Slopes
pub mod Listed
pub mod Derivatives
pub mod ValidFields
pub mod JetLists
pub mod Lowered
