pub mod Separators
pub mod NumberTexts
mod NameTexts
mod FactorTexts
pub mod SumTexts
pub mod Readable
mod LineTexts
pub mod SystemTexts
pub mod Found
pub mod Grouping
pub mod ToldSystems
mod CountSteps
pub mod DraftSteps
pub mod Drafted
