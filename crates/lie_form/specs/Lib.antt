pub mod DerivativeTerms
pub mod FormLimits
pub mod FormTotals
