mod FiniteSystems
mod FiniteLists
pub mod Halving
pub mod ColumnLists
mod FormColumns
mod GeneralColumns
mod BasisOutcomes
pub mod UnknownRows
mod RowFields
mod SystemBasis
mod ClosedForms
mod ClosedTerms
