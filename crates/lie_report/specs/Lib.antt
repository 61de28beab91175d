-- The texts that are put.
pub mod Reports
pub mod Terms
pub mod SystemLines
pub mod BasisLines
pub mod Report
pub mod CheckLines
