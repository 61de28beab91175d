pub mod Forms
pub mod Systems
pub mod Powers
pub mod EquationLists
pub mod Validity
