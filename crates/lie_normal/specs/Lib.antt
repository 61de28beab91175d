pub mod Orders
pub mod TermSums
pub mod WorkCauses
pub mod FormLists
pub mod Leads
pub mod WorkedValues
