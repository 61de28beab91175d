pub mod Limits
pub mod Exponents
pub mod Equations
pub mod LeadsAlone
pub mod Systems
pub mod Written
pub mod KeptSystems
