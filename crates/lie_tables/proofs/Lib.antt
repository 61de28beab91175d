mod PlaceLists
mod TableSteps
mod RowLists
mod Keys
mod EquationRows
pub mod Following
mod NextPlaces
pub mod OtherLeads
