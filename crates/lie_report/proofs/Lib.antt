-- The lemmas that the answers cite.
pub mod Lines
pub mod Lists
pub mod ShownNumbers
pub mod PairSteps
