pub mod SmallTerms
mod Loops
mod MonomialLists
mod DegreeColumns
mod SaidSums
mod Gathered
mod Rows
mod DegreeBasis
mod Openings
mod Steps
