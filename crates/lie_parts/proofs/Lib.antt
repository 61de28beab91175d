pub mod FilledPlaces
mod BucketPlaces
mod BucketSteps
mod Restricted
mod BucketLists
pub mod PartForms
pub mod PartLimits
pub mod BucketParts
pub mod FewerTriples
pub mod BoundedForms
