pub mod CanonicalText
pub mod RightSides
