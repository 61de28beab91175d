pub mod Normal
pub mod Variables
pub mod Foreign
pub mod Cross
pub mod Isolate
