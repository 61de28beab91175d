-- The definitions that the contracts cite, from the words of a call to what it leaves.
pub mod Words
pub mod Interface
pub mod Outside
pub mod OnFile
pub mod OnDesk
pub mod OnLink
pub mod Run
