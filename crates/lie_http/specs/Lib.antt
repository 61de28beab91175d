-- The definitions that the contracts cite: which request the bytes of a connection are, and what a call leaves of the link.
pub mod Requests
pub mod Agreement
pub mod Framing
pub mod Reading
pub mod AnswerText
pub mod Routes
pub mod Places
pub mod NamesJson
