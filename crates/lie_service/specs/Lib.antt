-- The definitions that the contracts cite: what is replied to each order, and what serving connections leaves.
pub mod Replies
pub mod Orders
pub mod Calls
pub mod Serving
pub mod Entries
pub mod Headline
