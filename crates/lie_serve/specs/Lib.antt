-- The definitions that the contracts cite: the answer to each reply, and what serving a connection leaves.
pub mod Replies
pub mod Serving
