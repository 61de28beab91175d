-- The lemmas that the answers cite.
mod FamilySums
mod Dues
mod Leaves
