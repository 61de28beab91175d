pub mod GeneralColumns
pub mod ColumnLists
pub mod BasisWork
pub mod Laws
