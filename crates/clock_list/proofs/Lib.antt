-- Laws of the list.
pub mod ListLaws
