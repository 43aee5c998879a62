-- What a run of writes on a page is stated by.
pub mod Page
