-- Laws of the report as a whole.
pub mod ReportLength
pub mod ReportLaws
pub mod Stages
pub mod Assured
