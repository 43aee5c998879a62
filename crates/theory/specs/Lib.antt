-- What theorems here speak of besides the definitions of `model`.
pub mod Structure
