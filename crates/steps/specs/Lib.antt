-- What the contracts of the steps cite beside the definitions of `model` and the words of `words`.
pub mod Steps
