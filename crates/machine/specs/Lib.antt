-- What the contracts of a call cite beside the definitions of `model`, the words of `words` and the steps of `steps`.
pub mod Calls
