-- What the contracts of a run cite beside the definitions of `model` and the tables of `machine`.
pub mod Run
