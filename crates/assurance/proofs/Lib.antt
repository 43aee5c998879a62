-- Theorems about the tick machine, runs of calls, and the promise, a file for each subject.
-- over any schedule
pub mod Potential
pub mod Schedule
pub mod Moves
pub mod Count
pub mod Window
pub mod Events
pub mod Response
pub mod Token
pub mod Serving
pub mod Links
pub mod Holding
-- the plain machine
pub mod Firing
pub mod Arriving
pub mod Ending
pub mod Choosing
pub mod Stepping
pub mod Replay
pub mod Machine
pub mod Marks
pub mod Lawful
pub mod PastCounts
-- the promise
pub mod Assurance
pub mod Demand3
pub mod PlainCalls
pub mod Paper
pub mod Instances
