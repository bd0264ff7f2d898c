-- The proof of demand 3 and the laws beside it (docs/PROOF.md), each file after those that it builds on.

-- Tests and lists: laws over the library and the definitions' own list functions
pub mod Tests
pub mod Lists
pub mod Parts
pub mod Walks
pub mod CentsTest
pub mod Shares
-- Tables: what accepted bytes say, and bytes written and read again
pub mod Accepted
pub mod AcceptedChords
pub mod Written
pub mod Survive
pub mod TableLaws
-- Facts that many steps need: numbers by place, chords, jobs, words and refusals, and what a step leaves
pub mod Pigeon
pub mod Backoffs
pub mod Chords
pub mod Jobs
pub mod Words
pub mod Numbers
pub mod Frame
pub mod Grows
pub mod Passage
pub mod Phases
-- The parts of the invariant
pub mod Local
pub mod Oldest
pub mod Choice
pub mod Holding
pub mod Places
pub mod Notes
pub mod Matches
pub mod Owners
pub mod Obligation
pub mod Covers
pub mod Answering
pub mod Invariant
-- Each kind of step keeps it
pub mod AtWork
pub mod Look
pub mod Claim
pub mod Revert
pub mod PassEnd
pub mod Wake
pub mod Consume
pub mod Tell
pub mod Resume
pub mod StepBy
pub mod Adds
-- From the invariant to the demand
pub mod Quiet
pub mod PoolLaws
pub mod Cents
pub mod PoolMeets
pub mod Closes
pub mod PoolRun
pub mod Schedule
-- Any sound board stays sound
pub mod StepFrame
pub mod SoundFacts
pub mod SoundFrame
pub mod SoundJobs
pub mod SoundKept
pub mod Demand
-- Beside the demand
pub mod StaysClosed
pub mod FairShares
pub mod OwnRests
pub mod QuietExactly
pub mod NoChords
pub mod Samples
