-- Two tables merged: why the law holds, and what the code of a merge rests on.
pub mod Extends
pub mod SameSteps
pub mod SameSchedule
pub mod Merged
pub mod MergedAccepted
pub mod Theorem
pub mod WriteLaws
pub mod Samples
