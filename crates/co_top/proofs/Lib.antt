pub mod Recording
pub mod Lists
pub mod Laws
pub mod LeftRecords
pub mod Again
pub mod Left
pub mod Ending
pub mod Plays
pub mod Reading
pub mod Judging
pub mod Headlines
pub mod Completing
pub mod Refusing
pub mod OneRun
pub mod Resuming
pub mod Trying
mod Followed
mod FollowedEnd
mod Sights
mod Snapshots
mod Follows
mod Breaking
mod FollowedWhole
mod Asking
mod Migrations
mod TurnsAlong
mod TurnsTaken
mod TurnsLeft
mod TurnsListed
mod FewDoubts
mod Resolves
