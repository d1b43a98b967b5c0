-- What holds of legal lists.
pub mod KnownLaws
pub mod TareLaws
pub mod LaneLaws
pub mod PackLaws
pub mod ClosedLaws
pub mod FrozenLaws
pub mod VerdictLaws
mod PageLaws
pub mod RangeLaws
pub mod ReadingLaws
pub mod BatchLaws
pub mod UnsettledLaws
pub mod PopulationLaws
pub mod SampleLaws
pub mod MoveLaws
pub mod DrawnLaws
pub mod SoundLaws
