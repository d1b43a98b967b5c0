-- The works of jobs, passed on to who names no lower crate.
pub use Rattle.session_jobs.specs.declared.work.Work.{Work}
pub use Rattle.session_jobs.specs.declared.work.Work.TheVariants.{Lane, Door}
pub use Rattle.session_jobs.specs.Works.{lane_site, door_site}
