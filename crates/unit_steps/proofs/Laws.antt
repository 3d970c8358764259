-- What the crates above may use of this crate's proofs: laws of its definitions. No other file here is theirs to import.
pub use Rattle.unit_steps.proofs.Acting.{acted, acted_in_window}
pub use Rattle.unit_steps.proofs.Adding.{from_marks_more, keeps, with_core}
pub use Rattle.unit_steps.proofs.Committing.{AtRest, low_here, with_begun, with_commit}
pub use Rattle.unit_steps.proofs.Delivering.{delivered}
pub use Rattle.unit_steps.proofs.Keeping.{keeps_unit, one_start, same_of_task, stays_unit}
pub use Rattle.unit_steps.proofs.Leaving.{left_is}
pub use Rattle.unit_steps.proofs.Marking.{begun_now}
pub use Rattle.unit_steps.proofs.Opening.{OpensAt, opened_stands}
pub use Rattle.unit_steps.proofs.Writing.{finished, finished_unit, marks_more, on_disk_now, open_whatever, stand_open_now, unfinished, unfinished_unit}
