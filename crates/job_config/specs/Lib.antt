-- The contracts of `JobConfig` cite `Table`, `Bounds` and `Outcome`, which stand on the others, but for `Parts`: those are what
-- private functions promise each other, step by step, and nothing outside is claimed by them.
pub use Rattle.config_values.specs.Lists
pub use Rattle.config_values.specs.Numbers
pub use Rattle.config_values.specs.Values
pub mod Asking
pub mod Bounds
pub mod Keys
pub mod Limits
pub mod Outcome
pub mod Parts
pub mod Stores
pub mod Streams
pub mod Table
