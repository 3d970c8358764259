-- What is read cites `Numbers`, `Values`, `Lists` and `Spelling`. `Parts` has what private functions promise each other; nothing
-- outside is claimed by it.
pub use Rattle.samza_model.specs.Names
pub mod Lists
pub mod Numbers
pub mod Parts
pub mod Spelling
pub mod Values
