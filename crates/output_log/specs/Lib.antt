pub mod Outputs
pub mod Queues
pub use Rattle.samza_model.specs.Content.{sent_at}
