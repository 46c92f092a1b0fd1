pub use Rattle.io_core.specs.Streams
pub mod Memory
