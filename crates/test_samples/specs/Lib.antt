-- Sample updates and stores: what their makers leave in a buffer.
pub mod SampleBytes
pub mod Make
pub mod Stores
