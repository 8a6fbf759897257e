-- What a processor loads after a write: the statement, then its proof.
pub mod AfterWrite
