pub mod Places
pub mod EndsLemmas
pub mod IndexLemmas
