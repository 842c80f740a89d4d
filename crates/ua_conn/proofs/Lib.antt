pub mod KindLemmas
pub mod TableLemmas
pub mod FrontFrameLemmas
pub mod ServerEnd
pub mod Vectors
pub mod BothEnds
pub mod ClientEnd
pub mod BufferedLemmas
