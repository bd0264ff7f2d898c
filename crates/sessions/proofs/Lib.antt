-- Laws of the input's bytes: fed one after another, cut at line feeds, and by its lines.
pub mod FeedLaws
pub mod ChunkLaws
pub mod ByLines
