pub mod FirstLemmas
pub mod BoundLemmas
pub mod SeenLemmas
