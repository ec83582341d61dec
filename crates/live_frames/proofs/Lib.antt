pub mod ColumnFronts
mod EventFronts
mod FieldFronts
mod FrontsLemmas
mod LawLemmas
mod LiveLemmas
mod ServiceFronts
