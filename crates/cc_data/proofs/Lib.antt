pub mod TripletLemmas
