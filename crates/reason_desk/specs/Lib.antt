pub mod VerdictPlaces
