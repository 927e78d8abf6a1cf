pub mod ToyLaws
