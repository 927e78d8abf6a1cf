pub mod Toys
