pub mod Margining
