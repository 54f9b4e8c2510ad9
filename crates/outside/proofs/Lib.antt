pub mod Known
mod Rows
