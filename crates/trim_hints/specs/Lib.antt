pub mod Hinting
