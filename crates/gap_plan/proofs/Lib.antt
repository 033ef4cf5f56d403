pub mod Certifies
