pub mod StateLaws
pub mod Annex
