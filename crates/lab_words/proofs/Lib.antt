pub mod Distinct
pub mod LimitLemmas
pub mod NumberLemmas
pub mod Options
pub mod RuleLemmas
pub mod Simple
pub mod TableLemmas
