pub mod Budgets
pub mod Plans
