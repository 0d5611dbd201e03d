pub mod DesignBudgets
