pub mod OneClasses
pub mod OneLayering
pub mod DesignBudgets
