-- Control (document 01, "The calls", 2), which looks at no store: the tasks, then the definitions and their laws.
pub mod Tasks
pub mod Control
pub mod ControlLaws
