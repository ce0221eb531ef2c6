pub mod BoolLaws
pub mod PriorityLaws
pub mod SessionLaws
pub mod VictimLaws
pub mod WaitLaws
pub mod WordLaws
