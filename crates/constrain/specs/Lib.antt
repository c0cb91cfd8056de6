-- What a guard asks of a matrix: Rules; RuleLaws says that what is asked of the entries at a phase's places is that.
pub mod RuleLaws
pub mod Rules
