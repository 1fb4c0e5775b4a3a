-- `Plans`: tables that planning does not refuse, and what it makes of them.
pub mod Plans
