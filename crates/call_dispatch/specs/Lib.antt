-- The four D042h calls behind one function (document 01, "The calls"): definitions, demand 1, then laws.
pub mod SubFunctions
pub mod Call
pub mod Demand1
