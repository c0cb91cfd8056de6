-- What is read first, definitions only: Automaton (a sheet's locations, transitions and route), Runs (runs along a route, and tightest
-- bounds over their end states), Arrivals (what judging arrivals made of runs), Steps (the steps that Sweep and Windows make along a
-- route) and Lists (all of a list). ArrivalsProof proves the claim of Arrivals; Unique shows that a tightest bound is unique, Visits that
-- a guard's visit is the number of moves made before it, Right what an accepted sheet says of the steps, Indexed how code reads locations
-- and transitions.
pub mod Automaton
pub mod Runs
pub mod Arrivals
pub mod Steps
pub mod Lists
pub mod Visits
pub mod Right
pub mod Indexed
