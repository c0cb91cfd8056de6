-- What is read first: Automaton, bodies 2 and 3. Right is what holds of every location and transition that is read; AutomatonLaws shows
-- it.
pub mod Automaton
pub mod Right
pub mod AutomatonLaws
