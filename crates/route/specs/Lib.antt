-- What is read first: Route, body 4 and its links. RouteLaws is what holds of every route that is read.
pub mod Route
pub mod RouteLaws
