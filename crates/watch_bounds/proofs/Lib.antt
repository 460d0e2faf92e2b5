pub mod Totals
pub mod Reaches
pub mod LastRows
pub mod Edges
pub mod HeldOnEdges
pub mod WorkOfRun
pub mod Cheap
