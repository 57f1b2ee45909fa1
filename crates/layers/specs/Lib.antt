-- That there is a gate for each pair, and which qubits the first pairs name.
pub mod Room
pub mod Named
