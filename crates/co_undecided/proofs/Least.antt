-- The least number that passes a test, and the first entry of a table.
pub use Rattle.co_index.proofs.LeastNumber.{IsLeast, least_once, least_of, least_of_both, passed, table_least}
