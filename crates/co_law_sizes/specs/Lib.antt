pub mod LogRoom
