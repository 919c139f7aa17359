pub mod RowOrder
pub mod FirstFault
pub mod ItemFits
pub mod ItemUnique
pub mod ItemLaws
