pub mod DescriptionsOf
pub mod SizedBefore
pub mod OnePlace
