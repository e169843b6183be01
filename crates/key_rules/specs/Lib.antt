pub mod KeyPlaces
pub mod Descriptions
pub mod SeenKeys
