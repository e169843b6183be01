pub mod Arrows
pub mod Numbered
pub mod NotedLines
pub mod KeysOfFiles
pub mod KeyNumbers
pub mod FilesKnown
