pub mod HeapBytes
