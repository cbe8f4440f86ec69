-- SPDX-License-Identifier: MIT
-- What follows from the definitions: folding twice is folding once, and the laws of keys and of their images.
pub mod Folding
pub mod KeyLaws
pub mod ImageLaws
