-- SPDX-License-Identifier: MIT
-- Keys as they were before they had a class: the definitions of that time, which do not change. Images says which keys they are now.
pub mod Key
