-- SPDX-License-Identifier: MIT
-- Which keys those are now that were made before keys had a class: the keys of class IN (RFC 1035 section 3.2.4).
use Rattle.std.specs.Prelude.{ℕ}
use Rattle.rrc_name.specs.Key.{KeyOf}
use Rattle.rrc_name.specs.classless.Key as classless

-- the number of class IN
abbrev pub IN : ℕ
IN = 1

-- the key of the same name and slot in class IN
abbrev pub image_of : classless.KeyOf → KeyOf
image_of key = record { name = key.name; class = IN; slot = key.slot }

-- the key of which one of class IN is the image
abbrev pub without_class : KeyOf → classless.KeyOf
without_class key = record { name = key.name; slot = key.slot }
