-- The facts of refusal 35 that concern the store, as a test and as what it stands for: "demand 3's facts on blocks, numbers or upload
-- times are broken, or a length, offset or name points at what the store lacks".
use Rattle.std.specs.Prelude.{ℕ, ◌*◌, ◌/◌, ◌%◌, ◌≤◌, ◌≡◌, Bool, ◌&&◌, List, length, leb, eqb}
use Rattle.blocks.specs.Check.{Agrees, agrees_test}
use Rattle.blocks.specs.Owners.{counts_of}
use Rattle.table.specs.Table.{files}
use Rattle.table.specs.Fit.{records_fit, distinct_of}
use Rattle.table.specs.Fit as fit

-- the number of places
abbrev pub places : List ℕ → ℕ
places table = length table / 4

-- whole records, at most 256 of them
abbrev pub table_fits : List ℕ → Bool
table_fits table = leb (places table) 256 && eqb (length table % 4) 0

unfoldable pub sound_test : List ℕ → List ℕ → List ℕ → ℕ → ℕ → Bool
sound_test map owner table last_number last_time =
    table_fits table && (agrees_test map owner (places table)
    && (records_fit last_number last_time (counts_of owner) (files table) && distinct_of (files table)))

-- The facts: at most 256 places; "each storage block is free or belongs to one file"; each record's blocks are those of its length,
-- its number and its upload time were given, it has no more bytes than announced and all of them where it is complete; no two files have
-- the same number, and no two complete files the same upload time.
pub record Sound (map owner table : List ℕ) (last_number last_time : ℕ) : Type 0 where
  pub most : places table ≤ 256
  pub whole : length table % 4 ≡ 0
  pub blocks : Agrees map owner (places table)
  pub files : fit.Sound last_number last_time (counts_of owner) (files table)

-- the sizes of document 01's table that the laws on a sound store assume; outside them calls are refused by 33
pub record Sizes (disk owner : List ℕ) : Type 0 where
  pub some : 1 ≤ length owner
  pub most : length owner ≤ 4096
  pub bytes : 256 * length owner ≤ length disk
